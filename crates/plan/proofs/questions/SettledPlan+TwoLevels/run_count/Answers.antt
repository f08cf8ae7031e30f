-- Each of the independent defining words halves the number of runs.
use Rattle.std.proofs.Common.{◌≡◌, ◌-◌, ◌^◌, ◌≤◌, length, ap, ◌∙◌, arith}
use Rattle.std.proofs.Math.Pow.{pow_mono}
use Rattle.std.proofs.lemmas.Nat.{one_shl}
use Rattle.levels.specs.Arithmetic.{two}
use Rattle.levels.specs.Lawful.{lawful_two}
use Rattle.levels.specs.Generated.{generated}
use Rattle.aliasing.proofs.Chosen.{runs_total}
use Rattle.aliasing.proofs.Listed.{upto_length}
use Rattle.contents.proofs.Keeps.{kept_defining}
use Rattle.plan.specs.Answers.{runs_of}
use Rattle.plan.proofs.questions.SettledPlan+TwoLevels.run_count.Goals as goal

pub returns : goal.returns
returns c =
    let p = c.args.self.now in
    let n = p.factors in
    let k = c.list.ensures.kept in
    let d = kept_defining two lawful_two p k in
    let free = c.saturating_sub.result in
    let exponent : free ≡ n - length p.defining = omega (arith, ap length c.list.ensures.words) in
    let small : free ≤ 32 = omega (arith, k.high) in
    let shifted = one_shl free 64 (omega arith) in
    let total : length (runs_of p) ≡ 2 ^ (n - length p.defining) =
    upto_length n (generated two n p.defining) (2 ^ n) ∙ runs_total n k.low k.high p.defining d.independent d.words in
    let most : 2 ^ free ≤ 2 ^ 32 = pow_mono small in
    record {
      count = omega (arith, shifted, total, ap (λ e. 2 ^ e) exponent);
      few = omega (arith, shifted, most);
    }
