-- A run is found in the list of runs. The defining words are legal and independent, so each halves the number of runs.
use Rattle.std.proofs.Common.{◌≡◌, ℕ, ◌-◌, ◌^◌, ◌≤◌, length, ◌∙◌}
use Rattle.levels.specs.Arithmetic.{two}
use Rattle.levels.specs.Lawful.{lawful_two}
use Rattle.levels.specs.Space.{AllWords}
use Rattle.levels.specs.Generated.{Independent, generated}
use Rattle.aliasing.specs.Runs.{is_run, runs_below}
use Rattle.aliasing.proofs.Listed.{upto_length}
use Rattle.contents.proofs.Keeps.{kept_defining}
use Rattle.plan.proofs.Running.{run_answer}
use Rattle.plan.proofs.questions.SettledPlan+TwoLevels.run.Goals as goal

pub returns : goal.returns
returns c =
    let p = c.args.self.now in
    let n = p.factors in
    let ds = p.defining in
    let set = generated two n ds in
    let k = c.list.ensures.kept in
    let d = kept_defining two lawful_two p k in
    let words = c.list.ensures.words in
    let factors = c.factors.ensures.value in
    let same : AllWords two n ds → (x : ℕ) → is_run n set x ≡ is_run n ds x = rw (← words, ← factors) c.run.ensures.same in
    let total : 1 ≤ n → n ≤ 32 → Independent two n ds → AllWords two n ds → runs_below n set (2 ^ n) ≡ 2 ^ (n - length ds) =
    rw (← words, ← factors) c.run.ensures.total in
    record {
      value = c.ok_or.ensures.value ∙ run_answer n c.factors.result ds c.list.result.now c.args.m c.run.result factors words c.run.ensures.found;
      runs = same d.words;
      total = upto_length n set (2 ^ n) ∙ total k.low k.high d.independent d.words;
    }
