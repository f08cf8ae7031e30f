-- The choice over the lists of a side cuts nothing off. The words of the plan are independent, so its generators are.
use Rattle.std.proofs.Common.{◌≡◌, ◌≤◌, length, sym, ap, ◌∙◌, arith}
use Rattle.contents.specs.declared.side.Side.{Side}
use Rattle.contents.specs.Content.{side_of}
use Rattle.plan.specs.Answers.{base_of}
use Rattle.plan.proofs.Choosing.{chosen_few, chosen_whole, side_as_many, side_independent}
use Rattle.plan.proofs.settled.SettledPlan.generators.Goals.{in-Defining, in-Block}
use Rattle.plan.proofs.settled.SettledPlan.generators.Goals as goal

pub returns : goal.returns
returns g c =
    let A = g.L.Levels.model in
    let good = g.P.Preference.good c.args.preference.now in
    let side = c.args.side in
    let p = c.args.self.now in
    let few : length (side_of side p) ≤ 16 = omega (arith, ap length c.list.ensures.words, c.list.ensures.few) in
    let base : c.match-side.base.now ≡ base_of side p =
    elim c.match-side.branch [
      | in-Defining w ↦ ap (λ b. b.now) w.base-is ∙ ap (λ (s : Side). base_of s p) (sym w.in-Defining.is)
      | in-Block w ↦ ap (λ b. b.now) w.base-is ∙ w.list-base.ensures.words ∙ ap (λ (s : Side). base_of s p) (sym w.in-Block.is)
    ] in
    record {
      words = rw (c.choose.ensures.exact, base, c.list.ensures.words, c.factors.ensures.value) (chosen_whole A g.met.L.Levels.lawful good side p few);
      few = chosen_few A g.met.L.Levels.lawful good side p few;
      independent = side_independent A g.met.L.Levels.lawful good (g.met.P.Preference.lawful c.args.preference.now) side p c.list.ensures.kept;
      as_many = side_as_many A g.met.L.Levels.lawful good (g.met.P.Preference.lawful c.args.preference.now) side p c.list.ensures.kept;
    }
