-- Both lists together generate a word exactly if it is among the words that they generate.
use Rattle.std.proofs.Common.{ℕ, List, Decides, ◌∙◌, subst}
use Rattle.std.proofs.lemmas.Bool.Decides.{same_from_decides}
use Rattle.levels.specs.Generated.{Generates, generated, holds}
use Rattle.contents.specs.Content.{both}
use Rattle.contents.specs.Held.{content_of}
use Rattle.contents.proofs.Membership.{holds_decides}
use Rattle.contents.proofs.content.PlanContent.generates.Goals as goal

pub returns : goal.returns
returns g c =
    let A = g.L.Levels.model in
    let n = c.args.self.now.factors in
    let w = c.args.word in
    let all = both (content_of c.args.self.now) in
    same_from_decides c.generated.result (holds (generated A n all) w)
    (subst (λ (zs : List ℕ). Decides c.generated.result (Generates A n zs w)) (c.as_slice.ensures ∙ c.together.ensures) c.generated.ensures)
    (holds_decides A g.met.L.Levels.lawful n all w)
