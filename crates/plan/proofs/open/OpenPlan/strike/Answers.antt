-- The plan stays kept, whether the word is struck or there is none.
use Rattle.contents.specs.Content.{struck}
use Rattle.contents.specs.Held.{content_of}
use Rattle.contents.proofs.Keeps.{acts_kept, struck_kept}
use Rattle.plan.proofs.open.OpenPlan.strike.Goals as goal

pub invariant_of-self : goal.invariant_of-self
invariant_of-self g c =
    let A = g.L.Levels.model in
    let p = content_of c.self.inside.held in
    let q = content_of c.strike.new.self in
    acts_kept A (struck c.args.side c.args.place p) p q c.strike.result c.strike.ensures c.self.invariant
    (λ r. struck_kept A g.met.L.Levels.lawful c.args.side c.args.place p r c.self.invariant)
