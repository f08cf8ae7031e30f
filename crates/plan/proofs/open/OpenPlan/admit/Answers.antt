-- The plan stays kept, whether the word is admitted or refused.
use Rattle.contents.specs.Content.{admitted}
use Rattle.contents.specs.Held.{content_of}
use Rattle.contents.proofs.Keeps.{acts_kept, admitted_kept}
use Rattle.plan.proofs.open.OpenPlan.admit.Goals as goal

pub invariant_of-self : goal.invariant_of-self
invariant_of-self g c =
    let A = g.L.Levels.model in
    let p = content_of c.self.inside.held in
    let q = content_of c.admit.new.self in
    acts_kept A (admitted A c.args.side c.args.word p) p q c.admit.result c.admit.ensures c.self.invariant
    (λ r. admitted_kept A g.met.L.Levels.lawful c.args.side c.args.word p r c.self.invariant)
