use Rattle.contents.specs.Content.{admitted}
use Rattle.bindings.proofs.Acted.{side_left}
use Rattle.bindings.proofs.changes.admit.Goals as goal

pub returns-in_err-write-clause-stored : goal.returns-in_err-write-clause-stored
returns-in_err-write-clause-stored g c =
    side_left g.L.Levels.model (λ s. admitted g.L.Levels.model s c.args.word) _ _ _ _ _ _ _ _ c.write.ensures.stored c.settle.ensures.same c.in_ok-plan.ensures c.in_ok-side.ensures c.in_ok-admit.ensures

pub returns-clause-stored : goal.returns-clause-stored
returns-clause-stored g c =
    side_left g.L.Levels.model (λ s. admitted g.L.Levels.model s c.args.word) _ _ _ _ _ _ _ _ c.write.ensures.stored c.settle.ensures.same c.in_ok-plan.ensures c.in_ok-side.ensures c.in_ok-admit.ensures
