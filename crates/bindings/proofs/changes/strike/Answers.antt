use Rattle.contents.specs.Content.{struck}
use Rattle.bindings.proofs.Acted.{side_left}
use Rattle.bindings.proofs.changes.strike.Goals as goal

pub returns-clause-stored : goal.returns-clause-stored
returns-clause-stored g c =
    side_left g.L.Levels.model (λ s. struck s c.args.place) _ _ _ _ _ _ _ _ c.write.ensures.stored c.settle.ensures.same c.in_ok-plan.ensures c.in_ok-side.ensures c.in_ok-strike.ensures
