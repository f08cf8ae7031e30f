use Rattle.std.proofs.Common.{ap, ◌∙◌}
use Rattle.bindings.specs.Asked.{left, told}
use Rattle.bindings.proofs.Known.{generators_known}
use Rattle.bindings.proofs.generators.choose_by.Goals as goal

pub returns-in-Longest : goal.returns-in-Longest
returns-in-Longest g c =
    let best = generators_known g.L.Levels.model c.args.costs c.args.file.now c.args.side c.args.preference _ _ _ c.in_ok-side.ensures c.in_ok-rule.ensures c.in-Longest.is in
    record {
      count = c.choose-in-Longest.ensures.count ∙ ap (λ r. told r c.args.memory.now) best;
      stored = c.choose-in-Longest.ensures.stored ∙ ap (λ r. left r c.args.memory.now) best;
    }

pub returns-in-CheapestThenLeastAberration : goal.returns-in-CheapestThenLeastAberration
returns-in-CheapestThenLeastAberration g c =
    let best = generators_known g.L.Levels.model c.args.costs c.args.file.now c.args.side c.args.preference _ _ _ c.in_ok-side.ensures c.in_ok-rule.ensures c.in-CheapestThenLeastAberration.is in
    record {
      count = c.choose-in-CheapestThenLeastAberration.ensures.count ∙ ap (λ r. told r c.args.memory.now) best;
      stored = c.choose-in-CheapestThenLeastAberration.ensures.stored ∙ ap (λ r. left r c.args.memory.now) best;
    }
