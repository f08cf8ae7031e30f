use Rattle.levels.proofs.Theory as theory
use Rattle.levels.proofs.theorems.lengths.Goals as goal

pub returns : goal.returns
returns g c = theory.lengths g.L.Levels.model g.met.L.Levels.lawful
