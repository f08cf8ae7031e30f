use Rattle.levels.proofs.Theory as theory
use Rattle.levels.proofs.theorems.generation.Goals as goal

pub returns : goal.returns
returns g c = theory.generation g.L.Levels.model g.met.L.Levels.lawful
