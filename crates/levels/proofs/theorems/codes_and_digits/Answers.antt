use Rattle.levels.proofs.Theory as theory
use Rattle.levels.proofs.theorems.codes_and_digits.Goals as goal

pub returns : goal.returns
returns g c = theory.codes_and_digits g.L.Levels.model g.met.L.Levels.lawful
