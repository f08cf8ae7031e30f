use Rattle.levels.proofs.Theory as theory
use Rattle.levels.proofs.theorems.words_are_a_vector_space.Goals as goal

pub returns : goal.returns
returns g c = theory.words_are_a_vector_space g.L.Levels.model g.met.L.Levels.lawful
