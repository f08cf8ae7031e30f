use Rattle.levels.specs.Words.{word_length}
use Rattle.levels.proofs.Masks.{ones_nonzero}
use Rattle.levels.proofs.two.TwoLevelsLevels.length.Goals as goal

-- a bit that is set is a digit that is not 0
pub returns : goal.returns
unfolding word_length
returns c = ones_nonzero 64 c.args.word c.ranges.word.fits
