use Rattle.levels.proofs.Masks.{either_length}
use Rattle.levels.proofs.three.ThreeLevelsLevels.length.Goals as goal

-- a digit has a bit that is set where it is not 0
pub returns : goal.returns
returns c = either_length c.args.word c.ranges.word.fits
