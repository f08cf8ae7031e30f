use Rattle.levels.specs.Words.{code_sum}
use Rattle.levels.proofs.Masks.{xor_sum}
use Rattle.levels.proofs.two.TwoLevelsLevels.add.Goals as goal

-- exclusive or is the sum of digits of one bit
pub returns : goal.returns
unfolding code_sum
returns c = xor_sum 64 c.args.a c.args.b c.ranges.a.fits c.ranges.b.fits
