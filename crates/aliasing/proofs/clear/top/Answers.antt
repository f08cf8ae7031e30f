use Rattle.aliasing.proofs.Factors.{top_low, top_high}
use Rattle.aliasing.proofs.clear.top.Goals as goal

-- by the leading zeros
pub returns-clause-low : goal.returns-clause-low
returns-clause-low c = top_low c.args.word c.ranges.word.fits

pub returns-clause-high : goal.returns-clause-high
returns-clause-high c = top_high c.args.word c.ranges.word.fits
