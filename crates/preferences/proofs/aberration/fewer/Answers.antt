use Rattle.std.proofs.Common.{arith}
use Rattle.preferences.specs.Counts.{counts_verdict}
use Rattle.preferences.proofs.aberration.fewer.Goals as goal

-- the two tallies, as lists of one length
pub returns : goal.returns
returns c = let verdict = counts_verdict c.args.a.now c.args.b.now (omega arith) in cc
