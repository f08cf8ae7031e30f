use Rattle.std.proofs.Common.{length}
use Rattle.aliasing.specs.Blocks.{above}
use Rattle.aliasing.proofs.members.+member.Given as goal

-- the rows above the floor become fewer
abbrev pub decreases-member : goal.decreases-member
decreases-member g l = length (above l.floor l.rows.now)
