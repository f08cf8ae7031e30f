use Rattle.std.proofs.Common.{◌+◌, ◌-◌, ◌*◌, ◌<◌, length}
use Rattle.aliasing.specs.Buckets.{Chained}
use Rattle.aliasing.proofs.Others.{Seen}
use Rattle.aliasing.proofs.clear.mark_others.Given as goal

-- the words of earlier factors with each later one are seen
abbrev pub invariant-loop-i : goal.invariant-loop-i
invariant-loop-i l = Chained l.least (33 * l.i) l.last l.before × Seen l.least (33 * l.i) l.alone

-- and those of factor i with each up to j
abbrev pub invariant-loop-j : goal.invariant-loop-j
invariant-loop-j l = Chained l.least (32 * l.i + l.j - 1) l.last l.before × Seen l.least (32 * l.i + l.j - 1) l.alone × (l.i < length l.least)
