use Rattle.aliasing.proofs.Repeats.{Repeated}
use Rattle.aliasing.proofs.members.repeat.Given as goal

-- so many multiples are written
abbrev pub invariant-loop-place : goal.invariant-loop-place
invariant-loop-place g l = Repeated g.L.Levels.model g.met.L.Levels.lawful l.n l.row l.front l.place l.len l.memory l.fn.memory
