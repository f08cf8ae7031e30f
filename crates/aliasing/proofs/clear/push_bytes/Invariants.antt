use Rattle.bounded.specs.Items.{items_of}
use Rattle.aliasing.proofs.Crowds.{Pushed}
use Rattle.aliasing.proofs.clear.push_bytes.Given as goal

-- the bytes of the pairs of the factors before i
abbrev pub invariant-loop-i : goal.invariant-loop-i
invariant-loop-i l = Pushed l.n l.words l.i (items_of l.bytes)
