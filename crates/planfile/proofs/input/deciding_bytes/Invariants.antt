-- The bytes so far stood at the front of the input, and the rest is left.
use Rattle.std.specs.Io.KnownBytes.{Consumes}
use Rattle.bounded.specs.Items.{items_of}
use Rattle.planfile.proofs.input.deciding_bytes.Given as goal

abbrev pub invariant-loop : goal.invariant-loop
invariant-loop g l = Consumes (g.R.Read.remaining l.fn.reader) (g.R.Read.remaining l.reader) (items_of l.first)
