-- The bytes of a buffer, as a list.
use Rattle.std.specs.Prelude.{ℕ, List}
use Rattle.bounded.specs.Items.{items_of}
use Rattle.planfile.specs.declared.buffer.Buffer.{Buffer}

-- the bytes that were written so far
abbrev pub written : Buffer → List ℕ
written b = items_of b.bytes
