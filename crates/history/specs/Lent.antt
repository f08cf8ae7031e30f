-- The memory that questions are lent.
use Rattle.std.specs.Prelude.{ℕ, List}
use Rattle.history.specs.declared.memory.Memory.{Memory}

-- what lent memory holds: bytes, 32-bit numbers and 64-bit numbers
pub record Lent : Type 0 where
  pub bytes : List ℕ
  pub counts : List ℕ
  pub words : List ℕ

-- what the memory of the code holds
abbrev pub lent : Memory → Lent
lent m = record { bytes = m.bytes.items; counts = m.counts.items; words = m.words.items }
