-- The words of a table, as a list.
use Rattle.std.specs.Prelude.{ℕ, List}
use Rattle.bounded.specs.Items.{items_of}
use Rattle.contents.specs.declared.words.Words.{Words}

-- the words of a list in their order
abbrev pub listed : Words → List ℕ
listed ws = items_of ws.words
