-- The bytes of a sheet, as a list.
use Rattle.std.specs.Prelude.{ℕ, List}
use Rattle.bounded.specs.Items.{items_of}
use Rattle.page.specs.declared.sheet.Sheet.{Sheet}

-- the bytes that were written so far
abbrev pub written : Sheet → List ℕ
written sheet = items_of sheet.bytes
