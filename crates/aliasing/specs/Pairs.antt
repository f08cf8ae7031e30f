-- What is shown of clear pairs.
use Rattle.std.specs.Prelude.{ℕ, List}
use Rattle.bounded.specs.Items.{items_of}
use Rattle.aliasing.specs.declared.clear.ClearPairs.{ClearPairs}

-- one byte for each pair
abbrev pub pair_bytes : ClearPairs → List ℕ
pair_bytes p = items_of p.bytes
