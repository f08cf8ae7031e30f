-- The items of a list in fixed memory.
use Rattle.std.specs.Prelude.{ℕ, List, take}
use Rattle.bounded.specs.declared.Bounded.{Bounded}

-- the items in their order: those in the first places
abbrev pub items_of : {T : Type 0} {N : ℕ} → Bounded T N → List T
items_of b = take b.len b.places
