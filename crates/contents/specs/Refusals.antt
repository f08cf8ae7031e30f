-- The number of each refusal.
use Rattle.std.specs.Prelude.{ℕ, List, ◌++◌, codes, decimal}
use Rattle.contents.specs.declared.refusal.Refusal.{Refusal}
use Rattle.contents.specs.declared.refusal.Refusal.TheVariants.{Factors, Illegal, Generated, Limit, Place, Memory, Cut, Mark, Version, Levels, Surplus, Last}

-- refusals count from 1
abbrev pub number_of : Refusal → ℕ
number_of Factors = 1
number_of Illegal = 2
number_of Generated = 3
number_of Limit = 4
number_of Place = 5
number_of Memory = 6
number_of Cut = 7
number_of Mark = 8
number_of Version = 9
number_of Levels = 10
number_of Surplus = 11
number_of Last = 12

-- a refusal is printed by its number in base ten
abbrev pub refusal_text : Refusal → List ℕ
refusal_text refusal = codes "refused " ++ decimal (number_of refusal)
