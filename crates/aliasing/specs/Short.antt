-- Words of one letter and of two by places, and their least aliases.
use Rattle.std.specs.Prelude.{◌≡◌, ℕ, ◌+◌, ◌-◌, ◌*◌, ◌/◌, ◌%◌, ◌^◌, ◌<◌, ◌≤◌, List, length, slice_index}
use Rattle.levels.specs.Arithmetic.{two}
use Rattle.levels.specs.Words.{code_sum}
use Rattle.levels.specs.Space.{Word}
use Rattle.levels.specs.Basis.{Echelon, LeastAlias}

-- the word of the letter of factor i, from 1; code 0 for 0, which is no factor
abbrev pub one_letter : ℕ → ℕ
one_letter i = 2 ^ i / 2

-- the word of two factors, the first of which may be none
abbrev pub two_letters : ℕ → ℕ → ℕ
two_letters i j = one_letter i + one_letter j

-- a list has the least alias over rows of code 0, then of each letter
abbrev pub LeastAliases : ℕ → List ℕ → List ℕ → Type 0
LeastAliases n rows ls = (i : ℕ) → i < length ls → Echelon two n rows → Word two n (one_letter i) → LeastAlias two n rows (one_letter i) (slice_index ls i)

-- The word of factors i and j, i before j, has place 32 · i + j − 1, that of factor j alone the same with 0 for i.
-- Such a word stands at a place, for a list of so many factors and 0.
abbrev pub Stands : List ℕ → ℕ → Type 0
Stands ls p = (p / 32 ≤ p % 32) × (p % 32 + 1 < length ls)

-- the sum of what a list has for its two factors: the word's least alias
abbrev pub sum_at : List ℕ → ℕ → ℕ
sum_at ls p = code_sum two (slice_index ls (p / 32)) (slice_index ls (p % 32 + 1))

-- the word at a place is its own least alias
abbrev pub Own : List ℕ → ℕ → Type 0
Own ls p = sum_at ls p ≡ two_letters (p / 32) (p % 32 + 1)

-- a code is a word of one letter or two
abbrev pub Short : ℕ → Type 0
Short r = (i : ℕ) × (j : ℕ) × (i < j) × (two_letters i j ≡ r)

-- a least alias of one letter or two is a word with a place, and is its own least alias
abbrev pub Settled : List ℕ → Type 0
Settled ls = (p i j : ℕ) → Stands ls p → i < j → two_letters i j ≡ sum_at ls p → (j < length ls) × (sum_at ls (32 * i + j - 1) ≡ sum_at ls p)
