-- Alias sets row by row: the sums of a word and the multiples of one row, and the rows above a floor.
use Rattle.std.specs.Prelude.{◌≡◌, ℕ, ◌<◌, ◌≤◌, cond, List, [], ◌∷◌, filter, length, All, Contains, Option, MatchOption, nat_lt, slice_index}
use Rattle.levels.specs.Arithmetic.{Arithmetic}
use Rattle.levels.specs.Words.{word_sum, word_multiple}
use Rattle.levels.specs.Generated.{each_below, insert, ascending}

-- w plus each multiple of v by a level below k, in the order of the levels
abbrev pub sums_below : Arithmetic → ℕ → ℕ → ℕ → ℕ → List ℕ
sums_below A n k v w = each_below k (λ c. word_sum A n w (word_multiple A n c v) ∷ [])

-- w plus each multiple of v, in ascending code
abbrev pub block : Arithmetic → ℕ → ℕ → ℕ → List ℕ
block A n v w = ascending (sums_below A n A.s v w)

-- the numbers of a list above a floor, each once, in ascending order
abbrev pub above : ℕ → List ℕ → List ℕ
above f [] = []
above f (x ∷ xs) = cond (nat_lt f x) (insert x (above f xs)) (above f xs)

-- r is the smallest of the numbers of a list above a floor, and nothing where there are none
abbrev pub Next : List ℕ → ℕ → Option ℕ → Type 0
Next xs f r = let larger = filter (nat_lt f) xs in MatchOption r (length larger ≡ 0) (λ v. Contains larger v × All (λ x. v ≤ x) larger)

-- r is the entry of a list at place m, and nothing past its end
abbrev pub Entry : List ℕ → ℕ → Option ℕ → Type 0
Entry xs m r = MatchOption r (length xs ≤ m) (λ x. (m < length xs) × (x ≡ slice_index xs m))
