-- The wordlength pattern of a set of words, and its resolution.
use Rattle.std.specs.Prelude.{◌≡◌, ℕ, zero, suc, ◌-◌, ◌*◌, ◌/◌, ◌<◌, ◌≤◌, cond, List, [], ◌∷◌, Some, None, Option, ◌==◌}
use Rattle.levels.specs.Arithmetic.{Arithmetic}
use Rattle.levels.specs.Alias.{of_length}

-- the count of a length: how many words of a set have it, divided by s − 1, since a word stands for its multiples too
abbrev pub count : Arithmetic → List ℕ → ℕ → ℕ
count A set i = of_length A i set / (A.s - 1)

-- the counts of lengths i, i + 1, .. k of them
abbrev pub counts_from : Arithmetic → List ℕ → ℕ → ℕ → List ℕ
counts_from A set i zero = []
counts_from A set i (suc k) = count A set i ∷ counts_from A set (suc i) k

-- the wordlength pattern: the counts of lengths 1 to n. Code 0, of length 0, is in no count.
abbrev pub pattern : Arithmetic → ℕ → List ℕ → List ℕ
pattern A n set = counts_from A set 1 n

-- the first count that is not 0, with its length, counted from i
abbrev pub first_positive : ℕ → List ℕ → Option (ℕ × ℕ)
first_positive i [] = None
first_positive i (c ∷ cs) = cond (c == 0) (first_positive (suc i) cs) (Some (i, c))

-- the resolution: the least length with a positive count, and that count
abbrev pub resolution : Arithmetic → ℕ → List ℕ → Option (ℕ × ℕ)
resolution A n set = first_positive 1 (pattern A n set)

-- the division by s − 1 leaves no rest: each count is exact
abbrev pub Divides : Arithmetic → List ℕ → Type 0
Divides A set = (i : ℕ) → 1 ≤ i → of_length A i set ≡ (A.s - 1) * count A set i

-- l is the smallest length whose count is above 0, and c is that count
pub record LeastPositive (A : Arithmetic) (n : ℕ) (set : List ℕ) (l c : ℕ) : Type 0 where
  pub low : 1 ≤ l
  pub high : l ≤ n
  pub counted : c ≡ count A set l
  pub positive : 0 < c
  pub none_before : (i : ℕ) → 1 ≤ i → i < l → count A set i ≡ 0

-- what a resolution says: the least length with a positive count and that count; without one every count is 0
abbrev pub ResolutionLaw : Arithmetic → ℕ → List ℕ → Option (ℕ × ℕ) → Type 0
ResolutionLaw A n set None = (i : ℕ) → 1 ≤ i → count A set i ≡ 0
ResolutionLaw A n set (Some p) = LeastPositive A n set p.0 p.1
