-- The preferences that are built, each by its relation "at least as good".
use Rattle.std.specs.Prelude.{ℕ, zero, suc, ◌+◌, Bool, true, cond, not, ◌&&◌, ◌||◌, List, [], ◌∷◌, ◌==◌, nat_le, nat_lt}
use Rattle.levels.specs.Arithmetic.{Arithmetic}
use Rattle.levels.specs.Words.{digits, legal, word_length}
use Rattle.levels.specs.Alias.{of_length, alias_set, tallied}
use Rattle.preferences.specs.Relation.{Relation}

-- the word whose score is not larger is at least as good
abbrev pub by_score : (ℕ → ℕ → ℕ) → Relation
by_score score n base a b = nat_le (score n a) (score n b)

-- shortest scores the length
abbrev pub length_score : Arithmetic → ℕ → ℕ → ℕ
length_score A n w = cond (legal A n w) (word_length A w) 0

-- the word that is not longer is at least as good
abbrev pub shortest : Arithmetic → Relation
shortest A = by_score (length_score A)

-- the sum of the costs of the factors whose digit is not 0
abbrev pub cost : List ℕ → List ℕ → ℕ
cost costs [] = 0
cost [] (d ∷ ds) = 0
cost (c ∷ costs) (d ∷ ds) = cond (d == 0) 0 c + cost costs ds

-- cheapest scores the cost by a table of 32 costs
abbrev pub cost_score : Arithmetic → List ℕ → ℕ → ℕ → ℕ
cost_score A costs n w = cond (legal A n w) (cost costs (digits A n w)) 0

-- the word that does not cost more is at least as good
abbrev pub cheapest : Arithmetic → List ℕ → Relation
cheapest A costs = by_score (cost_score A costs)

-- at the first place where two lists of counts differ the first has the smaller count, or they do not differ
abbrev pub no_more : List ℕ → List ℕ → Bool
no_more [] ys = true
no_more (x ∷ xs) [] = true
no_more (x ∷ xs) (y ∷ ys) = cond (x == y) (no_more xs ys) (nat_lt x y)

-- how many words of a list have length i, i + 1, .. up to k lengths
abbrev pub length_counts : Arithmetic → List ℕ → ℕ → ℕ → List ℕ
length_counts A ws i zero = []
length_counts A ws i (suc k) = of_length A i ws ∷ length_counts A ws (suc i) k

-- least aberration: of two alias sets, the one that has fewer words of the first length in which their numbers differ
abbrev pub least_aberration : Arithmetic → Relation
least_aberration A n base a b = no_more (length_counts A (alias_set A n base a) 0 (suc n)) (length_counts A (alias_set A n base b) 0 (suc n))

-- the tallies of a word at the lengths i, i + 1, .. up to k lengths
abbrev pub tallies : Arithmetic → ℕ → List ℕ → ℕ → ℕ → ℕ → List ℕ
tallies A n ws w i zero = []
tallies A n ws w i (suc k) = tallied A n ws w i ∷ tallies A n ws w (suc i) k

-- the tallies of a word at each length that a word of at most 32 factors can have
unfoldable pub all_tallies : Arithmetic → ℕ → List ℕ → ℕ → List ℕ
all_tallies A n ws w = tallies A n ws w 0 33

-- a preference turned round
abbrev pub reversed : Relation → Relation
reversed good n base a b = good n base b a

-- the first preference, and the second where the first finds the words equal
abbrev pub first_then_second : Relation → Relation → Relation
first_then_second one other n base a b = one n base a b && (not (one n base b a) || other n base a b)
