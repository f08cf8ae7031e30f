-- Alias sets, and how many words of a length a list has.
use Rattle.std.specs.Prelude.{◌≡◌, ℕ, ◌+◌, ◌%◌, ◌^◌, ◌<◌, Bool, cond, List, [], ◌∷◌, map, nat_eq, nat_lt, slice_index}
use Rattle.std.specs.List.{list_any}
use Rattle.levels.specs.Arithmetic.{Arithmetic}
use Rattle.levels.specs.Words.{legal, word_sum, word_multiple, word_length}
use Rattle.levels.specs.Generated.{combinations, generated, ascending, each_below}

-- how many numbers of a list pass a test
abbrev pub how_many : (ℕ → Bool) → List ℕ → ℕ
how_many p [] = 0
how_many p (x ∷ xs) = cond (p x) 1 0 + how_many p xs

-- how many words of a list have a length
abbrev pub of_length : Arithmetic → ℕ → List ℕ → ℕ
of_length A i ws = how_many (λ w. nat_eq (word_length A w) i) ws

-- w plus each sum of multiples of the words of a list: one for each choice of levels
abbrev pub aliases : Arithmetic → ℕ → List ℕ → ℕ → List ℕ
aliases A n ws w = map (word_sum A n w) (combinations A n ws)

-- the alias set of w: w plus each word that a list generates, each once, in ascending code
abbrev pub alias_set : Arithmetic → ℕ → List ℕ → ℕ → List ℕ
alias_set A n ws w = ascending (map (word_sum A n w) (generated A n ws))

-- how often each generated word stands among all sums of multiples: as often as code 0 does
abbrev pub repeats : Arithmetic → ℕ → List ℕ → ℕ
repeats A n ws = how_many (nat_eq 0) (combinations A n ws)

-- how many aliases of w have length i, as a count of 64 bits; none where w is illegal
abbrev pub tallied : Arithmetic → ℕ → List ℕ → ℕ → ℕ → ℕ
tallied A n ws w i = cond (legal A n w) (of_length A i (aliases A n ws w) % 2 ^ 64) 0

-- whether one of some words is shorter than a length
abbrev pub any_shorter : Arithmetic → ℕ → List ℕ → Bool
any_shorter A k ws = list_any (λ w. nat_lt (word_length A w) k) ws

-- the words of a list plus each multiple of w by a level below k
abbrev pub multiples_below : Arithmetic → ℕ → ℕ → ℕ → List ℕ → List ℕ
multiples_below A n k w xs = each_below k (λ c. map (word_sum A n (word_multiple A n c w)) xs)

-- the words of a list plus each multiple of w: the list once for each level
abbrev pub with_multiples : Arithmetic → ℕ → ℕ → List ℕ → List ℕ
with_multiples A n w xs = multiples_below A n A.s w xs

-- the words of a list plus each sum of multiples of words
abbrev pub with_all_multiples : Arithmetic → ℕ → List ℕ → List ℕ → List ℕ
with_all_multiples A n [] xs = xs
with_all_multiples A n (w ∷ ws) xs = with_multiples A n w (with_all_multiples A n ws xs)

-- the words of a list are added to counts by length, which are of 64 bits and wrap
abbrev pub Adds : Arithmetic → List ℕ → List ℕ → List ℕ → Type 0
Adds A xs before after = (i : ℕ) → i < 33 → slice_index after i ≡ (slice_index before i + of_length A i xs) % 2 ^ 64
