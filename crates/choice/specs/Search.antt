-- What the search goes through, and what it finds.
use Rattle.std.specs.Prelude.{◌≡◌, ℕ, ◌+◌, ◌<◌, ◌≤◌, Bool, true, false, cond, ◌||◌, ◌⊎◌, nat_le, nat_lt, List, [], ◌∷◌, ◌++◌, length, take, slice_index}
use Rattle.levels.specs.Arithmetic.{Arithmetic}
use Rattle.levels.specs.Words.{word_sum, word_multiple}
use Rattle.levels.specs.Space.{Word, AllWords}
use Rattle.levels.specs.Generated.{Generates, SameWords, generated, holds}
use Rattle.levels.specs.Basis.{Echelon, Smallest}
use Rattle.preferences.specs.declared.preference.Verdict.{Verdict}
use Rattle.preferences.specs.declared.preference.Verdict.TheVariants.{First, Second, Equal}

-- w is one of the words by a level below k
abbrev pub Below : ℕ → (ℕ → ℕ → Type 0) → ℕ → Type 0
Below k Of w = (c : ℕ) × (c < k) × Of c w

-- w is a sum of a start and multiples of the rows
abbrev pub Coset : Arithmetic → ℕ → List ℕ → ℕ → ℕ → Type 0
Coset A n [] start w = w ≡ start
Coset A n (v ∷ vs) start w = Below A.s (λ c. Coset A n vs (word_sum A n start (word_multiple A n c v))) w

-- A word that is the smallest code of those that are alike: multiples of the shared rows make it no smaller.
pub record Least (A : Arithmetic) (n : ℕ) (shared : List ℕ) (w : ℕ) : Type 0 where
  pub word : Word A n w
  pub smallest : (i : ℕ) → i < length shared → Smallest A n (slice_index shared i) w

-- w is a sum of a start, the leaf at a place and multiples of the shared rows
abbrev pub Leaf : Arithmetic → ℕ → List ℕ → List ℕ → ℕ → ℕ → ℕ → Type 0
Leaf A n shared leaves start k w = Coset A n shared (word_sum A n start (slice_index leaves k)) w

-- w is a sum of a start, multiples of the words, a leaf and multiples of the shared rows
abbrev pub Spread : Arithmetic → ℕ → List ℕ → List ℕ → List ℕ → ℕ → ℕ → Type 0
Spread A n shared [] leaves start w = Below (length leaves) (Leaf A n shared leaves start) w
Spread A n shared (v ∷ vs) leaves start w = Below A.s (λ c. Spread A n shared vs leaves (word_sum A n start (word_multiple A n c v))) w

-- w is led by a word: a sum of its multiple by a level other than 0 and multiples of the rows
abbrev pub LedBy : Arithmetic → ℕ → List ℕ → ℕ → ℕ → ℕ → Type 0
LedBy A n rows lead c w = (0 < c) × Coset A n rows (word_multiple A n c lead) w

abbrev pub Led : Arithmetic → ℕ → List ℕ → ℕ → ℕ → Type 0
Led A n rows lead = Below A.s (LedBy A n rows lead)

-- w is led by the row at a place, from k on, over the rows before it
abbrev pub LedAt : Arithmetic → ℕ → List ℕ → ℕ → ℕ → ℕ → Type 0
LedAt A n rows k i w = (k ≤ i) × Led A n (take i rows) (slice_index rows i) w

-- a may stand before b: it is better, or as good with no larger code
abbrev pub NoLater : (ℕ → ℕ → Bool) → ℕ → ℕ → Type 0
NoLater at_least a b = (at_least a b ≡ true) × (at_least b a ≡ true → a ≤ b)

-- whether the first of two words stands before the second, by the verdict on them: the smaller code among equals
abbrev pub first_stands : Verdict → ℕ → ℕ → Bool
first_stands First a b = true
first_stands Second a b = false
first_stands Equal a b = nat_lt a b

-- a word put behind kept words, unless there is no room for it, or base and the kept words generate it
abbrev pub keep : Arithmetic → ℕ → ℕ → List ℕ → List ℕ → ℕ → List ℕ
keep A n room base kept w = cond (nat_le room (length kept) || holds (generated A n (base ++ kept)) w) kept (kept ++ w ∷ [])

-- the words of a list put behind kept words, one after the other
abbrev pub sieve : Arithmetic → ℕ → ℕ → List ℕ → List ℕ → List ℕ → List ℕ
sieve A n room base kept [] = kept
sieve A n room base kept (w ∷ ws) = sieve A n room base (keep A n room base kept w) ws

-- Words that are kept: in their order, each new over base and those before it, and no more than there is room for.
pub record Kept (A : Arithmetic) (n : ℕ) (at_least : ℕ → ℕ → Bool) (room : ℕ) (base ours : List ℕ) : Type 0 where
  pub words : AllWords A n ours
  pub sorted : (i j : ℕ) → i < j → j < length ours → NoLater at_least (slice_index ours i) (slice_index ours j)
  pub new : (i : ℕ) → i < length ours → Generates A n (base ++ take i ours) (slice_index ours i) → ⊥
  pub few : length ours ≤ room

-- Kept words leave no need of y: base and the first of them, which all may stand before y, generate y or leave no room.
pub record Covered (A : Arithmetic) (n : ℕ) (at_least : ℕ → ℕ → Bool) (room : ℕ) (base ours : List ℕ) (y : ℕ) : Type 0 where
  pub many : ℕ
  pub within : many ≤ length ours
  pub before : (j : ℕ) → j < many → NoLater at_least (slice_index ours j) y
  pub known : Generates A n (base ++ take many ours) y ⊎ (room ≤ many)

-- What becomes of kept words when some words are offered: again kept words, each of them kept before or offered; what was
-- covered stays so, and each offered word is covered.
pub record Offered (A : Arithmetic) (n : ℕ) (at_least : ℕ → ℕ → Bool) (room : ℕ) (base : List ℕ) (Among : ℕ → Type 0) (before after : List ℕ) : Type 0 where
  pub kept : Kept A n at_least room base after
  pub covered : (y : ℕ) → Among y → Covered A n at_least room base after y
  pub still : (y : ℕ) → Word A n y → Covered A n at_least room base before y → Covered A n at_least room base after y
  pub from : (i : ℕ) → i < length after → Among (slice_index after i) ⊎ (holds before (slice_index after i) ≡ true)

-- Rows beside kept words: in echelon form, some of the base list and one for each kept word, so that the first of them generate
-- what base and the first kept words do.
pub record Fits (A : Arithmetic) (n : ℕ) (known base rows kept : List ℕ) : Type 0 where
  pub echelon : Echelon A n rows
  pub size : length rows ≡ length known + length kept
  pub fronts : (p : ℕ) → p ≤ length kept → SameWords A n (take (length known + p) rows) (base ++ take p kept)

-- w is a sum of one of the words of a list and multiples of the shared rows
abbrev pub OneOf : Arithmetic → ℕ → List ℕ → List ℕ → ℕ → Type 0
OneOf A n shared ws = Below (length ws) (λ i w. (i < length ws) × Coset A n shared (slice_index ws i) w)
