-- Rows in echelon form, and what is left of a word by them.
use Rattle.std.specs.Prelude.{◌≡◌, ℕ, ◌<◌, ◌≤◌, List, length, slice_index}
use Rattle.levels.specs.Arithmetic.{Arithmetic}
use Rattle.levels.specs.Words.{word_sum, word_multiple}
use Rattle.levels.specs.Space.{Word}
use Rattle.levels.specs.Generated.{Generates}

-- w is the smallest code among w plus the multiples of v
abbrev pub Smallest : Arithmetic → ℕ → ℕ → ℕ → Type 0
Smallest A n v w = (c : ℕ) → c < A.s → w ≤ word_sum A n w (word_multiple A n c v)

-- rows in echelon form: words other than code 0, each the smallest code that multiples of an earlier one make of it
pub record Echelon (A : Arithmetic) (n : ℕ) (rows : List ℕ) : Type 0 where
  pub words : (i : ℕ) → i < length rows → Word A n (slice_index rows i)
  pub nonzero : (i : ℕ) → i < length rows → 0 < slice_index rows i
  pub reduced : (i j : ℕ) → i < j → j < length rows → Smallest A n (slice_index rows i) (slice_index rows j)

-- r is the smallest code among w plus each word that a list generates
pub record LeastAlias (A : Arithmetic) (n : ℕ) (ws : List ℕ) (w r : ℕ) : Type 0 where
  pub alias : (g : ℕ) × Generates A n ws g × (r ≡ word_sum A n w g)
  pub least : (g : ℕ) → Generates A n ws g → r ≤ word_sum A n w g
