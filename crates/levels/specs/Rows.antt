-- The rows of a basis, and what admitting words makes of them.
use Rattle.std.specs.Prelude.{◌≡◌, ℕ, suc, ◌<◌, ◌≤◌, false, ◌⊎◌, List, [], ◌∷◌, ◌++◌, length}
use Rattle.bounded.specs.Items.{items_of}
use Rattle.levels.specs.declared.basis.Basis.{Basis}
use Rattle.levels.specs.Arithmetic.{Arithmetic}
use Rattle.levels.specs.Words.{legal, word_sum, word_multiple}
use Rattle.levels.specs.Generated.{Generates, SameWords}
use Rattle.levels.specs.Basis.{Echelon}

-- the rows of a basis
abbrev pub basis_rows : Basis → List ℕ
basis_rows b = items_of b.rows

-- r is the smallest code among w plus the multiples of v by levels below k
pub record LeastMultiple (A : Arithmetic) (n k v w r : ℕ) : Type 0 where
  pub multiple : (c : ℕ) × (c < k) × (r ≡ word_sum A n w (word_multiple A n c v))
  pub least : (c : ℕ) → c < k → r ≤ word_sum A n w (word_multiple A n c v)

-- Rows after some words were admitted: rows are only added behind; from rows in echelon form come
-- rows in echelon form that generate what the rows before and the words generate.
pub record Extended (A : Arithmetic) (n : ℕ) (before words after : List ℕ) : Type 0 where
  pub grows : (more : List ℕ) × (after ≡ before ++ more)
  pub echelon : Echelon A n before → Echelon A n after
  pub same : Echelon A n before → SameWords A n after (before ++ words)

-- a word is no news to rows: it is illegal, or they generate it
abbrev pub Known : Arithmetic → ℕ → List ℕ → ℕ → Type 0
Known A n rows w = (legal A n w ≡ false) ⊎ Generates A n rows w

-- Rows after one word was admitted: at most one row more, and none exactly if the word was known.
pub record Admitted (A : Arithmetic) (n : ℕ) (before : List ℕ) (word : ℕ) (after : List ℕ) : Type 0 where
  pub extended : Extended A n before (word ∷ []) after
  pub at_most_one : length after ≤ suc (length before)
  pub unchanged : Echelon A n before → (after ≡ before → Known A n before word) × (Known A n before word → after ≡ before)
