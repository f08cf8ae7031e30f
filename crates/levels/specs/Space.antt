-- Legal words of n factors form a vector space over the levels.
use Rattle.std.specs.Prelude.{◌≡◌, ℕ, ◌<◌, true, List, length, slice_index}
use Rattle.levels.specs.Arithmetic.{Arithmetic}
use Rattle.levels.specs.Words.{legal, word_sum, word_multiple}

-- a word of n factors: a legal code
abbrev pub Word : Arithmetic → ℕ → ℕ → Type 0
Word A n w = legal A n w ≡ true

-- every code of a list is a word
abbrev pub AllWords : Arithmetic → ℕ → List ℕ → Type 0
AllWords A n ws = (i : ℕ) → i < length ws → Word A n (slice_index ws i)

pub record VectorSpace (A : Arithmetic) (n : ℕ) : Type 0 where
  pub zero_word : Word A n 0
  pub sum_word : (a b : ℕ) → Word A n a → Word A n b → Word A n (word_sum A n a b)
  pub sum_comm : (a b : ℕ) → Word A n a → Word A n b → word_sum A n a b ≡ word_sum A n b a
  pub sum_assoc : (a b c : ℕ) → Word A n a → Word A n b → Word A n c → word_sum A n (word_sum A n a b) c ≡ word_sum A n a (word_sum A n b c)
  pub sum_zero : (a : ℕ) → Word A n a → word_sum A n 0 a ≡ a
  pub opposite : (a : ℕ) → Word A n a → (b : ℕ) × Word A n b × (word_sum A n a b ≡ 0)
  pub multiple_word : (c a : ℕ) → c < A.s → Word A n a → Word A n (word_multiple A n c a)
  pub multiple_zero : (a : ℕ) → Word A n a → word_multiple A n 0 a ≡ 0
  pub multiple_one : (a : ℕ) → Word A n a → word_multiple A n 1 a ≡ a
  pub multiple_times : (c d a : ℕ) → c < A.s → d < A.s → Word A n a → word_multiple A n c (word_multiple A n d a) ≡ word_multiple A n (A.times c d) a
  pub multiple_plus : (c d a : ℕ) → c < A.s → d < A.s → Word A n a → word_multiple A n (A.plus c d) a ≡ word_sum A n (word_multiple A n c a) (word_multiple A n d a)
  pub multiple_sum : (c a b : ℕ) → c < A.s → Word A n a → Word A n b → word_multiple A n c (word_sum A n a b) ≡ word_sum A n (word_multiple A n c a) (word_multiple A n c b)
