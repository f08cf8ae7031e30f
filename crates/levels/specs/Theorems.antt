-- What holds for every arithmetic that keeps its laws: codes and digits, the vector space of words, and generation.
use Rattle.std.specs.Prelude.{◌≡◌, ℕ, ◌*◌, ◌/◌, ◌%◌, ◌^◌, ◌<◌, ◌≤◌, true, false, ◌⊎◌, List, ◌∷◌, length, slice_index}
use Rattle.levels.specs.Arithmetic.{Arithmetic}
use Rattle.levels.specs.Words.{digits, code, all_levels, legal, nonzero, word_length}
use Rattle.levels.specs.Space.{Word, AllWords, VectorSpace}
use Rattle.levels.specs.Generated.{Generates, Independent, SameWords, combinations}

-- Legal codes and lists of n levels correspond one to one: the level of factor i, from 0, is the number in its bits. With no factor,
-- or more than 32, there is no legal code.
pub record CodesAndDigits (A : Arithmetic) : Type 0 where
  pub code_of : (n : ℕ) → 1 ≤ n → n ≤ 32 → (ds : List ℕ) → length ds ≡ n → all_levels A ds ≡ true → Word A n (code A ds) × (digits A n (code A ds) ≡ ds)
  pub only_code : (n : ℕ) → 1 ≤ n → n ≤ 32 → (ds : List ℕ) → length ds ≡ n → all_levels A ds ≡ true → (w : ℕ) → Word A n w → digits A n w ≡ ds → w ≡ code A ds
  pub digit_at : (n w i : ℕ) → i < n → slice_index (digits A n w) i ≡ w / 2 ^ (A.bits * i) % 2 ^ A.bits
  pub no_words : (n : ℕ) → ((1 ≤ n) × (n ≤ 32) → ⊥) → (w : ℕ) → legal A n w ≡ false

-- Legal words of n factors form a vector space over the levels.
abbrev pub WordsAreAVectorSpace : Arithmetic → Type 0
WordsAreAVectorSpace A = (n : ℕ) → 1 ≤ n → n ≤ 32 → VectorSpace A n

-- The length of a word counts its n digits that are not 0, so it is at most n, and 0 for code 0 alone.
pub record Lengths (A : Arithmetic) : Type 0 where
  pub counts : (n w : ℕ) → Word A n w → word_length A w ≡ nonzero (digits A n w)
  pub at_most : (n w : ℕ) → Word A n w → word_length A w ≤ n
  pub zero_alone : (n w : ℕ) → Word A n w → word_length A w ≡ 0 → w ≡ 0

-- Generation is transitive and exchanges words; independent words among those that k words generate are at most k; two
-- independent lists that generate the same words are equally long; the s to the power of k combinations of an independent
-- list of k words are distinct.
pub record Generation (A : Arithmetic) (n : ℕ) : Type 0 where
  pub transitive : (us vs : List ℕ) (w : ℕ) → ((i : ℕ) → Word A n (slice_index us i) → Generates A n vs (slice_index us i)) → Generates A n us w → Generates A n vs w
  pub exchange : (x : ℕ) (ws : List ℕ) (y : ℕ) → Generates A n (x ∷ ws) y → Generates A n ws y ⊎ Generates A n (y ∷ ws) x
  pub at_most : (us vs : List ℕ) → Independent A n us → ((i : ℕ) → i < length us → Generates A n vs (slice_index us i)) → length us ≤ length vs
  pub equally_long : (us vs : List ℕ) → AllWords A n us → AllWords A n vs → Independent A n us → Independent A n vs → SameWords A n us vs → length us ≡ length vs
  pub as_many : (ws : List ℕ) → length (combinations A n ws) ≡ A.s ^ length ws
  pub distinct : (ws : List ℕ) → AllWords A n ws → Independent A n ws → (i j : ℕ) → i < A.s ^ length ws → j < A.s ^ length ws → slice_index (combinations A n ws) i ≡ slice_index (combinations A n ws) j → i ≡ j
