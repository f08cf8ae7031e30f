-- Words and sums that are ready for many questions.
use Rattle.std.specs.Prelude.{◌≡◌, ℕ, ◌<◌, List, length, slice_index, IfSome}
use Rattle.levels.specs.Arithmetic.{Arithmetic}
use Rattle.levels.specs.Words.{word_sum}
use Rattle.levels.specs.Space.{Word}
use Rattle.levels.specs.Alias.{tallied}
use Rattle.preferences.specs.declared.candidate.Candidate.{Candidate}
use Rattle.preferences.specs.declared.sum.Sum.{Sum}

-- the counts are the tally of a word over a base list
abbrev pub IsTally : Arithmetic → ℕ → List ℕ → ℕ → List ℕ → Type 0
IsTally A n base word counts = (length counts ≡ 33) × ((i : ℕ) → i < 33 → slice_index counts i ≡ tallied A n base word i)

-- what a candidate has beside its word is that word's own
abbrev pub IsReady : Arithmetic → ℕ → List ℕ → Candidate → Type 0
IsReady A n base candidate = IfSome candidate.tally (IsTally A n base candidate.word)

-- A sum of two words of n factors, with the opposite of the second.
pub record IsSum (A : Arithmetic) (n : ℕ) (sum : Sum) : Type 0 where
  pub first : Word A n sum.first
  pub second : Word A n sum.second
  pub opposite : Word A n sum.opposite
  pub none : word_sum A n sum.second sum.opposite ≡ 0
