-- Words and their opposites.
use Rattle.std.specs.Prelude.{◌≡◌, ℕ, ◌<◌, List, length, slice_index}
use Rattle.std.specs.Bool.{OnTrue, OnFalse}
use Rattle.bounded.specs.Items.{items_of}
use Rattle.levels.specs.Arithmetic.{Arithmetic}
use Rattle.levels.specs.Words.{legal, word_sum}
use Rattle.levels.specs.Space.{Word}
use Rattle.levels.specs.declared.opposites.Leaves.{Leaves}

-- the words of leaves
abbrev pub leaf_words : Leaves → List ℕ
leaf_words leaves = items_of leaves.words

-- o is a word whose sum with w is code 0
abbrev pub AreOpposite : Arithmetic → ℕ → ℕ → ℕ → Type 0
AreOpposite A n w o = Word A n o × (word_sum A n w o ≡ 0)

-- beside each word stands its opposite, and code 0 beside what is no word
abbrev pub AllOpposite : Arithmetic → ℕ → Leaves → Type 0
AllOpposite A n leaves =
    let words = leaf_words leaves in
    let opposites = items_of leaves.opposites in
    (length opposites ≡ length words)
    × ((i : ℕ) → i < length words →
    OnTrue (legal A n (slice_index words i)) (AreOpposite A n (slice_index words i) (slice_index opposites i))
    × OnFalse (legal A n (slice_index words i)) (slice_index opposites i ≡ 0))
