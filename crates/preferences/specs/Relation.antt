-- What a preference means: a relation "at least as good" between words, for n factors and a base list of words.
use Rattle.std.specs.Prelude.{◌≡◌, ℕ, Bool, true, cond, not, ◌&&◌, ◌⊎◌, List, length, nat_le}
use Rattle.std.specs.List.{list_all}
use Rattle.levels.specs.Arithmetic.{Arithmetic}
use Rattle.levels.specs.Words.{legal, word_sum}
use Rattle.levels.specs.Space.{Word}
use Rattle.levels.specs.Generated.{Generates, SameWords}

-- whether, for n factors and over a base list, one word is as good as another or better
abbrev pub Relation : Type 0
Relation = ℕ → List ℕ → ℕ → ℕ → Bool

-- every word of a list is legal
abbrev pub all_legal : Arithmetic → ℕ → List ℕ → Bool
all_legal A n = list_all (legal A n)

-- a base list that a preference judges by: legal words, no more than the limit
abbrev pub fair : Arithmetic → ℕ → List ℕ → Bool
fair A n base = nat_le (length base) A.limit && all_legal A n base

-- The laws of a preference, on legal words and base lists that it judges by: any two words compare, also a word with itself;
-- the relation is transitive; and what counts of a base list is the set of words that it generates.
pub record PreferenceLaws (A : Arithmetic) (good : Relation) : Type 0 where
  pub total : (n : ℕ) (base : List ℕ) → fair A n base ≡ true → (a b : ℕ) → Word A n a → Word A n b → (good n base a b ≡ true) ⊎ (good n base b a ≡ true)
  pub transitive : (n : ℕ) (base : List ℕ) → fair A n base ≡ true → (a b c : ℕ) → Word A n a → Word A n b → Word A n c → good n base a b ≡ true → good n base b c ≡ true → good n base a c ≡ true
  pub same_base : (n : ℕ) (us vs : List ℕ) → fair A n us ≡ true → fair A n vs ≡ true → SameWords A n us vs → (a b : ℕ) → Word A n a → Word A n b → good n us a b ≡ good n vs a b

-- what a preference judges: over a base list that it cannot judge by, any two words are equally good
abbrev pub judged : Arithmetic → Relation → Relation
judged A good n base a b = cond (fair A n base) (good n base a b) true

-- a is better than b: at least as good, and b is not
abbrev pub better : Relation → Relation
better good n base a b = good n base a b && not (good n base b a)

-- Words of one alias set over the base list are equally good, on base lists that a preference judges by.
abbrev pub EqualAliases : Arithmetic → Relation → Type 0
EqualAliases A good =
    (n : ℕ) (base : List ℕ) → fair A n base ≡ true → (a g : ℕ) → Word A n a → Generates A n base g →
    (good n base a (word_sum A n a g) ≡ true) × (good n base (word_sum A n a g) a ≡ true)
