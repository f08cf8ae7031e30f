-- The choice of generators, and what is promised of it.
use Rattle.std.specs.Prelude.{◌≡◌, ℕ, zero, suc, ◌<◌, Bool, true, false, cond, List, [], ◌∷◌, ◌++◌, length, Some, None, Option, slice_index}
use Rattle.levels.specs.Arithmetic.{Arithmetic}
use Rattle.levels.specs.Generated.{Generates, Independent, SameWords, generated, holds}
use Rattle.preferences.specs.Relation.{Relation, fair, judged, better}

-- the numbers of the first list that are not in the second
abbrev pub beyond : List ℕ → List ℕ → List ℕ
beyond [] known = []
beyond (x ∷ xs) known = cond (holds known x) (beyond xs known) (x ∷ beyond xs known)

-- the best word of an ascending list, the smallest code among equals
abbrev pub best : (ℕ → ℕ → Bool) → List ℕ → Option ℕ
best at_least [] = None
best at_least (x ∷ xs) = elim (best at_least xs) [ None ↦ Some x | Some y ↦ cond (at_least x y) (Some x) (Some y) ]

-- the steps of the choice, at most k of them: the best of the wanted words that the base list and the words chosen so far do not generate
abbrev pub steps : Arithmetic → (ℕ → ℕ → Bool) → ℕ → List ℕ → List ℕ → ℕ → List ℕ
steps A at_least n wanted known zero = []
steps A at_least n wanted known (suc k) =
    elim (best at_least (beyond wanted (generated A n known))) [ None ↦ [] | Some w ↦ w ∷ steps A at_least n wanted (known ++ w ∷ []) k ]

-- the generators of what a base list and further words generate together, beyond the base list; there are at most as many as further words
abbrev pub generators : Arithmetic → Relation → ℕ → List ℕ → List ℕ → List ℕ
generators A good n base further = steps A (judged A good n base) n (generated A n (base ++ further)) base (length further)

-- A rival of our words: wanted words, no fewer and no more, from which and the base list all others follow, in the order of the preference.
pub record Rival (A : Arithmetic) (good : Relation) (n : ℕ) (base further ours theirs : List ℕ) : Type 0 where
  pub as_many : length theirs ≡ length ours
  pub wanted : (i : ℕ) → i < length theirs → Generates A n (base ++ further) (slice_index theirs i)
  pub all_wanted : (w : ℕ) → Generates A n (base ++ further) w → Generates A n (base ++ theirs) w
  pub best_first : (i j : ℕ) → i < j → j < length theirs → better (judged A good) n base (slice_index theirs j) (slice_index theirs i) ≡ false

-- What is promised of our words: with an independent base list they are independent together; with the base list they
-- generate exactly the wanted words; and at every place, no rival's word is better than ours.
pub record BestGenerators (A : Arithmetic) (good : Relation) (n : ℕ) (base further ours : List ℕ) : Type 0 where
  pub independent : Independent A n base → Independent A n (base ++ ours)
  pub exact : SameWords A n (base ++ ours) (base ++ further)
  pub no_rival_is_better : (theirs : List ℕ) → Rival A good n base further ours theirs → (i : ℕ) → i < length ours → better (judged A good) n base (slice_index theirs i) (slice_index ours i) ≡ false

-- The choice depends only on what the two lists generate: base lists that a preference judges by and that generate the
-- same words, alone and with their further words, have the same generators.
abbrev pub DependsOnlyOnWords : Arithmetic → Relation → ℕ → List ℕ → List ℕ → Type 0
DependsOnlyOnWords A good n base further =
    (base' further' : List ℕ) → fair A n base ≡ true → fair A n base' ≡ true →
    SameWords A n base base' → SameWords A n (base ++ further) (base' ++ further') →
    generators A good n base' further' ≡ generators A good n base further
