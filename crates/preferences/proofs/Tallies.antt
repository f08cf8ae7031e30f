-- Tallies of two words are in the order of least aberration.
use Rattle.std.proofs.Common.{◌≡◌, ℕ, zero, suc, cond, ◌+◌, ◌-◌, ◌<◌, ◌≤◌, true, false, ◌||◌, ◌&&◌, nat_eq, List, [], ◌∷◌, length, slice_index, zero-add, sym, refl, ap, ◌∙◌, inl, inr, arith}
use Rattle.std.proofs.lemmas.Bool.{cases_lt, cases_order, eq-eqb, le-ltb, and_parts, both_ways}
use Rattle.levels.specs.Arithmetic.{Arithmetic, Lawful}
use Rattle.levels.specs.Words.{legal, word_length}
use Rattle.levels.specs.Space.{Word}
use Rattle.levels.specs.Alias.{aliases, any_shorter, of_length, tallied}
use Rattle.levels.proofs.Multiplicity.{aliases_times}
use Rattle.preferences.specs.Relation.{fair}
use Rattle.preferences.specs.Built.{no_more, all_tallies, least_aberration}
use Rattle.preferences.specs.Candidates.{IsTally}
use Rattle.preferences.specs.declared.preference.Verdict.TheVariants.{First}
use Rattle.preferences.specs.Counts.{same_first, first_smaller, first_larger, tally_count, tallies_at, tallies_from, tallies_length, tallies_of_words}
use Rattle.preferences.specs.Verdicts.{verdict_of}

pub tallies_verdict : (A : Arithmetic) → Lawful A → (n : ℕ) (base : List ℕ) (a b : ℕ) (xs ys : List ℕ) → fair A n base ≡ true → Word A n a → Word A n b →
    IsTally A n base a xs → IsTally A n base b ys →
    verdict_of (no_more xs ys) (no_more ys xs) ≡ verdict_of (least_aberration A n base a b) (least_aberration A n base b a)
unfolding all_tallies
tallies_verdict A lawful n base a b xs ys f wa wb ta tb =
    let first = tallies_from A n base a xs 33 ta.0 ta.1 in
    let second = tallies_from A n base b ys 33 tb.0 tb.1 in
    let verdict = tallies_of_words A lawful n base a b f wa wb in
    cc

-- one of some words that is shorter than a bound is of a length below it
some_short : (A : Arithmetic) (bound : ℕ) (ws : List ℕ) → any_shorter A bound ws ≡ true → (i : ℕ) × (i < bound) × (0 < of_length A i ws)
some_short A bound [] t = absurd (both_ways (any_shorter A bound []) refl t)
some_short A bound (w ∷ ws) t = elim (cases_lt (word_length A w) bound) [
  | inl l ↦
      let one : of_length A (word_length A w) (w ∷ ws) ≡ 1 + of_length A (word_length A w) ws =
      ap (λ b. cond b 1 0 + of_length A (word_length A w) ws) (eq-eqb (word_length A w) (word_length A w) refl) in
      (word_length A w, l, omega (arith, one))
  | inr m ↦
      let p = some_short A bound ws (sym (ap (λ b. b || any_shorter A bound ws) (le-ltb (word_length A w) bound m)) ∙ t) in
      (p.0, p.1, let more : of_length A p.0 ws ≤ of_length A p.0 (w ∷ ws) = omega arith in omega (arith, p.2, more))
]

-- of two lists of counts the one that is 0 up to a place has no more than one that is not
zeros_before : (xs ys : List ℕ) (k j : ℕ) → ((i : ℕ) → i < k → slice_index xs i ≡ 0) → j < k → 0 < slice_index ys j → j < length xs → j < length ys → (no_more xs ys ≡ true) × (no_more ys xs ≡ false)
zeros_before [] ys k j none l pos lx ly = absurd (omega arith)
zeros_before (x ∷ xs) [] k j none l pos lx ly = absurd (omega arith)
zeros_before (x ∷ xs) (y ∷ ys) k zero none l pos lx ly =
    let z = none 0 l in
    (first_smaller x y xs ys (omega arith), first_larger y x ys xs (omega arith))
zeros_before (x ∷ xs) (y ∷ ys) k (suc j) none l pos lx ly =
    let z = none 0 (omega arith) in
    elim (cases_order x y) [
      | inl e ↦
          let rest = zeros_before xs ys (k - 1) j (λ i m. none (suc i) (omega arith)) (omega arith) pos (omega arith) (omega arith) in
          (same_first x y xs ys e ∙ rest.0, same_first y x ys xs (sym e) ∙ rest.1)
      | inr (inl m) ↦ (first_smaller x y xs ys m, first_larger y x ys xs m)
      | inr (inr m) ↦ absurd (omega arith)
    ]

-- a word with an alias that is shorter than those of a tally is the worse one
pub shorter_worse : (A : Arithmetic) → Lawful A → (n : ℕ) (base : List ℕ) (w : ℕ) (xs ys : List ℕ) (k : ℕ) → fair A n base ≡ true → Word A n w → IsTally A n base w ys → length xs ≡ 33 → k ≤ 33 →
    ((i : ℕ) → i < k → slice_index xs i ≡ 0) → (legal A n w && any_shorter A k (aliases A n base w)) ≡ true → First ≡ verdict_of (no_more xs ys) (no_more ys xs)
shorter_worse A L n base w xs ys k f ww tally size few none t =
    let short = some_short A k (aliases A n base w) (and_parts (legal A n w) (any_shorter A k (aliases A n base w)) t).1 in
    let i = short.0 in
    let count : slice_index ys i ≡ of_length A i (aliases A n base w) =
    tally.1 i (omega (arith, short.1)) ∙ tally_count A L n base f w ww i ∙ sym (aliases_times A L n base w (λ x. nat_eq (word_length A x) i) ww) in
    let both = zeros_before xs ys k i none short.1 (omega (arith, short.2)) (omega (arith, short.1)) (omega (arith, short.1, tally.0)) in
    cc

-- the tallies of a word are a tally of it
pub tally_of : (A : Arithmetic) (n : ℕ) (base : List ℕ) (w : ℕ) → IsTally A n base w (all_tallies A n base w)
unfolding all_tallies
tally_of A n base w = (tallies_length A n base w 0 33, λ i l. tallies_at A n base w 0 33 i l ∙ ap (tallied A n base w) (zero-add i))

-- a word has one tally
pub tally_same : (A : Arithmetic) (n : ℕ) (base : List ℕ) (w : ℕ) (xs ys : List ℕ) → IsTally A n base w xs → IsTally A n base w ys → xs ≡ ys
tally_same A n base w xs ys p q = tallies_from A n base w xs 33 p.0 p.1 ∙ sym (tallies_from A n base w ys 33 q.0 q.1)
