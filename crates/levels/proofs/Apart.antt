-- Where the digits of a sum are 0: where the first word is the opposite of the second.
use Rattle.std.proofs.Common.{◌≡◌, ℕ, zero, suc, ◌+◌, ◌-◌, ◌*◌, ◌%◌, ◌/◌, ◌^◌, ◌<◌, Bool, cond, eqb, List, [], ◌∷◌, map, length, get_or, sym, refl, ap, ap₂, ◌∙◌, inl, inr, arith}
use lib.Bits.{bit_xor, xor_shr, xor_mod, xor_self, xor_lt, xor_assoc, xor_zero_l, xor_zero_r}
use Rattle.std.proofs.Math.Nat.{zero-mod, zero-div}
use Rattle.std.proofs.lemmas.Bool.{cases_eq, eq-eqb, ne_eqb, OnTrue_at}
use Rattle.std.specs.List.{AllByRecursion}
use Rattle.levels.specs.Arithmetic.{Arithmetic, Lawful}
use Rattle.levels.specs.Words.{digits, zip_with, nonzero, code_sum, word_sum, word_length}
use Rattle.levels.specs.Space.{AllWords, Word}
use Rattle.bounded.specs.Items.{items_of}
use Rattle.levels.specs.declared.opposites.Leaves.{Leaves}
use Rattle.levels.specs.Leaves.{AllOpposite, AreOpposite, leaf_words}
use Rattle.levels.proofs.Digits.{word_legal}
use Rattle.levels.proofs.Space.{sum_digits, vector_space}
use Rattle.levels.proofs.Lengths.{length_digits, more_digits, nonzero_zeros, sum_code}

-- two numbers whose exclusive or is 0 are equal
apart_none : (a b : ℕ) → bit_xor a b ≡ 0 → a ≡ b
apart_none a b e = sym (xor_zero_r a) ∙ ap (bit_xor a) (sym (xor_self b)) ∙ sym (xor_assoc a b b) ∙ ap (λ x. bit_xor x b) e ∙ xor_zero_l b

-- which digits are 0
abbrev pub empty : List ℕ → List Bool
empty ds = map (λ d. eqb d 0) ds

-- how many are not
abbrev filled : List Bool → ℕ
filled [] = 0
filled (t ∷ ts) = cond t 0 1 + filled ts

nonzero_filled : (ds : List ℕ) → nonzero ds ≡ filled (empty ds)
nonzero_filled [] = refl
nonzero_filled (d ∷ ds) = ap (λ m. cond (eqb d 0) 0 1 + m) (nonzero_filled ds)

-- code 0 has no digit other than 0
none_filled : (A : Arithmetic) (m : ℕ) → nonzero (digits A m 0) ≡ 0
none_filled A zero = refl
none_filled A (suc m) =
    let low : 0 % 2 ^ A.bits ≡ 0 = zero-mod (2 ^ A.bits) in
    let rest : 0 / 2 ^ A.bits ≡ 0 = zero-div (2 ^ A.bits) in
    let more = none_filled A m in
    rw (low, rest) (omega (arith, more))

module _ (A : Arithmetic) (L : Lawful A) where
  -- levels with a sum of 0 are opposites, and a level has one opposite
  one_opposite : (x y z : ℕ) → x < A.s → y < A.s → z < A.s → A.plus y z ≡ 0 → A.plus x y ≡ 0 → x ≡ z
  one_opposite x y z lx ly lz e h =
      let F = L.field in
      sym (F.plus_zero x lx) ∙ F.plus_comm 0 x (omega arith) lx ∙ ap (A.plus x) (sym e) ∙ sym (F.plus_assoc x y z lx ly lz) ∙ ap (λ t. A.plus t z) h ∙ F.plus_zero z lz

  -- a sum of levels is 0 where the first is the opposite of the second
  level_empty : (x y z : ℕ) → x < A.s → y < A.s → z < A.s → A.plus y z ≡ 0 → eqb (bit_xor x z) 0 ≡ eqb (A.plus x y) 0
  level_empty x y z lx ly lz e = elim (cases_eq x z) [
    | inl same ↦
        let none : bit_xor x z ≡ 0 = ap (λ t. bit_xor t z) same ∙ xor_self z in
        let sum : A.plus x y ≡ 0 = ap (λ t. A.plus t y) same ∙ L.field.plus_comm z y lz ly ∙ e in
        eq-eqb (bit_xor x z) 0 none ∙ sym (eq-eqb (A.plus x y) 0 sum)
    | inr differ ↦
        ne_eqb (bit_xor x z) 0 (λ h. differ (apart_none x z h)) ∙ sym (ne_eqb (A.plus x y) 0 (λ h. differ (one_opposite x y z lx ly lz e h)))
  ]

  -- so digit by digit
  digits_empty : (n a b o : ℕ) → AllByRecursion (λ d. d < A.s) (digits A n a) → AllByRecursion (λ d. d < A.s) (digits A n b) → AllByRecursion (λ d. d < A.s) (digits A n o) →
      nonzero (zip_with A.plus (digits A n b) (digits A n o)) ≡ 0 → empty (digits A n (bit_xor a o)) ≡ empty (zip_with A.plus (digits A n a) (digits A n b))
  digits_empty zero a b o la lb lo e = refl
  digits_empty (suc n) a b o la lb lo e =
      let w = 2 ^ A.bits in
      let y = b % w in
      let z = o % w in
      let none : A.plus y z ≡ 0 = elim (cases_eq (A.plus y z) 0) as (λ _. A.plus y z ≡ 0) [
        | inl t ↦ t
        | inr f ↦ let one : cond (eqb (A.plus y z) 0) 0 1 ≡ 1 = ap (λ (t : Bool). cond {A = ℕ} t 0 1) (ne_eqb (A.plus y z) 0 f) in absurd (omega (arith, e, one))
      ] in
      let rest : nonzero (zip_with A.plus (digits A n (b / w)) (digits A n (o / w))) ≡ 0 = omega (arith, e) in
      let here = ap (λ x. eqb x 0) (xor_mod a o A.bits) ∙ level_empty (a % w) y z la.0 lb.0 lo.0 none in
      let there = ap (λ x. empty (digits A n x)) (xor_shr a o A.bits) ∙ digits_empty n (a / w) (b / w) (o / w) la.1 lb.1 lo.1 rest in
      ap₂ (λ (t : Bool) (ts : List Bool). t ∷ ts) here there

  module _ (n a b o : ℕ) (wa : Word A n a) (wb : Word A n b) (wo : Word A n o) (none : word_sum A n b o ≡ 0) where
    -- the digits of the sum that are 0
    pub sum_empty : empty (digits A n (bit_xor a o)) ≡ empty (digits A n (word_sum A n a b))
    sum_empty =
        let zeros : nonzero (zip_with A.plus (digits A n b) (digits A n o)) ≡ 0 =
        ap nonzero (sym (sum_digits A L n b o wb wo)) ∙ ap (λ x. nonzero (digits A n x)) none ∙ none_filled A n in
        digits_empty n a b o (word_legal A n a wa).levels (word_legal A n b wb).levels (word_legal A n o wo).levels zeros
        ∙ ap empty (sym (sum_digits A L n a b wa wb))

    pub below : bit_xor a o < 2 ^ (A.bits * n)
    below = xor_lt (A.bits * n) a o (word_legal A n a wa).below (word_legal A n o wo).below

    -- the sum is a word
    pub sum_is_one : Word A n (word_sum A n a b)
    sum_is_one = let l = word_legal A n a wa in (vector_space A L n l.low l.high).sum_word a b wa wb

    -- so the lengths are equal
    pub apart_length : word_length A (bit_xor a o) ≡ word_length A (word_sum A n a b)
    unfolding word_length
    apart_length =
        let high = (word_legal A n a wa).high in
        let e : 64 ≡ n + (64 - n) = omega arith in
        let x = bit_xor a o in
        ap (λ k. nonzero (digits A k x)) e ∙ ap nonzero (more_digits A n (64 - n) x below) ∙ nonzero_zeros (digits A n x) (64 - n)
        ∙ nonzero_filled (digits A n x) ∙ ap filled sum_empty ∙ sym (nonzero_filled (digits A n (word_sum A n a b))) ∙ sym (length_digits A n (word_sum A n a b) sum_is_one)

-- the length of the sum of a start and a leaf, by the opposite of the leaf
pub leaf_apart : (A : Arithmetic) (L : Lawful A) (n start : ℕ) → Word A n start → (leaves : Leaves) → AllOpposite A n leaves → AllWords A n (leaf_words leaves) → (k : ℕ) → k < length (leaf_words leaves) →
    word_length A (bit_xor start (get_or (items_of leaves.opposites) k 0)) ≡ word_length A (code_sum A start (get_or (leaf_words leaves) k 0))
leaf_apart A L n start ws leaves opposites words k l =
    let w = get_or (leaf_words leaves) k 0 in
    let o = get_or (items_of leaves.opposites) k 0 in
    let hw = words k l in
    let p = OnTrue_at {P = AreOpposite A n w o} hw (opposites.1 k l).0 in
    apart_length A L n start w o ws hw p.0 p.1 ∙ ap (word_length A) (sum_code A L n start w ws hw)
