-- Words of one letter and of two by their factors: which they are, and their least aliases.
use Rattle.std.proofs.Common.{◌≡◌, ℕ, zero, suc, ◌+◌, ◌-◌, ◌*◌, ◌^◌, ◌<◌, ◌≤◌, ◌⊎◌, List, length, get_or, sym, ap, ◌∙◌, subst, ap₂, inl, inr, pow-suc, arith}
use lib.Bits.{bit_xor, xor_zero_l, xor_zero_r}
use Rattle.std.proofs.lemmas.Nat.{pow_pos, xor_block}
use Rattle.std.proofs.lemmas.Bool.{cases_eq, cases_lt}
use Rattle.levels.specs.Arithmetic.{Arithmetic, Lawful, two}
use Rattle.levels.specs.Lawful.{lawful_two}
use Rattle.levels.specs.Words.{word_sum, code_sum, word_length}
use Rattle.levels.specs.Space.{Word}
use Rattle.levels.specs.Basis.{Echelon, LeastAlias}
use Rattle.levels.proofs.Generation.{generates_word, generates_sum}
use Rattle.levels.proofs.Lengths.{sum_code}
use Rattle.levels.proofs.Leads.{smallest_sum}
use Rattle.levels.proofs.Places.{In, in_left, in_right, in_append, in_map, in_map_from}
use Rattle.levels.proofs.Ascending.{in_none}
use Rattle.levels.proofs.Reduced.{space_at, clear_alias, alias_word, alias_clear}
use Rattle.aliasing.specs.Clear.{letter, pair, pairs_with, pairs_from}
use Rattle.aliasing.specs.Short.{one_letter, two_letters, LeastAliases, Short}
use Rattle.aliasing.proofs.Evens.{below_word, sum_xor}
use Rattle.aliasing.proofs.Factors.{grow, letter_one, one_less, one_twice}
use Rattle.aliasing.proofs.Shorts.{Letters, letters_from, letters_length, pairs_with_map, letters_are, pairs_are, are_letters, are_pairs, many_length, length_many, letter_word, word_letter, pair_word, word_pair}

-- the least alias of a sum is the sum of the least aliases
pub least_sum : (A : Arithmetic) → Lawful A → (n : ℕ) (rows : List ℕ) (a b r q : ℕ) → Echelon A n rows → Word A n a → Word A n b →
    LeastAlias A n rows a r → LeastAlias A n rows b q → LeastAlias A n rows (word_sum A n a b) (word_sum A n r q)
least_sum A L n rows a b r q e ha hb la lb =
    let V = space_at A L n a ha in
    let g = la.alias.0 in
    let h = lb.alias.0 in
    let hr = alias_word A L n V rows a r ha la in
    let hq = alias_word A L n V rows b q hb lb in
    let hg = generates_word A L n V rows g la.alias.1 in
    let hh = generates_word A L n V rows h lb.alias.1 in
    let same : word_sum A n r q ≡ word_sum A n (word_sum A n a b) (word_sum A n g h)
    = cc (
      la.alias.2,
      lb.alias.2,
      V.sum_assoc a b (word_sum A n g h) ha hb (V.sum_word g h hg hh),
      V.sum_assoc b g h hb hg hh,
      V.sum_comm b g hb hg,
      V.sum_assoc g b h hg hb hh,
      V.sum_assoc a g (word_sum A n b h) ha hg (V.sum_word b h hb hh),
    ) in
    clear_alias A L n V rows e (word_sum A n a b) (word_sum A n r q) (V.sum_word a b ha hb)
    (word_sum A n g h, generates_sum A L n V rows g h la.alias.1 lb.alias.1, same)
    (λ i l. smallest_sum A L n (get_or rows i 0) (e.words i l) r q hr hq (alias_clear A L n V rows a r e.words ha la i l) (alias_clear A L n V rows b q e.words hb lb i l))

-- the letter at a place
letter_at : (i k m : ℕ) → m < k → get_or (letters_from i k) m 0 ≡ letter (i + m)
letter_at i zero m l = absurd (omega arith)
letter_at i (suc k) zero l = ap letter (omega arith)
letter_at i (suc k) (suc m) l = letter_at (suc i) k m (omega arith) ∙ ap letter (omega arith)

-- a letter of the list is that of a factor
letter_of : (i k z : ℕ) → In z (letters_from i k) → (m : ℕ) × (m < k) × (letter (i + m) ≡ z)
letter_of i k z p = let l : p.0 < k = omega (arith, p.1, letters_length i k) in (p.0, l, sym (letter_at i k p.0 l) ∙ p.2)

-- that of each factor is in the list
letter_in : (i k m : ℕ) → m < k → In (letter (i + m)) (letters_from i k)
letter_in i k m l = (m, omega (arith, letters_length i k), letter_at i k m l)

-- a pair of the list is that of two factors
pair_of : (i k z : ℕ) → In z (pairs_from i k) → (a : ℕ) × (b : ℕ) × (a < b) × (b < i + k) × (pair a b ≡ z)
pair_of i zero z p = absurd (in_none z p)
pair_of i (suc k) z p = elim (in_append (pairs_with i (suc i) k) (pairs_from (suc i) k) z p) [
  | inl q ↦
      let r = in_map_from (λ l. letter i + l) (letters_from (suc i) k) z (rw (pairs_with_map i (suc i) k) at q) in
      let s = letter_of (suc i) k r.0 r.1 in
      let m = s.1 in
      (i, suc i + s.0, omega arith, omega arith, ap (λ l. letter i + l) s.2 ∙ sym r.2)
  | inr q ↦ let r = pair_of (suc i) k z q in let m = r.3 in (r.0, r.1, r.2, omega arith, r.4)
]

-- that of each two factors is in the list
pair_in : (i k a b : ℕ) → i ≤ a → a < b → b < i + k → In (pair a b) (pairs_from i k)
pair_in i zero a b l m h = absurd (omega arith)
pair_in i (suc k) a b l m h = elim (cases_eq a i) [
  | inl e ↦
      let there : suc i + (b - suc i) ≡ b = omega arith in
      let p : In (letter b) (letters_from (suc i) k) = subst (λ c. In (letter c) (letters_from (suc i) k)) there (letter_in (suc i) k (b - suc i) (omega arith)) in
      in_left (pairs_with i (suc i) k) (pairs_from (suc i) k) (pair a b)
      (rw (e, pairs_with_map i (suc i) k) (in_map (λ l. letter i + l) (letters_from (suc i) k) (letter b) p))
  | inr ne ↦ in_right (pairs_with i (suc i) k) (pairs_from (suc i) k) (pair a b) (pair_in (suc i) k a b (omega (arith, ne)) m (omega arith))
]

-- a letter has no first factor
factors_one : (k z : ℕ) → In z (letters_from 0 k) → (i : ℕ) × (j : ℕ) × (i < j) × (j ≤ k) × (two_letters i j ≡ z)
factors_one k z p =
    let m = letter_of 0 k z p in
    let a = m.0 in
    let l = m.1 in
    let is : letter (0 + a) ≡ z = m.2 in
    (0, suc a, omega arith, omega arith, omega (arith, pow-suc 2 a, is, ap letter (let s : 0 + a ≡ a = omega arith in s)))

-- a pair has two
factors_two : (k z : ℕ) → In z (pairs_from 0 k) → (i : ℕ) × (j : ℕ) × (i < j) × (j ≤ k) × (two_letters i j ≡ z)
factors_two k z p =
    let m = pair_of 0 k z p in
    let a = m.0 in
    let b = m.1 in
    let l = m.2 in
    let h = m.3 in
    let is : pair a b ≡ z = m.4 in
    (suc a, suc b, omega arith, omega arith, omega (arith, pow-suc 2 a, pow-suc 2 b, is))

-- a code of 64 bits and of length 1 or 2 has two factors, the first of which may be none
pub length_short : (w : ℕ) → w < 2 ^ 64 → (word_length two w ≡ 1) ⊎ (word_length two w ≡ 2) → Short w
length_short w l h = elim h [
  | inl e ↦ let f = factors_one 64 w (are_letters 0 64 w (length_many 1 w l e)) in (f.0, f.1, f.2, f.4)
  | inr e ↦ let f = factors_two 64 w (are_pairs 0 64 w (length_many 2 w l e)) in (f.0, f.1, f.2, f.4)
]

-- and no other has
pub short_length : (w : ℕ) → w < 2 ^ 64 → Short w → (word_length two w ≡ 1) ⊎ (word_length two w ≡ 2)
short_length w l s =
    let a = s.0 in
    let b = s.1 in
    let ab = s.2 in
    let is = s.3 in
    let high : b ≤ 64 = elim (cases_lt 64 b) [ inl lt ↦ absurd (omega (arith, one_twice 64 b lt)) | inr le ↦ le ] in
    let last = letter_one b (omega arith) in
    elim (cases_eq a 0) [
      | inl z ↦
          let e : letter (0 + (b - 1)) ≡ w = omega (arith, last, ap one_letter z, ap letter (let s : 0 + (b - 1) ≡ b - 1 = omega arith in s)) in
          inl (many_length 1 w (subst (Letters 1 0 64) e (letters_are 0 64 (letter (0 + (b - 1))) (letter_in 0 64 (b - 1) (omega arith)))))
      | inr some ↦
          let low : 1 ≤ a = omega (arith, some) in
          let e : pair (a - 1) (b - 1) ≡ w = omega (arith, last, letter_one a low) in
          inr (many_length 2 w (subst (Letters 2 0 64) e (pairs_are 0 64 (pair (a - 1) (b - 1)) (pair_in 0 64 (a - 1) (b - 1) (omega arith) (omega arith) (omega arith)))))
    ]

module _ (n : ℕ) (high : n ≤ 32) where
  -- letters are words, and code 0 is one
  one_word : (i : ℕ) → 1 ≤ n → i ≤ n → Word two n (one_letter i)
  one_word i low l = below_word n (one_letter i) low high (omega (arith, pow_pos i, grow i n l))

  -- the pair of factors from 1 is that of factors from 0
  pub pair_two : (i j : ℕ) → 1 ≤ i → i < j → two_letters i j ≡ pair (i - 1) (j - 1)
  pair_two i j low l = ap₂ (λ a b. a + b) (letter_one i low) (letter_one j (omega arith))

  -- which is a word of two letters
  pub two_is : (i j : ℕ) → 1 ≤ i → i < j → j ≤ n → Word two n (two_letters i j) × (word_length two (two_letters i j) ≡ 2)
  two_is i j low l h =
      subst (λ z. Word two n z × (word_length two z ≡ 2)) (sym (pair_two i j low l)) (pair_word n (pair (i - 1) (j - 1)) high (pair_in 0 n (i - 1) (j - 1) (omega arith) (omega arith) (omega arith)))

  -- with no first factor it is one of one letter
  one_is : (j : ℕ) → 1 ≤ j → j ≤ n → Word two n (two_letters 0 j) × (word_length two (two_letters 0 j) ≡ 1)
  one_is j low h =
      let is : letter (0 + (j - 1)) ≡ two_letters 0 j = omega (arith, letter_one j low, ap letter (let e : 0 + (j - 1) ≡ j - 1 = omega arith in e)) in
      subst (λ z. Word two n z × (word_length two z ≡ 1)) is (letter_word n (letter (0 + (j - 1))) high (letter_in 0 n (j - 1) (omega arith)))

  -- so these are words of one letter or two
  pub short_is : (i j : ℕ) → i < j → j ≤ n → Word two n (two_letters i j) × ((word_length two (two_letters i j) ≡ 1) ⊎ (word_length two (two_letters i j) ≡ 2))
  short_is zero j l h = let w = one_is j (omega arith) h in (w.0, inl w.1)
  short_is (suc i) j l h = let w = two_is (suc i) j (omega arith) l h in (w.0, inr w.1)

  -- and each such word is one of these
  pub short_factors : (z : ℕ) → Word two n z → (word_length two z ≡ 1) ⊎ (word_length two z ≡ 2) → (i : ℕ) × (j : ℕ) × (i < j) × (j ≤ n) × (two_letters i j ≡ z)
  short_factors z w h = elim h [ inl e ↦ factors_one n z (word_letter n z w e) | inr e ↦ factors_two n z (word_pair n z w e) ]

  -- the sum of two letters
  pub letters_sum : (i j : ℕ) → i < j → j ≤ n → word_sum two n (one_letter i) (one_letter j) ≡ two_letters i j
  letters_sum i j l h =
      let a = one_letter i in
      let low : 1 ≤ j = omega arith in
      let top : one_letter j ≡ 1 * 2 ^ (j - 1) + 0 = letter_one j low ∙ omega arith in
      let small : a < 2 ^ (j - 1) = omega (arith, one_less i j l, letter_one j low) in
      sum_xor n a (one_letter j) (one_word i (omega arith) (omega arith)) (one_word j (omega arith) h)
      ∙ ap₂ bit_xor (let s : a ≡ 0 * 2 ^ (j - 1) + a = omega arith in s) top
      ∙ xor_block (j - 1) 0 1 a 0 small (pow_pos (j - 1))
      ∙ omega (arith, xor_zero_l 1, xor_zero_r a, letter_one j low)

  -- the same whatever the number of factors
  pub letters_code : (i j : ℕ) → i < j → j ≤ n → code_sum two (one_letter i) (one_letter j) ≡ two_letters i j
  letters_code i j l h = sym (sum_code two lawful_two n (one_letter i) (one_letter j) (one_word i (omega arith) (omega arith)) (one_word j (omega arith) h)) ∙ letters_sum i j l h

  -- the least alias of such a word is the sum of those of its letters
  pub least_two : (rows ls : List ℕ) → Echelon two n rows → LeastAliases n rows ls → (i j : ℕ) → i < j → j ≤ n → j < length ls →
      LeastAlias two n rows (two_letters i j) (code_sum two (get_or ls i 0) (get_or ls j 0))
  least_two rows ls e least i j l h there =
      let a = one_letter i in
      let b = one_letter j in
      let ha = one_word i (omega arith) (omega arith) in
      let hb = one_word j (omega arith) h in
      let la = least i (omega arith) e ha in
      let lb = least j there e hb in
      let V = space_at two lawful_two n a ha in
      subst (λ v. LeastAlias two n rows v (code_sum two (get_or ls i 0) (get_or ls j 0))) (letters_sum i j l h)
      (subst (LeastAlias two n rows (word_sum two n a b))
      (sum_code two lawful_two n (get_or ls i 0) (get_or ls j 0) (alias_word two lawful_two n V rows a (get_or ls i 0) ha la) (alias_word two lawful_two n V rows b (get_or ls j 0) hb lb))
      (least_sum two lawful_two n rows a b (get_or ls i 0) (get_or ls j 0) e ha hb la lb))
