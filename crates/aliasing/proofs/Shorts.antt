-- Words of one letter and of two: they are the two-level words of these lengths; and how many there are.
use Rattle.std.proofs.Common.{◌≡◌, ℕ, zero, suc, ◌+◌, ◌*◌, ◌/◌, ◌%◌, ◌^◌, ◌<◌, ◌≤◌, cond, eqb, ◌⊎◌, List, [], ◌∷◌, map, length, replicate, sym, refl, ap, ◌∙◌, subst, inl, inr, mul_assoc, mul_comm, one-mul, pow-suc, mul-zero, mul-one, mul-add, arith, length-append}
use Rattle.std.proofs.lemmas.Nat.{pow_pos, mod_below}
use Rattle.std.proofs.lemmas.List.{length-map}
use Rattle.std.proofs.lemmas.Bool.{cases_eq}
use Rattle.std.proofs.lemmas.Bool.Decides.{nat_tests}
use Rattle.levels.specs.Arithmetic.{two}
use Rattle.levels.specs.Words.{digits, code, nonzero, word_length}
use Rattle.levels.specs.Space.{Word}
use Rattle.levels.proofs.Digits.{digits_fit, digits_length, code_digits, word_legal, legal_word}
use Rattle.levels.proofs.Space.{zero_digits}
use Rattle.levels.proofs.Lengths.{nonzero_none, nonzero_zeros, length_digits}
use Rattle.levels.proofs.Places.{In, in_left, in_right, in_append, in_map, in_map_from}
use Rattle.levels.proofs.Ascending.{in_here, in_later, in_cons, in_none}
use Rattle.aliasing.specs.Clear.{letter, pair, pairs_with, pairs_from, pairs}

-- the letters of k factors from i on
abbrev pub letters_from : ℕ → ℕ → List ℕ
letters_from i zero = []
letters_from i (suc k) = letter i ∷ letters_from (suc i) k

-- z has m letters, of k factors from i on
pub record Letters (m i k z : ℕ) : Type 0 where
  pub rest : ℕ
  pub value : z ≡ 2 ^ i * rest
  pub below : rest < 2 ^ k
  pub many : nonzero (digits two k rest) ≡ m

-- code 0 has no letter
no_letter : (k : ℕ) → nonzero (digits two k 0) ≡ 0
no_letter k = ap nonzero (zero_digits two k) ∙ nonzero_zeros [] k

-- and no other code has none
only_none : (k z : ℕ) → z < 2 ^ k → nonzero (digits two k z) ≡ 0 → z ≡ 0
only_none k z l e =
    let below : z < 2 ^ (1 * k) = subst (λ j. z < 2 ^ j) (sym (one-mul k)) l in
    let none : digits two k z ≡ digits two k 0 = nonzero_none (digits two k z) e ∙ ap (λ j. replicate j 0) (digits_length two k z) ∙ sym (zero_digits two k) in
    sym (code_digits two k z below) ∙ ap (code two) none ∙ code_digits two k 0 (subst (λ j. 0 < 2 ^ j) (sym (one-mul k)) (omega arith))

-- with the lowest factor or without it
join : (m i k d z : ℕ) → d < 2 → Letters m (suc i) k z → Letters (d + m) i (suc k) (2 ^ i * d + z)
join m i k d z l h =
    let y = h.rest in
    let b = h.below in
    let q : (d + y * 2) / 2 ≡ y = omega arith in
    let r : (d + y * 2) % 2 ≡ d = omega arith in
    record {
      rest = d + y * 2;
      value = ap (λ w. 2 ^ i * d + w) (h.value ∙ ap (λ p. p * y) (pow-suc 2 i) ∙ mul_assoc (2 ^ i) 2 y ∙ ap (λ w. 2 ^ i * w) (mul_comm 2 y)) ∙ sym (mul-add (2 ^ i) d (y * 2));
      below = omega (arith, pow-suc 2 k);
      many = rw (r, q) (let e = h.many in digit-count d (nonzero (digits two k y)) m l e);
    }
  where
    digit-count : (d c m : ℕ) → d < 2 → c ≡ m → cond (eqb d 0) 0 1 + c ≡ d + m
    digit-count d c m l e = grind (arith, nat_tests)

-- code 0, of no letter
blank : (i k : ℕ) → Letters 0 i k 0
blank i k = record { rest = 0; value = sym (mul-zero (2 ^ i)); below = pow_pos k; many = no_letter k }

-- a code of no letter is 0
blank_only : (i k z : ℕ) → Letters 0 i k z → z ≡ 0
blank_only i k z h = h.value ∙ ap (λ y. 2 ^ i * y) (only_none k h.rest h.below h.many) ∙ mul-zero (2 ^ i)

-- a word has the letter of the lowest factor, and the others in the rest, or has none of it
lowest : (m i k z : ℕ) → Letters (suc m) i (suc k) z → Letters (suc m) (suc i) k z ⊎ ((y : ℕ) × Letters m (suc i) k y × (letter i + y ≡ z))
lowest m i k z h =
    let d = h.rest % 2 in
    let y = h.rest / 2 in
    let level = mod_below h.rest 2 (omega arith) in
    let split : h.rest ≡ d + y * 2 = omega arith in
    let b = h.below in
    let below : y < 2 ^ k = omega (arith, pow-suc 2 k) in
    let sum : z ≡ 2 ^ i * d + 2 ^ suc i * y =
    h.value ∙ ap (λ w. 2 ^ i * w) split ∙ mul-add (2 ^ i) d (y * 2)
    ∙ ap (λ w. 2 ^ i * d + w) (ap (λ w. 2 ^ i * w) (mul_comm y 2) ∙ sym (mul_assoc (2 ^ i) 2 y) ∙ ap (λ p. p * y) (sym (pow-suc 2 i))) in
    let count : suc m ≡ d + nonzero (digits two k y) = sym h.many ∙ digit-count d (nonzero (digits two k y)) level in
    elim (cases_eq d 0) [
      | inl e ↦ inl (record { rest = y; value = omega (arith, sum, ap (λ d. 2 ^ i * d) e, mul-zero (2 ^ i)); below = below; many = omega (arith, count, e) })
      | inr ne ↦
          let one : d ≡ 1 = omega (arith, ne) in
          inr (2 ^ suc i * y, record { rest = y; value = refl; below = below; many = omega (arith, count, one) }, omega (arith, sum, ap (λ d. 2 ^ i * d) one, mul-one (2 ^ i)))
    ]
  where
    digit-count : (d c : ℕ) → d < 2 → cond (eqb d 0) 0 1 + c ≡ d + c
    digit-count d c l = grind (arith, nat_tests)

-- the letters have one letter
pub letters_are : (i k z : ℕ) → In z (letters_from i k) → Letters 1 i k z
letters_are i zero z p = absurd (in_none z p)
letters_are i (suc k) z p = elim (in_cons (letter i) z (letters_from (suc i) k) p) [
  | inl e ↦ subst (Letters 1 i (suc k)) (let s : 2 ^ i * 1 + 0 ≡ z = omega (arith, mul-one (2 ^ i)) in s) (join 0 i k 1 0 (omega arith) (blank (suc i) k))
  | inr q ↦ subst (Letters 1 i (suc k)) (let s : 2 ^ i * 0 + z ≡ z = omega (arith, mul-zero (2 ^ i)) in s) (join 1 i k 0 z (omega arith) (letters_are (suc i) k z q))
]

-- the pairs with a factor are that letter and each later one
pub pairs_with_map : (i j k : ℕ) → pairs_with i j k ≡ map (λ l. letter i + l) (letters_from j k)
pairs_with_map i j zero = refl
pairs_with_map i j (suc k) = ap (λ xs. pair i j ∷ xs) (pairs_with_map i (suc j) k)

-- the pairs have two
pub pairs_are : (i k z : ℕ) → In z (pairs_from i k) → Letters 2 i k z
pairs_are i zero z p = absurd (in_none z p)
pairs_are i (suc k) z p = elim (in_append (pairs_with i (suc i) k) (pairs_from (suc i) k) z p) [
  | inl q ↦
      let r = in_map_from (λ l. letter i + l) (letters_from (suc i) k) z (rw (pairs_with_map i (suc i) k) at q) in
      let e = r.2 in
      subst (Letters 2 i (suc k)) (let s : 2 ^ i * 1 + r.0 ≡ z = omega (arith, mul-one (2 ^ i)) in s) (join 1 i k 1 r.0 (omega arith) (letters_are (suc i) k r.0 r.1))
  | inr q ↦ subst (Letters 2 i (suc k)) (let s : 2 ^ i * 0 + z ≡ z = omega (arith, mul-zero (2 ^ i)) in s) (join 2 i k 0 z (omega arith) (pairs_are (suc i) k z q))
]

-- a word of one letter is one of the letters
pub are_letters : (i k z : ℕ) → Letters 1 i k z → In z (letters_from i k)
are_letters i zero z h = absurd (let e = h.many in omega arith)
are_letters i (suc k) z h = elim (lowest 0 i k z h) [
  | inl q ↦ in_later (letter i) z (letters_from (suc i) k) (are_letters (suc i) k z q)
  | inr q ↦ subst (λ w. In w (letters_from i (suc k))) (let e : letter i ≡ z = omega (arith, q.2, blank_only (suc i) k q.0 q.1) in e) (in_here (letter i) (letters_from (suc i) k))
]

-- and one of two letters is one of the pairs
pub are_pairs : (i k z : ℕ) → Letters 2 i k z → In z (pairs_from i k)
are_pairs i zero z h = absurd (let e = h.many in omega arith)
are_pairs i (suc k) z h = elim (lowest 1 i k z h) [
  | inl q ↦ in_right (pairs_with i (suc i) k) (pairs_from (suc i) k) z (are_pairs (suc i) k z q)
  | inr q ↦ in_left (pairs_with i (suc i) k) (pairs_from (suc i) k) z
      (rw (pairs_with_map i (suc i) k) (subst (λ w. In w (map (λ l. letter i + l) (letters_from (suc i) k))) q.2 (in_map (λ l. letter i + l) (letters_from (suc i) k) q.0 (are_letters (suc i) k q.0 q.1))))
]

-- a code of m letters of n factors is a word of length m
letters_word : (m n z : ℕ) → 0 < m → n ≤ 32 → Letters m 0 n z → Word two n z × (word_length two z ≡ m)
letters_word m zero z pos high h = absurd (let e = h.many in omega arith)
letters_word m (suc n) z pos high h =
    let e : h.rest ≡ z = sym (h.value ∙ one-mul h.rest) in
    let below : z < 2 ^ (1 * suc n) = rw (one-mul (suc n)) (subst (λ w. w < 2 ^ suc n) e h.below) in
    let word : Word two (suc n) z = legal_word two (suc n) z (record { low = omega arith; high = high; below = below; levels = digits_fit two (suc n) z }) in
    (word, length_digits two (suc n) z word ∙ ap (λ w. nonzero (digits two (suc n) w)) (sym e) ∙ h.many)

-- and a word of length m has m letters
word_letters : (m n z : ℕ) → Word two n z → word_length two z ≡ m → Letters m 0 n z
word_letters m n z h e = record {
  rest = z;
  value = sym (one-mul z);
  below = rw (one-mul n) at (word_legal two n z h).below;
  many = sym (length_digits two n z h) ∙ e;
}

-- a code of 64 bits has as many letters as its length says
pub many_length : (m z : ℕ) → Letters m 0 64 z → word_length two z ≡ m
unfolding word_length
many_length m z h = ap (λ w. nonzero (digits two 64 w)) (h.value ∙ one-mul h.rest) ∙ h.many

-- and its length says as many
pub length_many : (m z : ℕ) → z < 2 ^ 64 → word_length two z ≡ m → Letters m 0 64 z
unfolding word_length
length_many m z l e = record { rest = z; value = sym (one-mul z); below = l; many = e }

-- the letters are words of length 1
pub letter_word : (n z : ℕ) → n ≤ 32 → In z (letters_from 0 n) → Word two n z × (word_length two z ≡ 1)
letter_word n z high p = letters_word 1 n z (omega arith) high (letters_are 0 n z p)

-- and a word of length 1 is one of them
pub word_letter : (n z : ℕ) → Word two n z → word_length two z ≡ 1 → In z (letters_from 0 n)
word_letter n z h e = are_letters 0 n z (word_letters 1 n z h e)

-- the pairs are words of length 2
pub pair_word : (n z : ℕ) → n ≤ 32 → In z (pairs n) → Word two n z × (word_length two z ≡ 2)
pair_word n z high p = letters_word 2 n z (omega arith) high (pairs_are 0 n z p)

-- and a word of length 2 is one of them
pub word_pair : (n z : ℕ) → Word two n z → word_length two z ≡ 2 → In z (pairs n)
word_pair n z h e = are_pairs 0 n z (word_letters 2 n z h e)

-- there is a letter for each factor
pub letters_length : (i k : ℕ) → length (letters_from i k) ≡ k
letters_length i zero = refl
letters_length i (suc k) = ap suc (letters_length (suc i) k)

-- the number of pairs of k factors
abbrev pair_count : ℕ → ℕ
pair_count zero = 0
pair_count (suc k) = k + pair_count k

-- so many are listed
pairs_length : (i k : ℕ) → length (pairs_from i k) ≡ pair_count k
pairs_length i zero = refl
pairs_length i (suc k) =
    length-append (pairs_with i (suc i) k) (pairs_from (suc i) k)
    ∙ omega (arith, ap length (pairs_with_map i (suc i) k), length-map (letters_from (suc i) k) (λ l. letter i + l), letters_length (suc i) k, pairs_length (suc i) k)

-- fewer factors have fewer pairs
pair_count_up : (j k : ℕ) → j ≤ k → pair_count j ≤ pair_count k
pair_count_up zero k l = omega arith
pair_count_up (suc j) zero l = absurd (omega arith)
pair_count_up (suc j) (suc k) l = let h = pair_count_up j k (omega arith) in omega arith

-- at most 32 factors have at most 496 pairs
pub pairs_most : (n : ℕ) → n ≤ 32 → length (pairs n) ≤ 496
pairs_most n l = rw (pairs_length 0 n) (pair_count_up n 32 l)
