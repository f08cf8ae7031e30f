-- Words of one letter and of two by their factors, and their places.
use Rattle.std.proofs.Common.{◌≡◌, ℕ, zero, suc, ◌+◌, ◌-◌, ◌*◌, ◌/◌, ◌%◌, ◌^◌, ◌<◌, ◌≤◌, List, length, get_or, sym, ap, ap₂, ◌∙◌, inl, inr, pow-suc, arith}
use lib.Count.{count_leading_zeros}
use Rattle.std.proofs.lemmas.Nat.{pow_pos, leading_length}
use Rattle.std.proofs.lemmas.Bool.{cases_lt}
use Rattle.std.proofs.Math.Nat.{pow-le-pow_right}
use Rattle.levels.specs.Arithmetic.{two}
use Rattle.levels.specs.Words.{code_sum}
use Rattle.aliasing.specs.Clear.{letter}
use Rattle.aliasing.specs.Short.{one_letter, two_letters, Own, Short, Stands, sum_at}

-- the letter of a factor from 1 is that of the one before it from 0
pub letter_one : (i : ℕ) → 1 ≤ i → one_letter i ≡ letter (i - 1)
letter_one zero l = absurd (omega arith)
letter_one (suc i) l = let e : suc i - 1 ≡ i = omega arith in omega (arith, pow-suc 2 i, ap letter e)

-- a power of 2 is twice that letter
letter_double : (i : ℕ) → 1 ≤ i → 2 ^ i ≡ 2 * one_letter i
letter_double zero l = absurd (omega arith)
letter_double (suc i) l = omega (arith, pow-suc 2 i)

-- powers of 2 grow
pub grow : (i j : ℕ) → i ≤ j → 2 ^ i ≤ 2 ^ j
grow i j l = pow-le-pow_right {n = 2} (omega arith) l

-- the letter of a later factor is at least twice that of an earlier one
pub one_twice : (i j : ℕ) → i < j → 2 ^ i ≤ one_letter j
one_twice i zero l = absurd (omega arith)
one_twice i (suc j) l = omega (arith, pow-suc 2 j, grow i j (omega arith))

-- and greater
pub one_less : (i j : ℕ) → i < j → one_letter i < one_letter j
one_less i j l = omega (arith, one_twice i j l, pow_pos i)

-- the second factors of a word are the same
second_same : (i j k l : ℕ) → i < j → k < l → two_letters i j ≡ two_letters k l → l ≤ j
second_same i j k l a b e = elim (cases_lt j l) [ inl lt ↦ absurd (omega (arith, one_less i j a, one_twice j l lt)) | inr le ↦ le ]

-- a word has one place
pub factors_same : (i j k l : ℕ) → i < j → k < l → two_letters i j ≡ two_letters k l → (i ≡ k) × (j ≡ l)
factors_same i j k l a b e =
    let second : j ≡ l = omega (arith, second_same i j k l a b e, second_same k l i j b a (sym e)) in
    let first : one_letter i ≡ one_letter k = omega (arith, ap one_letter second) in (
      elim (cases_lt i k) [
        | inl lt ↦ absurd (omega (arith, one_less i k lt))
        | inr le ↦ elim (cases_lt k i) [ inl lt ↦ absurd (omega (arith, one_less k i lt)) | inr ge ↦ omega arith ]
      ],
      second,
    )

-- the last factor of a code, by its leading zeros
pub top_low : (w : ℕ) → w < 2 ^ 64 → one_letter (64 - count_leading_zeros 64 w) ≤ w
top_low w l =
    let h = leading_length 64 w l in
    let e : 64 - count_leading_zeros 64 w ≡ h.0 = omega (arith, h.1) in
    rw e (omega (arith, h.3))

-- and no later one
pub top_high : (w : ℕ) → w < 2 ^ 64 → w < 2 ^ (64 - count_leading_zeros 64 w)
top_high w l =
    let h = leading_length 64 w l in
    let e : 64 - count_leading_zeros 64 w ≡ h.0 = omega (arith, h.1) in
    rw e h.2

-- a code has one last factor
top_same : (w a b : ℕ) → one_letter a ≤ w → w < 2 ^ a → one_letter b ≤ w → w < 2 ^ b → a ≡ b
top_same w a b la ha lb hb = elim (cases_lt a b) [
  | inl lt ↦ absurd (omega (arith, one_twice a b lt))
  | inr le ↦ elim (cases_lt b a) [ inl lt ↦ absurd (omega (arith, one_twice b a lt)) | inr ge ↦ omega arith ]
]

-- the two factors of a word, by its last and that of what is left without it
pub tops_place : (w j i : ℕ) → one_letter j ≤ w → w < 2 ^ j → one_letter i ≤ w - one_letter j → w - one_letter j < 2 ^ i → Short w →
    (1 ≤ j) × ((a : ℕ) × (b : ℕ) × (a < b) × (two_letters a b ≡ w) × (32 * i + j - 1 ≡ 32 * a + b - 1))
tops_place w j i lj hj li hi s =
    let a = s.0 in
    let b = s.1 in
    let l = s.2 in
    let e = s.3 in
    let last : b ≡ j = top_same w b j (omega arith) (omega (arith, one_twice a b l, pow_pos a, letter_double b (omega arith))) lj hj in
    let rest : w - one_letter j ≡ one_letter a = omega (arith, ap one_letter last) in
    let first : a ≡ i = top_same (w - one_letter j) a i (omega arith) (omega (arith, pow_pos a)) li hi in
    (omega arith, (a, b, l, e, omega (arith, first, last)))

-- the first factor of a place
pub place_first : (i j : ℕ) → i < j → j ≤ 32 → (32 * i + j - 1) / 32 ≡ i
place_first i j l h = omega arith

-- and the second
pub place_second : (i j : ℕ) → i < j → j ≤ 32 → (32 * i + j - 1) % 32 + 1 ≡ j
place_second i j l h = omega arith

-- the word of two factors stands at its place
pub pair_stands : (ls : List ℕ) (i j : ℕ) → i < j → j < length ls → length ls ≤ 33 → Stands ls (32 * i + j - 1)
pair_stands ls i j l h few =
    let p = place_first i j l (omega arith) in
    let q = place_second i j l (omega arith) in
    (omega arith, omega arith)

-- its least alias is the sum of theirs
pub sum_pair : (ls : List ℕ) (i j : ℕ) → i < j → j ≤ 32 → sum_at ls (32 * i + j - 1) ≡ code_sum two (get_or ls i 0) (get_or ls j 0)
sum_pair ls i j l h = ap₂ (λ a b. code_sum two (get_or ls a 0) (get_or ls b 0)) (place_first i j l h) (place_second i j l h)

-- the word at its place is that of the two factors
pub word_pair : (i j : ℕ) → i < j → j ≤ 32 → two_letters ((32 * i + j - 1) / 32) ((32 * i + j - 1) % 32 + 1) ≡ two_letters i j
word_pair i j l h = ap₂ two_letters (place_first i j l h) (place_second i j l h)

-- two words that are their own least aliases, and have the same, stand at one place
pub own_same : (ls : List ℕ) (p q : ℕ) → Stands ls p → Stands ls q → Own ls p → Own ls q → sum_at ls p ≡ sum_at ls q → p ≡ q
own_same ls p q sp sq op oq e =
    let a = sp.0 in
    let b = sq.0 in
    let f = factors_same (p / 32) (p % 32 + 1) (q / 32) (q % 32 + 1) (omega arith) (omega arith) (sym op ∙ e ∙ oq) in
    omega (arith, f.0, f.1)
