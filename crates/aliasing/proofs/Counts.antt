-- The counts of a pattern from a tally of all sums of multiples: divided by the repeats and by s − 1.
use Rattle.std.proofs.Common.{◌≡◌, ℕ, zero, suc, ◌+◌, ◌-◌, ◌*◌, ◌/◌, ◌%◌, ◌^◌, ◌<◌, ◌≤◌, Bool, false, eqb, List, [], ◌∷◌, length, get_or, take, sym, refl, ap, ◌∙◌, subst, inl, inr, le_trans, add-zero, add-suc, mul-le-mul_right, mod-eq_of_lt, suc-add, one-mul, div-le_self, one-add, arith}
use native.Mathlib.Nat.{zero-div, mul-div_cancel_left, pow-le-pow_left, pow-le-pow_right}
use Rattle.std.proofs.lemmas.Bool.{cond-true, cond-false, cond_both, ne_eqb}
use Rattle.levels.specs.Arithmetic.{Arithmetic, Lawful}
use Rattle.levels.specs.Words.{legal, word_sum, word_length}
use Rattle.levels.specs.Generated.{combinations, generated}
use Rattle.levels.specs.Alias.{how_many, of_length, aliases, repeats, tallied}
use Rattle.levels.proofs.Space.{vector_space}
use Rattle.levels.proofs.Lengths.{zero_length, length_at_most}
use Rattle.levels.proofs.Places.{In}
use Rattle.levels.proofs.Generation.{generates_word}
use Rattle.levels.proofs.Any.{in_range_or_none, none_generates, any_zero, any_combination, any_generated, any_length}
use Rattle.levels.proofs.Ascending.{in_cons, in_none, how_many_map, how_many_same, how_many_none, how_many_most}
use Rattle.levels.proofs.Multiplicity.{repeats_length, repeats_positive, combinations_times, in_generated_from}
use Rattle.aliasing.specs.Pattern.{count, counts_from, pattern}

-- a test that one number of a list fails
how_many_fewer : (p : ℕ → Bool) (x : ℕ) (xs : List ℕ) → In x xs → p x ≡ false → how_many p xs < length xs
how_many_fewer p x [] i f = absurd (in_none x i)
how_many_fewer p x (y ∷ ys) i f = elim (in_cons y x ys i) [
  | inl e ↦
      let h = how_many_most p ys in
      omega (arith, cond-false {A = ℕ} (p y) 1 0 (ap p e ∙ f))
  | inr q ↦
      let h = how_many_fewer p x ys q f in
      cond_both (p y) 1 0 (λ k. k + how_many p ys < suc (length ys)) (λ e. omega arith) (λ e. omega arith)
]

module _ (A : Arithmetic) (L : Lawful A) where
  -- there are at most four levels
  levels_few : A.s ≤ 4
  levels_few =
      le_trans L.fits (subst (λ b. 2 ^ b ≤ 4) (sym L.width) (cond_both (eqb A.s 2) 1 2 (λ b. 2 ^ b ≤ 4) (λ e. omega arith) (λ e. omega arith)))

  module _ (n : ℕ) (ws : List ℕ) where
    -- the sums of multiples of at most 16 words are at most 2³²
    combinations-few : length ws ≤ 16 → length (combinations A n ws) ≤ 2 ^ 32
    combinations-few few =
        subst (λ k. k ≤ 2 ^ 32) (sym (any_length A L n (vector_space A L n) ws))
        (le_trans (pow-le-pow_left levels_few (length ws)) (pow-le-pow_right {n = 4} (omega arith) few))

    -- a generated word has at most length n
    generated-short : (w : ℕ) → In w (generated A n ws) → word_length A w ≤ n
    generated-short w q =
        let g = in_generated_from A L n ws w q in
        elim (in_range_or_none A n) [
          | inl r ↦ length_at_most A n w (generates_word A L n (vector_space A L n r.0 r.1) ws w g)
          | inr z ↦ let e = ap (word_length A) ((none_generates A L n z ws w).0 g) ∙ zero_length A in omega arith
        ]

    -- so the counts of lengths past n are 0
    pub count_past : (i : ℕ) → n < i → count A (generated A n ws) i ≡ 0
    count_past i l =
        ap (λ k. k / (A.s - 1)) (how_many_none (λ w. eqb (word_length A w) i) (generated A n ws) (λ w q. let h = generated-short w q in ne_eqb (word_length A w) i (λ e. omega arith)))
        ∙ zero-div (A.s - 1)

    -- and so are all where n is out of range
    pub count_none : ((w : ℕ) → legal A n w ≡ false) → (i : ℕ) → 1 ≤ i → count A (generated A n ws) i ≡ 0
    count_none z i l =
        ap (λ k. k / (A.s - 1)) (how_many_none (λ w. eqb (word_length A w) i) (generated A n ws)
        (λ w q. let e = ap (word_length A) ((none_generates A L n z ws w).0 (in_generated_from A L n ws w q)) ∙ zero_length A in ne_eqb (word_length A w) i (λ t. omega arith)))
        ∙ zero-div (A.s - 1)

    -- some sum of multiples, code 0, has length 0: there are fewer of any other length
    of-length-fewer : (i : ℕ) → 1 ≤ i → of_length A i (combinations A n ws) < length (combinations A n ws)
    of-length-fewer i l =
        let V = vector_space A L n in
        how_many_fewer (λ w. eqb (word_length A w) i) 0 (combinations A n ws) (any_combination A L n V ws 0 (any_zero A L n V ws))
        (let e = zero_length A in ne_eqb (word_length A 0) i (λ t. omega arith))

    -- fewer than 2³² generated words have a length other than 0
    generated-few : length ws ≤ 16 → (i : ℕ) → 1 ≤ i → of_length A i (generated A n ws) < 2 ^ 32
    generated-few few i l =
        let h = of-length-fewer i l in
        let k = combinations-few few in
        let t = combinations_times A L n ws (λ w. eqb (word_length A w) i) in
        let m = mul-le-mul_right (of_length A i (generated A n ws)) (repeats_positive A L n ws) in
        omega (arith, one-mul (of_length A i (generated A n ws)))

    -- where n is in range, a tally from code 0 counts all sums of multiples
    tallied-all : 1 ≤ n → n ≤ 32 → length ws ≤ 16 → (i : ℕ) → tallied A n ws 0 i ≡ of_length A i (combinations A n ws)
    tallied-all low high few i =
        let V = vector_space A L n low high in
        let cs = combinations A n ws in
        let p : ℕ → Bool = λ w. eqb (word_length A w) i in
        let same : of_length A i (aliases A n ws 0) ≡ of_length A i cs
        = how_many_map p (word_sum A n 0) cs
        ∙ how_many_same (λ w. p (word_sum A n 0 w)) p cs
        (λ w q. ap p (V.sum_zero w (generates_word A L n V ws w (any_generated A L n (vector_space A L n) ws w q)))) in
        let most = how_many_most p cs in
        let k = combinations-few few in
        cond-true (legal A n 0) (of_length A i (aliases A n ws 0) % 2 ^ 64) 0 V.zero_word
        ∙ ap (λ k. k % 2 ^ 64) same ∙ mod-eq_of_lt (omega arith)

    -- its count of length 0 is not 0 unless n is out of range, and then every count is 0
    pub tallied-none : length ws ≤ 16 → tallied A n ws 0 0 ≡ 0 → (i : ℕ) → 1 ≤ i → count A (generated A n ws) i ≡ 0
    tallied-none few e = elim (in_range_or_none A n) [
      | inl r ↦ absurd (let h = repeats_positive A L n ws in omega (arith, tallied-all r.0 r.1 few 0, repeats_length A L n ws))
      | inr z ↦ count_none z
    ]

    -- a count fits 32 bits
    pub count_fits : length ws ≤ 16 → (i : ℕ) → 1 ≤ i → count A (generated A n ws) i < 2 ^ 32
    count_fits few i l = let h = generated-few few i l in omega (arith, div-le_self (of_length A i (generated A n ws)) (A.s - 1))

    -- the tally of a length, divided by that of length 0 and by s − 1, is the count
    pub tallied-count : length ws ≤ 16 → (tallied A n ws 0 0 ≡ 0 → ⊥) → (i : ℕ) → tallied A n ws 0 i / tallied A n ws 0 0 / (A.s - 1) ≡ count A (generated A n ws) i
    tallied-count few p i = elim (in_range_or_none A n) [
      | inl r ↦
          let zeros : tallied A n ws 0 0 ≡ repeats A n ws = tallied-all r.0 r.1 few 0 ∙ sym (repeats_length A L n ws) in
          let here : tallied A n ws 0 i ≡ repeats A n ws * of_length A i (generated A n ws)
          = tallied-all r.0 r.1 few i ∙ combinations_times A L n ws (λ w. eqb (word_length A w) i) in
          let quotient : tallied A n ws 0 i / tallied A n ws 0 0 ≡ of_length A i (generated A n ws)
          = cc (mul-div_cancel_left (of_length A i (generated A n ws)) (repeats_positive A L n ws)) in
          ap (λ k. k / (A.s - 1)) quotient
      | inr z ↦ absurd (p (cond-false (legal A n 0) (of_length A 0 (aliases A n ws 0) % 2 ^ 64) 0 (z 0)))
    ]

-- counts, place by place, are those from j on
counts_front : (A : Arithmetic) (set : List ℕ) (k j : ℕ) (xs : List ℕ) → k ≤ length xs → ((i : ℕ) → i < k → get_or xs i 0 ≡ count A set (j + i)) → take k xs ≡ counts_from A set j k
counts_front A set zero j xs l h = refl
counts_front A set (suc k) j [] l h = absurd (omega arith)
counts_front A set (suc k) j (x ∷ xs) l h =
    cc (
      h 0 (omega arith),
      add-zero j,
      counts_front A set k (suc j) xs (omega arith) (λ i m. h (suc i) (omega arith) ∙ ap (count A set) (add-suc j i ∙ sym (suc-add j i))),
    )

-- the first n of the counts from length 1 on are the pattern
pub pattern_front : (A : Arithmetic) (set : List ℕ) (n : ℕ) (xs : List ℕ) → n ≤ length xs → ((i : ℕ) → i < n → get_or xs i 0 ≡ count A set (suc i)) → take n xs ≡ pattern A n set
pattern_front A set n xs l h = counts_front A set n 1 xs l (λ i m. h i m ∙ ap (count A set) (sym (one-add i)))
