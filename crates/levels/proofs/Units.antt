-- Unit words: n words that generate every word of n factors, so no more than n words are independent.
use Rattle.std.specs.List.{AllByRecursion}
use Rattle.std.proofs.Common.{◌≡◌, ℕ, zero, suc, ◌+◌, ◌<◌, ◌≤◌, List, [], ◌∷◌, ◌++◌, map, length, get_or, replicate, refl, ap, subst, zero-mul, arith, length-append}
use lib.ListN.{length-replicate}
use Rattle.std.proofs.lemmas.List.{append-nil}
use Rattle.levels.specs.Arithmetic.{Arithmetic, Lawful}
use Rattle.levels.specs.Words.{digits, code, zip_with, word_sum, word_multiple}
use Rattle.levels.specs.Space.{Word}
use Rattle.levels.specs.Generated.{Generates, Independent}
use Rattle.levels.proofs.Digits.{digits_length, digits_of_code, code_word, word_legal}
use Rattle.levels.proofs.Space.{times_zero, zero_level, word_code, sum_is, multiple_digits, multiple_is_word, vector_space}
use Rattle.levels.proofs.Linear.{gen_more}
use Rattle.levels.proofs.Generation.{space, generates_zero, independent_bound}

-- k unit words: one digit 1 behind m zeros, behind m + 1 zeros, and so on
abbrev pub units : Arithmetic → ℕ → ℕ → List ℕ
units A m zero = []
units A m (suc k) = code A (replicate m 0 ++ 1 ∷ replicate k 0) ∷ units A (suc m) k

-- they are k
pub length_units : (A : Arithmetic) (m k : ℕ) → length (units A m k) ≡ k
length_units A m zero = refl
length_units A m (suc k) = ap suc (length_units A (suc m) k)

-- the code of zeros is 0
code_blank : (A : Arithmetic) (m : ℕ) → code A (replicate m 0) ≡ 0
code_blank A zero = refl
code_blank A (suc m) = rw (code_blank A m, zero-mul)

module _ (A : Arithmetic) (L : Lawful A) where
  -- zeros, then levels, are levels
  zeros_then : (m : ℕ) (ds : List ℕ) → AllByRecursion (λ d. d < A.s) ds → AllByRecursion (λ d. d < A.s) (replicate m 0 ++ ds)
  zeros_then zero ds f = f
  zeros_then (suc m) ds f = (zero_level A L, zeros_then m ds f)

  -- zeros are levels
  zeros_level : (m : ℕ) → AllByRecursion (λ d. d < A.s) (replicate m 0)
  zeros_level zero = tt
  zeros_level (suc m) = (zero_level A L, zeros_level m)

  -- multiples of zeros add nothing
  zip_blank : (c : ℕ) → c < A.s → (ds : List ℕ) → AllByRecursion (λ d. d < A.s) ds → zip_with A.plus (map (A.times c) (replicate (length ds) 0)) ds ≡ ds
  zip_blank c lc [] f = refl
  zip_blank c lc (d ∷ ds) f =
      let F = L.field in
      cc (F.times_comm c 0 lc (zero_level A L), times_zero A L c lc, F.plus_zero d f.0, zip_blank c lc ds f.1)

  -- a level times a unit word, and what has zeros up to there, digit by digit
  zip_unit : (m d : ℕ) (ds : List ℕ) → d < A.s → AllByRecursion (λ d. d < A.s) ds →
      zip_with A.plus (map (A.times d) (replicate m 0 ++ 1 ∷ replicate (length ds) 0)) (replicate (suc m) 0 ++ ds) ≡ replicate m 0 ++ d ∷ ds
  zip_unit zero d ds ld f =
      let F = L.field in
      let z = zero_level A L in
      cc (F.times_comm d 1 ld F.two_levels, F.times_one d ld, F.plus_comm d 0 ld z, F.plus_zero d ld, zip_blank d ld ds f)
  zip_unit (suc m) d ds ld f =
      let F = L.field in
      let z = zero_level A L in
      cc (F.times_comm d 0 ld z, times_zero A L d ld, F.plus_zero 0 z, zip_unit m d ds ld f)

module _ (A : Arithmetic) (L : Lawful A) (n : ℕ) (low : 1 ≤ n) (high : n ≤ 32) where
  -- a list of digits behind zeros is a sum of multiples of the unit words of its places
  behind_zeros : (m : ℕ) (ds : List ℕ) → m + length ds ≡ n → AllByRecursion (λ d. d < A.s) ds → Generates A n (units A m (length ds)) (code A (replicate m 0 ++ ds))
  behind_zeros m [] e f = rw (append-nil, code_blank A m) (generates_zero A L n (vector_space A L n low high) [])
  behind_zeros m (d ∷ ds) e f =
      let us : List ℕ = replicate m 0 ++ 1 ∷ replicate (length ds) 0 in
      let rs : List ℕ = replicate (suc m) 0 ++ ds in
      let lu : length us ≡ n = simp (length-append, length-replicate) (omega arith) in
      let lr : length rs ≡ n = simp (length-append, length-replicate) (omega arith) in
      let fu = zeros_then A L m (1 ∷ replicate (length ds) 0) (L.field.two_levels, zeros_level A L (length ds)) in
      let fr = zeros_then A L (suc m) ds f.1 in
      let hu = code_word A L n low high us lu fu in
      let hr = code_word A L n low high rs lr fr in
      let same : word_sum A n (word_multiple A n d (code A us)) (code A rs) ≡ code A (replicate m 0 ++ d ∷ ds)
      = cc (
        sum_is A L n (word_multiple A n d (code A us)) (code A rs) (multiple_is_word A L n d (code A us) f.0 hu) hr,
        multiple_digits A L n d (code A us) f.0 hu,
        digits_of_code A L n us lu fu,
        digits_of_code A L n rs lr fr,
        zip_unit A L m d ds f.0 f.1,
      ) in
      subst (Generates A n (units A m (suc (length ds)))) same
      (gen_more (space A L n (vector_space A L n low high)) d (code A us) (units A (suc m) (length ds)) (code A rs) (behind_zeros (suc m) ds (omega arith) f.1))

  -- the n unit words generate every word
  pub units_generate : (w : ℕ) → Word A n w → Generates A n (units A 0 n) w
  units_generate w h =
      let g = behind_zeros 0 (digits A n w) (omega (arith, digits_length A n w)) (word_legal A n w h).levels in
      rw (digits_length A n w, word_code A L n w h) at g

-- no more than n words of n factors are independent
pub independent_most : (A : Arithmetic) → Lawful A → (n : ℕ) (ws : List ℕ) → Independent A n ws → ((i : ℕ) → i < length ws → Word A n (get_or ws i 0)) → length ws ≤ n
independent_most A L n [] ind words = omega arith
independent_most A L n (w ∷ ws) ind words =
    let l = word_legal A n w (words 0 (omega arith)) in
    let le = independent_bound A L n (vector_space A L n l.low l.high) (w ∷ ws) (units A 0 n) ind
    (λ i li. units_generate A L n l.low l.high (get_or (w ∷ ws) i 0) (words i li)) in
    omega (arith, length_units A 0 n)
