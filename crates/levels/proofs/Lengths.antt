-- Lengths of words: how many digits are not 0; and the sum of codes of 64 bits.
use Rattle.std.proofs.Common.{◌≡◌, ℕ, zero, suc, ◌+◌, ◌-◌, ◌*◌, ◌/◌, ◌%◌, ◌^◌, ◌<◌, ◌≤◌, cond, ◌&&◌, eqb, ltb, List, [], ◌∷◌, ◌++◌, length, replicate, sym, refl, ap, ◌∙◌, le_trans, le_of_eq, suc-add, mul-zero, zero-add, zero-mul, arith}
use Rattle.std.proofs.lemmas.Bool.{lt-ltb}
use Rattle.std.proofs.lemmas.Bool.Decides.{nat_tests}
use Rattle.levels.specs.Arithmetic.{Arithmetic, Lawful}
use Rattle.levels.specs.Words.{digits, code, all_levels, zip_with, word_sum, nonzero, word_length, code_sum}
use Rattle.levels.specs.Space.{Word}
use Rattle.levels.proofs.Digits.{digits_length, rest_below, code_digits, word_legal}
use Rattle.levels.proofs.Space.{zero_digits, zero_level, sum_is}

-- zeros at the end of a list do not count
pub nonzero_zeros : (xs : List ℕ) (k : ℕ) → nonzero (xs ++ replicate k 0) ≡ nonzero xs
nonzero_zeros [] zero = refl
nonzero_zeros [] (suc k) = zero-add (nonzero (replicate k 0)) ∙ nonzero_zeros [] k
nonzero_zeros (x ∷ xs) k = ap (λ m. cond (eqb x 0) 0 1 + m) (nonzero_zeros xs k)

-- zeros at the end of a list are levels
pub levels_zeros : (A : Arithmetic) → Lawful A → (xs : List ℕ) (k : ℕ) → all_levels A (xs ++ replicate k 0) ≡ all_levels A xs
levels_zeros A L [] zero = refl
levels_zeros A L [] (suc k) = rw (lt-ltb 0 A.s (zero_level A L)) (levels_zeros A L [] k)
levels_zeros A L (x ∷ xs) k = ap (λ t. ltb x A.s && t) (levels_zeros A L xs k)

-- at most all digits count
pub nonzero_most : (xs : List ℕ) → nonzero xs ≤ length xs
nonzero_most [] = omega arith
nonzero_most (x ∷ xs) = let h = nonzero_most xs in grind (arith, nat_tests)

-- where no digit counts, all are 0
pub nonzero_none : (xs : List ℕ) → nonzero xs ≡ 0 → xs ≡ replicate (length xs) 0
nonzero_none [] e = refl
nonzero_none (x ∷ xs) e =
    let h : x ≡ 0 = grind (arith, nat_tests) in
    cc (h, nonzero_none xs (omega arith))

-- digit by digit, zeros and zeros give zeros
zip_zeros : (f : ℕ → ℕ → ℕ) → f 0 0 ≡ 0 → (k : ℕ) → zip_with f (replicate k 0) (replicate k 0) ≡ replicate k 0
zip_zeros f e zero = refl
zip_zeros f e (suc k) = cc (e, zip_zeros f e k)

-- digit by digit, zeros at the end of both lists stay zeros at the end
zip_ends : (f : ℕ → ℕ → ℕ) → f 0 0 ≡ 0 → (k : ℕ) (xs ys : List ℕ) → length xs ≡ length ys →
    zip_with f (xs ++ replicate k 0) (ys ++ replicate k 0) ≡ zip_with f xs ys ++ replicate k 0
zip_ends f e k [] [] l = zip_zeros f e k
zip_ends f e k [] (y ∷ ys) l = absurd (omega arith)
zip_ends f e k (x ∷ xs) [] l = absurd (omega arith)
zip_ends f e k (x ∷ xs) (y ∷ ys) l = ap (λ zs. f x y ∷ zs) (zip_ends f e k xs ys (omega arith))

module _ (A : Arithmetic) where
  -- zeros at the end of a list do not change its code
  code_zeros : (xs : List ℕ) (k : ℕ) → code A (xs ++ replicate k 0) ≡ code A xs
  code_zeros [] zero = refl
  code_zeros [] (suc k) = rw (code_zeros [] k, zero-mul)
  code_zeros (x ∷ xs) k = ap (λ c. x + c * 2 ^ A.bits) (code_zeros xs k)

  -- the digits past n of a code with no bit beyond them are 0
  pub more_digits : (n k w : ℕ) → w < 2 ^ (A.bits * n) → digits A (n + k) w ≡ digits A n w ++ replicate k 0
  more_digits zero k w l =
      let h : w < 1 = rw mul-zero at l in
      let z : w ≡ 0 = omega arith in
      rw (z, zero-add) (zero_digits A k)
  more_digits (suc n) k w l = rw suc-add (ap (λ ds. w % 2 ^ A.bits ∷ ds) (more_digits n k (w / 2 ^ A.bits) (rest_below A n w l)))

  -- 64 digits of a word: its n digits, then zeros
  pub word_digits : (n w : ℕ) → Word A n w → digits A 64 w ≡ digits A n w ++ replicate (64 - n) 0
  word_digits n w h =
      let l = word_legal A n w h in
      let e : 64 ≡ n + (64 - n) = omega (arith, l.high) in
      ap (λ k. digits A k w) e ∙ more_digits n (64 - n) w l.below

  -- the length of a word counts its n digits
  pub length_digits : (n w : ℕ) → Word A n w → word_length A w ≡ nonzero (digits A n w)
  unfolding word_length
  length_digits n w h = ap nonzero (word_digits n w h) ∙ nonzero_zeros (digits A n w) (64 - n)

  -- a word of n factors has at most length n
  pub length_at_most : (n w : ℕ) → Word A n w → word_length A w ≤ n
  length_at_most n w h = le_trans (le_of_eq (length_digits n w h)) (rw (digits_length A n w) at (nonzero_most (digits A n w)))

  -- any code has at most length 64
  pub length_most : (w : ℕ) → word_length A w ≤ 64
  unfolding word_length
  length_most w = rw (digits_length A 64 w) at (nonzero_most (digits A 64 w))

  -- code 0 has length 0
  pub zero_length : word_length A 0 ≡ 0
  unfolding word_length
  zero_length = ap nonzero (zero_digits A 64)

  -- and no other word has
  pub length_zero : (n w : ℕ) → Word A n w → word_length A w ≡ 0 → w ≡ 0
  length_zero n w h e =
      let none = nonzero_none (digits A n w) (sym (length_digits n w h) ∙ e) in
      cc (none, digits_length A n w, code_zeros [] n, code_digits A n w (word_legal A n w h).below)

-- the sum of two codes, of their digits up to any place past their highest
pub sum_fewer : (A : Arithmetic) → A.plus 0 0 ≡ 0 → (n k a b : ℕ) → a < 2 ^ (A.bits * n) → b < 2 ^ (A.bits * n) →
    code A (zip_with A.plus (digits A (n + k) a) (digits A (n + k) b)) ≡ code A (zip_with A.plus (digits A n a) (digits A n b))
sum_fewer A zeros n k a b la lb =
    cc (
      more_digits A n k a la,
      more_digits A n k b lb,
      zip_ends A.plus zeros k (digits A n a) (digits A n b) (digits_length A n a ∙ sym (digits_length A n b)),
      code_zeros A (zip_with A.plus (digits A n a) (digits A n b)) k,
    )

-- the sum of two words is the sum of their codes
pub sum_code : (A : Arithmetic) → Lawful A → (n a b : ℕ) → Word A n a → Word A n b → word_sum A n a b ≡ code_sum A a b
unfolding code_sum
sum_code A L n a b ha hb =
    let la = word_legal A n a ha in
    let e : 64 ≡ n + (64 - n) = omega (arith, la.high) in
    sum_is A L n a b ha hb
    ∙ sym (sum_fewer A (L.field.plus_zero 0 (zero_level A L)) n (64 - n) a b la.below (word_legal A n b hb).below)
    ∙ ap (λ k. code A (zip_with A.plus (digits A k a) (digits A k b))) (sym e)
