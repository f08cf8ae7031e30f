-- Codes and their digits: each list of digits belongs to one code, and each code below the limit to its digits.
use Rattle.std.specs.List.{AllByRecursion}
use Rattle.std.proofs.Common.{◌≡◌, ℕ, zero, suc, ◌*◌, ◌/◌, ◌%◌, ◌^◌, ◌<◌, ◌≤◌, true, ◌&&◌, ltb, leb, List, [], ◌∷◌, length, get_or, Decides, sym, refl, ap, ◌∙◌, add_comm, mul-zero, mul-suc, div-one, arith}
use native.Mathlib.Nat.{mod-add-div'}
use Rattle.std.proofs.lemmas.Nat.{pow_pos, pow-add, shr-shr, shr_below, shr_high, mod_low, mod_below, mul-add-lt}
use Rattle.std.proofs.lemmas.Bool.Decides.{Decides-and, Decides-ltb}
use Rattle.std.proofs.lemmas.Bool.{and_parts, and_from, lt-ltb, le-leb, leb-true, ltb-true}
use Rattle.levels.specs.Arithmetic.{Arithmetic, Lawful}
use Rattle.levels.specs.Words.{digits, code, all_levels, legal}
use Rattle.levels.specs.Space.{Word}

module _ (A : Arithmetic) where
  -- one digit more takes bits more
  pub next_power : (n : ℕ) → 2 ^ (A.bits * suc n) ≡ 2 ^ (A.bits * n) * 2 ^ A.bits
  next_power n = rw mul-suc (pow-add 2 (A.bits * n) A.bits)

  -- a code has as many digits as are asked for
  pub digits_length : (n w : ℕ) → length (digits A n w) ≡ n
  digits_length zero w = refl
  digits_length (suc n) w = ap suc (digits_length n (w / 2 ^ A.bits))

  -- what is left of a code without its lowest digit
  pub rest_below : (n w : ℕ) → w < 2 ^ (A.bits * suc n) → w / 2 ^ A.bits < 2 ^ (A.bits * n)
  rest_below n w l = shr_below w (A.bits * n) A.bits (rw mul-suc at l)

  -- the code of a code's digits is that code, if no bit beyond them is set
  pub code_digits : (n w : ℕ) → w < 2 ^ (A.bits * n) → code A (digits A n w) ≡ w
  code_digits zero w l = let h : w < 1 = rw mul-zero at l in omega arith
  code_digits (suc n) w l = rw (code_digits n (w / 2 ^ A.bits) (rest_below n w l)) (mod-add-div' w (2 ^ A.bits))

  -- the digits of the code of a list are that list
  pub digits_code : (ds : List ℕ) → AllByRecursion (λ d. d < 2 ^ A.bits) ds → digits A (length ds) (code A ds) ≡ ds
  digits_code [] f = refl
  digits_code (d ∷ ds) f =
      rw (add_comm d (code A ds * 2 ^ A.bits), mod_low (code A ds) A.bits d f.0, shr_high (code A ds) A.bits d f.0, digits_code ds f.1)

  -- and no bit beyond its digits is set
  pub code_below : (ds : List ℕ) → AllByRecursion (λ d. d < 2 ^ A.bits) ds → code A ds < 2 ^ (A.bits * length ds)
  code_below [] f = rw mul-zero (omega arith)
  code_below (d ∷ ds) f =
      rw (next_power (length ds)) (omega (arith, mul-add-lt (code A ds) (2 ^ A.bits) d (2 ^ (A.bits * length ds)) (code_below ds f.1) f.0))

  -- each digit of a code is within its bits
  pub digits_fit : (n w : ℕ) → AllByRecursion (λ d. d < 2 ^ A.bits) (digits A n w)
  digits_fit zero w = tt
  digits_fit (suc n) w = (mod_below w (2 ^ A.bits) (pow_pos A.bits), digits_fit n (w / 2 ^ A.bits))

  -- the digit at place i, from 0
  pub digit_place : (n w i : ℕ) → i < n → get_or (digits A n w) i 0 ≡ w / 2 ^ (A.bits * i) % 2 ^ A.bits
  digit_place zero w i l = absurd (omega arith)
  digit_place (suc n) w zero l = rw (mul-zero, div-one)
  digit_place (suc n) w (suc i) l =
      rw (mul-suc, add_comm (A.bits * i) A.bits, ← shr-shr w A.bits (A.bits * i)) (digit_place n (w / 2 ^ A.bits) i (omega arith))

  -- the test of levels says that each digit is below s
  pub levels_decide : (ds : List ℕ) → Decides (all_levels A ds) (AllByRecursion (λ d. d < A.s) ds)
  levels_decide [] = (λ _. tt, λ _. refl)
  levels_decide (d ∷ ds) = Decides-and (ltb d A.s) (all_levels A ds) (Decides-ltb d A.s) (levels_decide ds)

  -- what a legal code is: from 1 to 32 factors, no bit beyond them, every digit below s
  pub record Legal (n w : ℕ) : Type 0 where
    pub low : 1 ≤ n
    pub high : n ≤ 32
    pub below : w < 2 ^ (A.bits * n)
    pub levels : AllByRecursion (λ d. d < A.s) (digits A n w)

  -- a word has these four
  pub word_legal : (n w : ℕ) → Word A n w → Legal n w
  word_legal n w h =
      let p = and_parts (leb 1 n && leb n 32) (ltb w (2 ^ (A.bits * n)) && all_levels A (digits A n w)) h in
      let q = and_parts (leb 1 n) (leb n 32) p.0 in
      let r = and_parts (ltb w (2 ^ (A.bits * n))) (all_levels A (digits A n w)) p.1 in
      record {
        low = leb-true 1 n q.0;
        high = leb-true n 32 q.1;
        below = ltb-true w (2 ^ (A.bits * n)) r.0;
        levels = (levels_decide (digits A n w)).0 r.1;
      }

  -- and a code that has them is a word
  pub legal_word : (n w : ℕ) → Legal n w → Word A n w
  legal_word n w h =
      and_from (leb 1 n && leb n 32) (ltb w (2 ^ (A.bits * n)) && all_levels A (digits A n w))
      (and_from (leb 1 n) (leb n 32) (le-leb 1 n h.low) (le-leb n 32 h.high))
      (and_from (ltb w (2 ^ (A.bits * n))) (all_levels A (digits A n w)) (lt-ltb w (2 ^ (A.bits * n)) h.below) ((levels_decide (digits A n w)).1 h.levels))

  -- with 1 to 32 factors, the last two decide
  pub legal_test : (n w : ℕ) → 1 ≤ n → n ≤ 32 → legal A n w ≡ (ltb w (2 ^ (A.bits * n)) && all_levels A (digits A n w))
  legal_test n w low high = rw (le-leb 1 n low, le-leb n 32 high)

module _ (A : Arithmetic) (L : Lawful A) where
  -- levels are within the bits of a digit
  pub levels_fit : (ds : List ℕ) → AllByRecursion (λ d. d < A.s) ds → AllByRecursion (λ d. d < 2 ^ A.bits) ds
  levels_fit [] f = tt
  levels_fit (d ∷ ds) f = (omega (arith, L.fits, f.0), levels_fit ds f.1)

  -- the digits of the code of a list of n levels are that list
  pub digits_of_code : (n : ℕ) (ds : List ℕ) → length ds ≡ n → AllByRecursion (λ d. d < A.s) ds → digits A n (code A ds) ≡ ds
  digits_of_code n ds e f = rw (← e) (digits_code A ds (levels_fit ds f))

  -- the code of a list of n levels is legal
  pub code_word : (n : ℕ) → 1 ≤ n → n ≤ 32 → (ds : List ℕ) → length ds ≡ n → AllByRecursion (λ d. d < A.s) ds → Word A n (code A ds)
  code_word n low high ds e f =
      legal_word A n (code A ds) (record
      { low = low; high = high; below = rw (← e) (code_below A ds (levels_fit ds f)); levels = rw (digits_of_code n ds e f) f })

  -- n levels are the digits of one legal code, and of no other
  pub one_code : (n : ℕ) → 1 ≤ n → n ≤ 32 → (ds : List ℕ) → length ds ≡ n → all_levels A ds ≡ true →
      Word A n (code A ds) × (digits A n (code A ds) ≡ ds) × ((w : ℕ) → Word A n w → digits A n w ≡ ds → w ≡ code A ds)
  one_code n low high ds e t =
      let f = (levels_decide A ds).0 t in (
        code_word n low high ds e f,
        digits_of_code n ds e f,
        λ w h d. sym (code_digits A n w (word_legal A n w h).below) ∙ ap (code A) d,
      )
