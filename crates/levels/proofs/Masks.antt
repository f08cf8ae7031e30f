-- Sums, lengths and tests of whole words by masks and shifts, digit by digit.
use Rattle.std.proofs.Common.{◌≡◌, ℕ, zero, suc, ◌+◌, ◌-◌, ◌*◌, ◌/◌, ◌%◌, ◌^◌, ◌<◌, ◌≤◌, cond, eqb, ltb, sym, refl, ap, ◌∙◌, ap₂, pow-suc, arith, lit<}
use lib.Bits.{bit_and, bit_or, bit_xor, differ, xor_step, and_block, and_mask, and_zero_r, and_shr, or_shr, and_mod, or_mod, or_lt}
use lib.Count.{ones, ones_in, ones_step, ones_cat}
use Rattle.std.proofs.lemmas.Nat.{pow_pos, shr_split, shr-shr, field_of, mod_below}
use Rattle.std.proofs.lemmas.Bool.Decides.{nat_tests}
use Rattle.levels.specs.Arithmetic.{two, three, plus_modulo}
use Rattle.levels.specs.Words.{digits, code, all_levels, zip_with, nonzero, word_length, code_sum}
use Rattle.levels.specs.Computed.{all₁, all₂}
use Rattle.levels.proofs.Digits.{next_power, rest_below}
use Rattle.levels.specs.Lawful.{lawful_three}
use Rattle.levels.proofs.Lengths.{nonzero_zeros, more_digits, sum_fewer, levels_zeros}

-- exclusive or is the sum of digits of one bit
pub xor_sum : (n a b : ℕ) → a < 2 ^ n → b < 2 ^ n → bit_xor a b ≡ code two (zip_with two.plus (digits two n a) (digits two n b))
xor_sum zero a b la lb = let z : a ≡ 0 = omega arith in rw z (omega arith)
xor_sum (suc n) a b la lb =
    let ih = xor_sum n (a / 2) (b / 2) (omega (arith, pow-suc 2 n)) (omega (arith, pow-suc 2 n)) in
    let digit = all₂ 2 differ (plus_modulo 2) refl (a % 2) (b % 2) (omega arith) (omega arith) in
    omega (arith, xor_step a b, ih, digit)

-- the bits that are set are the digits of one bit that are not 0
pub ones_nonzero : (n w : ℕ) → w < 2 ^ n → ones w ≡ nonzero (digits two n w)
unfolding ones
ones_nonzero zero w l = let z : w ≡ 0 = omega arith in rw z
ones_nonzero (suc n) w l =
    let ih = ones_nonzero n (w / 2) (omega (arith, pow-suc 2 n)) in
    let digit = all₁ 2 (λ d. cond (eqb d 0) 0 1) (λ d. d) refl (w % 2) (omega arith) in
    omega (arith, ones_step w, ih, digit)

-- a digit, so many times, in a base
abbrev pub repeated : ℕ → ℕ → ℕ → ℕ
repeated base d zero = 0
repeated base d (suc n) = repeated base d n * base + d

-- a mask that repeats a field of k bits, field by field
mask_step : (k d n x : ℕ) → d < 2 ^ k → bit_and x (repeated (2 ^ k) d (suc n)) ≡ bit_and (x / 2 ^ k) (repeated (2 ^ k) d n) * 2 ^ k + bit_and (x % 2 ^ k) d
mask_step k d n x l =
    ap (λ y. bit_and y (repeated (2 ^ k) d (suc n))) (sym (shr_split x k))
    ∙ and_block k (x / 2 ^ k) (repeated (2 ^ k) d n) (x % 2 ^ k) d (mod_below x (2 ^ k) (pow_pos k)) l

-- the low bit of each digit of two bits
low_step : (n x : ℕ) → bit_and x (repeated 4 1 (suc n)) ≡ bit_and (x / 4) (repeated 4 1 n) * 4 + x % 2
low_step n x = omega (arith, mask_step 2 1 n x (omega arith), and_mask (x % 4) 1)

-- an operation on the two bits of each digit, one digit more
bits_step : (op : ℕ → ℕ → ℕ) → ((a b k : ℕ) → op a b / 2 ^ k ≡ op (a / 2 ^ k) (b / 2 ^ k)) → ((a b k : ℕ) → op a b % 2 ^ k ≡ op (a % 2 ^ k) (b % 2 ^ k)) →
    (n w : ℕ) → bit_and (op w (w / 2)) (repeated 4 1 (suc n)) ≡ bit_and (op (w / 4) (w / 4 / 2)) (repeated 4 1 n) * 4 + op (w % 4 % 2) (w % 4 / 2)
bits_step op shr low n w =
    let high = shr w (w / 2) 2 ∙ ap (op (w / 4)) (shr-shr w 1 2 ∙ sym (shr-shr w 2 1)) in
    let bit₀ : w % 2 ≡ w % 4 % 2 = omega arith in
    let bits = low w (w / 2) 1 ∙ ap₂ op bit₀ (sym (field_of w 1 1)) in
    low_step n (op w (w / 2)) ∙ ap₂ (λ h l. bit_and h (repeated 4 1 n) * 4 + l) high bits

-- no digit has both bits where each is below 3
pub both_levels : (n w : ℕ) → eqb (bit_and (bit_and w (w / 2)) (repeated 4 1 n)) 0 ≡ all_levels three (digits three n w)
both_levels zero w = rw and_zero_r
both_levels (suc n) w =
    let digit = all₁ 4 (λ d. bit_and (d % 2) (d / 2)) (λ d. cond (ltb d 3) 0 1) refl (w % 4) (omega arith) in
    rw (bits_step bit_and and_shr and_mod n w, digit, ← both_levels n (w / 4)) (grind (arith, nat_tests))

-- a digit has either bit where it is not 0
pub either_nonzero : (n w : ℕ) → ones (bit_and (bit_or w (w / 2)) (repeated 4 1 n)) ≡ nonzero (digits three n w)
unfolding ones ones_in
either_nonzero zero w = rw and_zero_r
either_nonzero (suc n) w =
    let digit = all₁ 4 (λ d. ones (bit_or (d % 2) (d / 2))) (λ d. cond (eqb d 0) 0 1) refl (w % 4) (omega arith) in
    let rest = bit_and (bit_or (w / 4) (w / 4 / 2)) (repeated 4 1 n) in
    let low = or_lt 2 (w % 4 % 2) (w % 4 / 2) (omega arith) (omega arith) in
    ap ones (bits_step bit_or or_shr or_mod n w)
    ∙ omega (arith, ones_cat 2 rest (bit_or (w % 4 % 2) (w % 4 / 2)) low, digit, either_nonzero n (w / 4))

-- the sum of two codes of n digits of two bits
abbrev pub sums : ℕ → ℕ → ℕ → ℕ
sums n a b = code three (zip_with three.plus (digits three n a) (digits three n b))

-- which sums of two digits of two bits reach 3: those with two high bits, or a high bit and a low one
abbrev pub reached : ℕ → ℕ → ℕ → ℕ
reached n a b = bit_and (bit_or (bit_and a b / 2) (bit_and (bit_or a b) (bit_or a b / 2))) (repeated 4 1 n)

-- one digit more
reached_step : (n a b : ℕ) → reached (suc n) a b ≡
    reached n (a / 4) (b / 4) * 4 + bit_or (bit_and (a % 4) (b % 4) / 2) (bit_and (bit_or (a % 4) (b % 4) % 2) (bit_or (a % 4) (b % 4) / 2))
reached_step n a b =
    let both = bit_and a b in
    let any = bit_or a b in
    let over = λ (x : ℕ). shr-shr x 1 2 ∙ sym (shr-shr x 2 1) in
    let high = or_shr (both / 2) (bit_and any (any / 2)) 2 ∙ ap₂ bit_or (over both ∙ ap (λ x. x / 2) (and_shr a b 2))
    (and_shr any (any / 2) 2 ∙ ap₂ bit_and (or_shr a b 2) (over any ∙ ap (λ x. x / 2) (or_shr a b 2))) in
    let bit₀ : any % 2 ≡ any % 4 % 2 = omega arith in
    let low = or_mod (both / 2) (bit_and any (any / 2)) 1 ∙ ap₂ bit_or (sym (field_of both 1 1) ∙ ap (λ x. x / 2) (and_mod a b 2))
    (and_mod any (any / 2) 1 ∙ ap₂ bit_and (bit₀ ∙ ap (λ x. x % 2) (or_mod a b 2)) (sym (field_of any 1 1) ∙ ap (λ x. x / 2) (or_mod a b 2))) in
    low_step n (bit_or (both / 2) (bit_and any (any / 2))) ∙ ap₂ (λ h l. bit_and h (repeated 4 1 n) * 4 + l) high low

-- two codes, added as numbers, exceed their sum by 3 wherever a sum of digits reaches 3
pub whole_sum : (n a b : ℕ) → a < 2 ^ (2 * n) → b < 2 ^ (2 * n) → a + b ≡ sums n a b + reached n a b * 3
whole_sum zero a b la lb =
    let za : a ≡ 0 = omega arith in
    let zb : b ≡ 0 = omega arith in
    rw (za, zb)
whole_sum (suc n) a b la lb =
    let digit = all₂ 4 (λ p q. p + q) (λ p q. plus_modulo 3 p q + bit_or (bit_and p q / 2) (bit_and (bit_or p q % 2) (bit_or p q / 2)) * 3) refl (a % 4) (b % 4) (omega arith) (omega arith) in
    omega (arith, digit, reached_step n a b, whole_sum n (a / 4) (b / 4) (rest_below three n a la) (rest_below three n b lb))

-- a sum has no bit beyond its digits
pub sums_below : (n a b : ℕ) → sums n a b < 2 ^ (2 * n)
sums_below zero a b = lit< tt
sums_below (suc n) a b =
    omega (arith, next_power three n, sums_below n (a / 4) (b / 4), lawful_three.plus_fits (a % 4) (b % 4) (omega arith) (omega arith))

-- the sum of two codes of 64 bits
pub code_sums : (a b : ℕ) → a < 2 ^ 64 → b < 2 ^ 64 → code_sum three a b ≡ sums 32 a b
unfolding code_sum
code_sums a b la lb = sum_fewer three refl 32 32 a b la lb

-- two codes of 64 bits, added as numbers
pub whole_code : (a b : ℕ) → a < 2 ^ 64 → b < 2 ^ 64 →
    a + b ≡ code_sum three a b + bit_and (bit_or (bit_and a b / 2) (bit_and (bit_or a b) (bit_or a b / 2))) 0x5555_5555_5555_5555 * 3
whole_code a b la lb = whole_sum 32 a b la lb ∙ ap (λ s. s + reached 32 a b * 3) (sym (code_sums a b la lb))

-- it has 64 bits
pub code_sum_below : (a b : ℕ) → a < 2 ^ 64 → b < 2 ^ 64 → code_sum three a b < 2 ^ 64
code_sum_below a b la lb = rw (code_sums a b la lb) (sums_below 32 a b)

-- the length of a code of 64 bits
pub either_length : (w : ℕ) → w < 2 ^ 64 → ones (bit_and (bit_or w (w / 2)) 0x5555_5555_5555_5555) ≡ word_length three w
unfolding word_length
either_length w l = either_nonzero 32 w ∙ sym (ap nonzero (more_digits three 32 32 w l) ∙ nonzero_zeros (digits three 32 w) 32)

-- a code of n digits has a level at each where no digit has both bits
pub both_legal : (n w : ℕ) → n ≤ 32 → w < 2 ^ (2 * n) → eqb (bit_and (bit_and w (w / 2)) 0x5555_5555_5555_5555) 0 ≡ all_levels three (digits three n w)
both_legal n w high l =
    let e : 32 ≡ n + (32 - n) = omega arith in
    both_levels 32 w ∙ ap (λ k. all_levels three (digits three k w)) e
    ∙ ap (all_levels three) (more_digits three n (32 - n) w l) ∙ levels_zeros three lawful_three (digits three n w) (32 - n)
