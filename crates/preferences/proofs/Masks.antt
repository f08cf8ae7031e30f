-- Masks of factors: what they cost is what the word costs.
use Rattle.std.proofs.Common.{◌≡◌, ℕ, zero, suc, ◌+◌, ◌*◌, ◌/◌, ◌%◌, ◌^◌, ◌<◌, ◌≤◌, cond, eqb, List, [], ◌∷◌, map, length, get_or, take, drop, sym, refl, ap, ap₂, ◌∙◌, inl, inr, pow-suc, suc-add, zero-add, mul-zero, mul-suc, add_comm, div-one, true, false, eq-eqb, arith}
use lib.Bits.{bit_and, bit_or, and_block, or_block, and_mask, and_zero_r, and_mod, or_mod, and_shr, or_shr}
use Rattle.std.proofs.lemmas.Bool.{cond_both, cond-true, cond-false, cases_Bool, cases_lt}
use Rattle.std.proofs.lemmas.Nat.{shr_split, shr-shr, mod_below}
use Rattle.std.proofs.lemmas.List.{length-map, length-take, length-drop, take-map, drop-map, get_or-take, get_or-drop, ext_get_or}
use Rattle.levels.specs.Arithmetic.{Arithmetic, two, three}
use Rattle.levels.specs.Words.{digits}
use Rattle.levels.specs.Computed.{all₁, all₂}
use Rattle.levels.proofs.Digits.{digits_length}
use Rattle.levels.proofs.Masks.{repeated}
use Rattle.preferences.specs.Built.{cost}
use Rattle.preferences.specs.Sums.{by_turns, mask_bits, mask_order, used}
use Rattle.preferences.proofs.Points.{no_costs}
use Rattle.preferences.proofs.Tables.{low_digits, same_digits}

-- 1 for a digit that is not 0
abbrev pub flag : ℕ → ℕ
flag d = cond (eqb d 0) 0 1

-- the cost of digits is that of their flags
pub cost_flags : (costs ds : List ℕ) → cost costs (map flag ds) ≡ cost costs ds
cost_flags costs [] = refl
cost_flags [] (d ∷ ds) = refl
cost_flags (c ∷ costs) (d ∷ ds) =
    let here : cond (eqb (flag d) 0) 0 c ≡ cond (eqb d 0) 0 c = elim (cases_Bool (eqb d 0)) [
      | inl t ↦ rw t refl
      | inr f ↦ rw f refl
    ] in
    ap₂ (λ a b. a + b) here (cost_flags costs ds)

-- an element of two lists by turns
turns_at : (xs ys : List ℕ) (k : ℕ) → length xs ≡ length ys → k < length xs + length ys → get_or (by_turns xs ys) k 0 ≡ cond (eqb (k % 2) 0) (get_or xs (k / 2) 0) (get_or ys (k / 2) 0)
turns_at [] [] k e l = absurd (omega arith)
turns_at [] (y ∷ ys) k e l = absurd (omega arith)
turns_at (x ∷ xs) [] k e l = absurd (omega arith)
turns_at (x ∷ xs) (y ∷ ys) zero e l = refl
turns_at (x ∷ xs) (y ∷ ys) (suc zero) e l = refl
turns_at (x ∷ xs) (y ∷ ys) (suc (suc k)) e l =
    let half : suc (suc k) / 2 ≡ suc (k / 2) = omega arith in
    let odd : suc (suc k) % 2 ≡ k % 2 = omega arith in
    turns_at xs ys k (omega arith) (omega arith) ∙ sym (ap₂ (λ p i. cond (eqb p 0) (get_or (x ∷ xs) i 0) (get_or (y ∷ ys) i 0)) odd half)

-- as many
turns_length : (xs ys : List ℕ) → length xs ≡ length ys → length (by_turns xs ys) ≡ length xs + length ys
turns_length [] [] e = omega arith
turns_length [] (y ∷ ys) e = absurd (omega arith)
turns_length (x ∷ xs) [] e = absurd (omega arith)
turns_length (x ∷ xs) (y ∷ ys) e = omega (arith, turns_length xs ys (omega arith))

-- the cost of two lists by turns
cost_turns : (xs ys ds es : List ℕ) → length xs ≡ length ys → length ds ≡ length xs → length es ≡ length xs → cost (by_turns xs ys) (by_turns ds es) ≡ cost xs ds + cost ys es
cost_turns [] [] [] [] a b c = omega arith
cost_turns [] [] [] (e ∷ es) a b c = absurd (omega arith)
cost_turns [] [] (d ∷ ds) es a b c = absurd (omega arith)
cost_turns [] (y ∷ ys) ds es a b c = absurd (omega arith)
cost_turns (x ∷ xs) [] ds es a b c = absurd (omega arith)
cost_turns (x ∷ xs) (y ∷ ys) [] es a b c = absurd (omega arith)
cost_turns (x ∷ xs) (y ∷ ys) (d ∷ ds) [] a b c = absurd (omega arith)
cost_turns (x ∷ xs) (y ∷ ys) (d ∷ ds) (e ∷ es) a b c =
    let more = cost_turns xs ys ds es (omega arith) (omega arith) (omega arith) in
    omega (arith, more)

-- the cost of the first factors and of the others
cost_halves : (n : ℕ) (costs ds : List ℕ) → cost costs ds ≡ cost (take n costs) (take n ds) + cost (drop n costs) (drop n ds)
cost_halves zero costs ds = omega arith
cost_halves (suc n) costs [] = omega arith
cost_halves (suc n) [] (d ∷ ds) = rw (no_costs (drop n ds)) (omega arith)
cost_halves (suc n) (c ∷ costs) (d ∷ ds) = omega (arith, cost_halves n costs ds)

-- in the order of a mask the cost is the same
cost_order : (bits : ℕ) (costs ds : List ℕ) → length costs ≡ 32 → length ds ≡ 32 → cost (mask_order bits costs) (mask_order bits ds) ≡ cost costs ds
cost_order bits costs ds lc ld =
    let turns = cost_turns (take 16 costs) (drop 16 costs) (take 16 ds) (drop 16 ds)
    (omega (arith, length-take 16 costs, length-drop 16 costs)) (omega (arith, length-take 16 costs, length-take 16 ds)) (omega (arith, length-take 16 costs, length-drop 16 ds))
    ∙ sym (cost_halves 16 costs ds) in
    elim (cases_Bool (eqb bits 1)) [
      | inl t ↦ rw t refl
      | inr f ↦ rw f turns
    ]

-- as many costs stand in the order of a mask
pub order_length : (bits : ℕ) (costs : List ℕ) → length costs ≡ 32 → length (mask_order bits costs) ≡ 32
order_length bits costs size =
    let halves : length (by_turns (take 16 costs) (drop 16 costs)) ≡ 32 =
    omega (arith, turns_length (take 16 costs) (drop 16 costs) (omega (arith, length-take 16 costs, length-drop 16 costs)), length-take 16 costs, length-drop 16 costs) in
    elim (cases_Bool (eqb bits 1)) [
      | inl t ↦ rw t size
      | inr f ↦ rw f halves
    ]

-- a mask costs what its word does
pub cost_mask : (A : Arithmetic) (costs : List ℕ) (w m : ℕ) → length costs ≡ 32 → mask_bits m ≡ mask_order A.bits (used A w) → cost (mask_order A.bits costs) (digits two 32 m) ≡ cost costs (digits A 32 w)
unfolding used mask_bits
cost_mask A costs w m size e =
    ap (cost (mask_order A.bits costs)) e
    ∙ cost_order A.bits costs (map flag (digits A 32 w)) size (length-map (digits A 32 w) flag ∙ digits_length A 32 w)
    ∙ cost_flags costs (digits A 32 w)

-- a digit of one bit is its own flag
own_flags : (n w : ℕ) → map flag (digits two n w) ≡ digits two n w
own_flags zero w = refl
own_flags (suc n) w = ap₂ (λ d ds. d ∷ ds) (all₁ 2 flag (λ d. d) refl (w % 2) (omega arith)) (own_flags n (w / 2))

-- a bit for each digit of two bits, at its low bit: whether it is not 0
abbrev flags : ℕ → ℕ → ℕ
flags zero w = 0
flags (suc n) w = flags n (w / 4) * 4 + flag (w % 4)

-- by a mask
flags_by_mask : (n w : ℕ) → bit_and (bit_or w (w / 2)) (repeated 4 1 n) ≡ flags n w
flags_by_mask zero w = and_zero_r (bit_or w (w / 2))
flags_by_mask (suc n) w =
    let x = bit_or w (w / 2) in
    let split = ap (λ y. bit_and y (repeated 4 1 (suc n))) (sym (shr_split x 2)) ∙ and_block 2 (x / 4) (repeated 4 1 n) (x % 4) 1 (mod_below x 4 (omega arith)) (omega arith) in
    let high : x / 4 ≡ bit_or (w / 4) (w / 4 / 2) = or_shr w (w / 2) 2 ∙ ap (bit_or (w / 4)) (shr-shr w 1 2 ∙ sym (shr-shr w 2 1)) in
    let more = ap (λ h. bit_and h (repeated 4 1 n)) high ∙ flags_by_mask n (w / 4) in
    let bit₀ : w % 2 ≡ w % 4 % 2 = omega arith in
    let bit₁ : w / 2 % 2 ≡ w % 4 / 2 = omega arith in
    let digit = all₁ 4 (λ d. bit_or (d % 2) (d / 2)) flag refl (w % 4) (omega arith) in
    let low = and_mask (x % 4) 1 in
    let odd : x % 4 % 2 ≡ x % 2 = omega arith in
    let here = or_mod w (w / 2) 1 ∙ ap₂ bit_or bit₀ bit₁ ∙ digit in
    omega (arith, split, more, low, odd, here)

-- it is small
flags_below : (n w : ℕ) → flags n w * 3 < 4 ^ n
flags_below zero w = omega arith
flags_below (suc n) w =
    let one = cond_both (eqb (w % 4) 0) 0 1 (λ x. x ≤ 1) (λ _. omega arith) (λ _. omega arith) in
    omega (arith, flags_below n (w / 4), pow-suc 4 n, one)

-- twice as many
abbrev double : ℕ → ℕ
double zero = zero
double (suc n) = suc (suc (double n))

-- the bits of two words by turns
bits_by_turns : (n w v : ℕ) → digits two (double n) (bit_or (flags n w) (flags n v * 2)) ≡ by_turns (map flag (digits three n w)) (map flag (digits three n v))
bits_by_turns zero w v = refl
bits_by_turns (suc n) w v =
    let a = flag (w % 4) in
    let b = flag (v % 4) in
    let la : a < 2 = cond_both (eqb (w % 4) 0) 0 1 (λ x. x < 2) (λ _. omega arith) (λ _. omega arith) in
    let lb : b < 2 = cond_both (eqb (v % 4) 0) 0 1 (λ x. x < 2) (λ _. omega arith) (λ _. omega arith) in
    let f = flags n (w / 4) in
    let g = flags n (v / 4) in
    let twice : (g * 4 + b) * 2 ≡ g * 2 * 4 + b * 2 = omega arith in
    let pair = all₂ 2 (λ p q. bit_or p (q * 2)) (λ p q. p + q * 2) refl a b la lb in
    let parts : bit_or (f * 4 + a) ((g * 4 + b) * 2) ≡ bit_or f (g * 2) * 4 + (a + b * 2) =
    ap (bit_or (f * 4 + a)) twice ∙ or_block 2 f (g * 2) a (b * 2) (omega arith) (omega arith) ∙ ap (λ d. bit_or f (g * 2) * 4 + d) pair in
    let m = bit_or (f * 4 + a) ((g * 4 + b) * 2) in
    let first : m % 2 ≡ a = omega (arith, parts) in
    let second : m / 2 % 2 ≡ b = omega (arith, parts) in
    let rest : m / 2 / 2 ≡ bit_or f (g * 2) = omega (arith, parts) in
    ap₂ (λ x ds. x ∷ ds) first (ap₂ (λ x ds. x ∷ ds) second (ap (λ x. digits two (double n) x) rest ∙ bits_by_turns n (w / 4) (v / 4)))

-- the first and the other digits
digits_take : (A : Arithmetic) (n m w : ℕ) → take n (digits A (n + m) w) ≡ digits A n w
digits_take A zero m w = refl
digits_take A (suc n) m w = rw suc-add (ap (λ ds. w % 2 ^ A.bits ∷ ds) (digits_take A n m (w / 2 ^ A.bits)))

digits_drop : (A : Arithmetic) (n m w : ℕ) → drop n (digits A (n + m) w) ≡ digits A m (w / 2 ^ (A.bits * n))
digits_drop A zero m w = rw (zero-add m, mul-zero, div-one) refl
digits_drop A (suc n) m w =
    let e : A.bits + A.bits * n ≡ A.bits * suc n = sym (rw mul-suc (add_comm (A.bits * n) A.bits)) in
    rw suc-add (digits_drop A n m (w / 2 ^ A.bits) ∙ ap (digits A m) (shr-shr w A.bits (A.bits * n) ∙ ap (λ k. w / 2 ^ k) e))

-- the mask of a code of digits of one bit is the code
pub mask_of_one : (A : Arithmetic) (w : ℕ) → A.bits ≡ 1 → mask_bits w ≡ mask_order A.bits (used A w)
unfolding used mask_bits
mask_of_one A w e =
    let one : eqb A.bits 1 ≡ true = eq-eqb A.bits 1 e in
    rw one (sym (ap (map flag) (same_digits A two e 32 w) ∙ own_flags 32 w))

-- the two halves of a code of digits of two bits, each with the flags of its digits
halves : (w : ℕ) → (bit_and (bit_or w (w / 2)) 0x5555_5555_5555_5555 % 2 ^ 32 ≡ flags 16 w) × (bit_and (bit_or w (w / 2)) 0x5555_5555_5555_5555 / 2 ^ 32 ≡ flags 16 (w / 2 ^ 32))
halves w =
    let x = bit_or w (w / 2) in
    let small : flags 16 w % 2 ^ 32 ≡ flags 16 w = omega (arith, flags_below 16 w) in
    let swap : w / 2 / 2 ^ 32 ≡ w / 2 ^ 32 / 2 = shr-shr w 1 32 ∙ sym (shr-shr w 32 1) in (
      and_mod x 0x5555_5555_5555_5555 32 ∙ sym (and_mod x 0x5555_5555 32) ∙ ap (λ y. y % 2 ^ 32) (flags_by_mask 16 w) ∙ small,
      and_shr x 0x5555_5555_5555_5555 32 ∙ ap (λ y. bit_and y 0x5555_5555) (or_shr w (w / 2) 32 ∙ ap (bit_or (w / 2 ^ 32)) swap) ∙ flags_by_mask 16 (w / 2 ^ 32),
    )

-- its mask
mask_halves : (any f g : ℕ) → any % 2 ^ 32 ≡ f → any / 2 ^ 32 ≡ g → f * 3 < 4 ^ 16 → g * 3 < 4 ^ 16 → bit_or any (any / 2147483648) % 2 ^ 32 ≡ bit_or f (g * 2)
mask_halves any f g low high lf lg =
    let second : any / 2147483648 % 2 ^ 32 ≡ g * 2 = omega arith in
    or_mod any (any / 2147483648) 32 ∙ ap₂ bit_or low second

-- the mask of a code of digits of two bits
pub mask_of_two : (A : Arithmetic) (w : ℕ) → A.bits ≡ 2 →
    mask_bits (bit_or (bit_and (bit_or w (w / 2)) 0x5555_5555_5555_5555) (bit_and (bit_or w (w / 2)) 0x5555_5555_5555_5555 / 2147483648)) ≡ mask_order A.bits (used A w)
unfolding used mask_bits
mask_of_two A w e =
    let any = bit_and (bit_or w (w / 2)) 0x5555_5555_5555_5555 in
    let m = bit_or any (any / 2147483648) in
    let parts = halves w in
    let mask = mask_halves any (flags 16 w) (flags 16 (w / 2 ^ 32)) parts.0 parts.1 (flags_below 16 w) (flags_below 16 (w / 2 ^ 32)) in
    let flagged = digits three 32 w in
    let first : map flag (digits three 16 w) ≡ take 16 (map flag flagged) = sym (take-map flag 16 flagged ∙ ap (map flag) (digits_take three 16 16 w)) in
    let second : map flag (digits three 16 (w / 2 ^ 32)) ≡ drop 16 (map flag flagged) = sym (drop-map flag 16 flagged ∙ ap (map flag) (digits_drop three 16 16 w)) in
    let two_bits : eqb A.bits 1 ≡ false = ap (λ b. eqb b 1) e in
    sym (low_digits two 32 m) ∙ ap (digits two 32) mask ∙ bits_by_turns 16 w (w / 2 ^ 32) ∙ ap₂ by_turns first second
    ∙ sym (ap (mask_order A.bits) (ap (map flag) (same_digits A three e 32 w)) ∙ cond-false (eqb A.bits 1) (map flag flagged) (by_turns (take 16 (map flag flagged)) (drop 16 (map flag flagged))) two_bits)

-- costs by turns, one by one
pub turns : (costs turned : List ℕ) → length costs ≡ 32 → length turned ≡ 32 → ((k : ℕ) → k < 32 → get_or turned k 0 ≡ get_or costs (k / 2 + k % 2 * 16) 0) → turned ≡ by_turns (take 16 costs) (drop 16 costs)
turns costs turned lc lt at =
    let xs = take 16 costs in
    let ys = drop 16 costs in
    let lx : length xs ≡ 16 = omega (arith, length-take 16 costs) in
    let ly : length ys ≡ 16 = omega (arith, length-drop 16 costs) in
    let all : length (by_turns xs ys) ≡ 32 = omega (arith, turns_length xs ys (omega arith)) in
    ext_get_or 0 turned (by_turns xs ys) (omega arith) (λ k l.
    let place = turns_at xs ys k (omega arith) (omega arith) in
    at k (omega arith) ∙ elim (cases_lt (k % 2) 1) [
      | inl even ↦
          let none : k % 2 ≡ 0 = omega arith in
          let here : k / 2 + k % 2 * 16 ≡ k / 2 = omega arith in
          ap (λ i. get_or costs i 0) here ∙ sym (place ∙ cond-true (eqb (k % 2) 0) (get_or xs (k / 2) 0) (get_or ys (k / 2) 0) (eq-eqb (k % 2) 0 none) ∙ get_or-take 16 costs (k / 2) 0 (omega arith))
      | inr odd ↦
          let one : k % 2 ≡ 1 = omega arith in
          let here : k / 2 + k % 2 * 16 ≡ 16 + k / 2 = omega arith in
          ap (λ i. get_or costs i 0) here ∙ sym (place ∙ cond-false (eqb (k % 2) 0) (get_or xs (k / 2) 0) (get_or ys (k / 2) 0) (ap (λ p. eqb p 0) one) ∙ get_or-drop 16 costs (k / 2) 0)
    ])
