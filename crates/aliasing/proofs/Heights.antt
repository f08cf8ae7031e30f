-- Words by their highest digits: what a sum with a smaller word leaves, and what the multiples of a word change.
use Rattle.std.specs.List.{AllByRecursion}
use Rattle.std.proofs.Common.{◌≡◌, ℕ, zero, suc, ◌+◌, ◌-◌, ◌*◌, ◌/◌, ◌%◌, ◌^◌, ◌<◌, ◌≤◌, ◌⊎◌, List, [], ◌∷◌, map, length, get_or, replicate, sym, refl, ap, ◌∙◌, subst, inl, inr, mul-le-mul_right, mod-eq_of_lt, mul_assoc, suc-mul, mul_comm, add_comm, one-mul, mul-zero, zero-mul, mul-suc, mul-add, div-mul-le_self, arith}
use native.Mathlib.Nat.{div-eq_of_lt, lt-div-mul-add}
use Rattle.std.proofs.lemmas.Nat.{pow_pos, pow-add, shr-shr, shr_high, mul-add-lt, div_below, le-div, mod_below}
use Rattle.std.proofs.lemmas.List.Elements.{All-get_or, All-from_recursion}
use Rattle.std.proofs.lemmas.List.{get_or-map}
use Rattle.std.proofs.lemmas.Bool.{cases_lt, cases_order}
use Rattle.levels.specs.Arithmetic.{Arithmetic, Lawful}
use Rattle.levels.specs.Words.{digits, code, zip_with, word_sum, word_multiple}
use Rattle.levels.specs.Space.{Word}
use Rattle.levels.specs.Basis.{Smallest}
use Rattle.levels.proofs.Digits.{next_power, rest_below, digits_length, digit_place, word_legal}
use Rattle.levels.proofs.Space.{zero_digits, zero_level, times_zero, word_code, sum_is, sum_digits, multiple_is, multiple_digits, multiple_is_word}

-- two lists digit by digit, at a place
get_d_zip : (f : ℕ → ℕ → ℕ) (xs ys : List ℕ) → length xs ≡ length ys → (i : ℕ) → i < length xs → get_or (zip_with f xs ys) i 0 ≡ f (get_or xs i 0) (get_or ys i 0)
get_d_zip f [] ys e i l = absurd (omega arith)
get_d_zip f (x ∷ xs) [] e i l = absurd (omega arith)
get_d_zip f (x ∷ xs) (y ∷ ys) e zero l = refl
get_d_zip f (x ∷ xs) (y ∷ ys) e (suc i) l = get_d_zip f xs ys (omega arith) i (omega arith)

module _ (A : Arithmetic) where
  -- codes below the power of place k have no digit at place k or higher
  abbrev pub power : ℕ → ℕ
  power k = 2 ^ (A.bits * k)

  -- a power is not 0
  pub power_pos : (k : ℕ) → 0 < power k
  power_pos k = pow_pos (A.bits * k)

  -- without its lowest digit a code is one place lower
  down : (k d c : ℕ) → d < 2 ^ A.bits → (d + c * 2 ^ A.bits) / power (suc k) ≡ c / power k
  down k d c l =
      ap (λ j. (d + c * 2 ^ A.bits) / 2 ^ j) (mul-suc A.bits k ∙ add_comm (A.bits * k) A.bits)
      ∙ sym (shr-shr (d + c * 2 ^ A.bits) A.bits (A.bits * k))
      ∙ ap (λ x. x / power k) (ap (λ x. x / 2 ^ A.bits) (add_comm d (c * 2 ^ A.bits)) ∙ shr_high c A.bits d l)

  -- the place of the highest digit of a code
  pub top : (n v : ℕ) → v < power n → 0 < v → (k : ℕ) × (k < n) × (power k ≤ v) × (v < power (suc k))
  top zero v l p = absurd (let h : v < 1 = rw mul-zero at l in omega arith)
  top (suc n) v l p = elim (cases_lt v (power n)) [
    | inl h ↦ let t = top n v h p in let q = t.1 in (t.0, omega arith, t.2, t.3)
    | inr g ↦ (n, omega arith, g, l)
  ]

  -- the digit of a code at a place
  abbrev pub digit : ℕ → ℕ → ℕ
  digit k w = w / power k % 2 ^ A.bits

  -- the highest digit of a code is what is left of it above its place, and is not 0
  pub digit_top : (k v : ℕ) → power k ≤ v → v < power (suc k) → (digit k v ≡ v / power k) × (0 < digit k v)
  digit_top k v low high =
      let small : v / power k < 2 ^ A.bits = div_below v (power k) (2 ^ A.bits) (power_pos k) (omega (arith, next_power A k, mul_comm (power k) (2 ^ A.bits))) in
      let same : digit k v ≡ v / power k = mod-eq_of_lt small in
      let pos : 1 ≤ v / power k = le-div 1 v (power k) (power_pos k) (omega (arith, one-mul (power k))) in
      (same, omega arith)

  -- a is below b above place k
  abbrev pub Over : ℕ → ℕ → ℕ → Type 0
  Over k a b = a / power k < b / power k

  -- then it is below
  pub over_lt : (k a b : ℕ) → Over k a b → a < b
  over_lt k a b l =
      let m : suc (a / power k) * power k ≤ b / power k * power k = mul-le-mul_right (power k) l in
      omega (arith, suc-mul (a / power k) (power k), lt-div-mul-add {a = a} {b = power k} (power_pos k), div-mul-le_self b (power k))

  -- a smaller code is below, or the same, above a place
  pub lt_over : (k a b : ℕ) → a < b → (a / power k ≡ b / power k → ⊥) → Over k a b
  lt_over k a b l d = elim (cases_order (a / power k) (b / power k)) [
    | inl e ↦ absurd (d e)
    | inr (inl m) ↦ m
    | inr (inr m) ↦ absurd (let h = over_lt k b a m in omega arith)
  ]

  -- what is below above a place is below above a lower place
  pub over_lower : (j k a b : ℕ) → k ≤ j → Over j a b → Over k a b
  over_lower j k a b le l =
      let d = 2 ^ (A.bits * (j - k)) in
      let t = b / power j in
      let e : power j ≡ d * power k =
      ap (λ i. 2 ^ (A.bits * i)) (let e : j ≡ (j - k) + k = omega arith in e) ∙ ap (λ i. 2 ^ i) (mul-add A.bits (j - k) k) ∙ pow-add 2 (A.bits * (j - k)) (A.bits * k) in
      let f : t * power j ≡ t * d * power k = ap (λ i. t * i) e ∙ sym (mul_assoc t d (power k)) in
      let m : suc (a / power j) * power j ≤ t * power j = mul-le-mul_right (power j) l in
      let low : a < t * d * power k = omega (arith, suc-mul (a / power j) (power j), lt-div-mul-add {a = a} {b = power j} (power_pos j)) in
      let high : t * d * power k ≤ b = omega (arith, div-mul-le_self b (power j)) in
      omega (arith, div_below a (power k) (t * d) (power_pos k) low, le-div (t * d) b (power k) (power_pos k) high)

module _ (A : Arithmetic) (L : Lawful A) where
  -- no word adds nothing
  plus_none : (n : ℕ) (xs : List ℕ) → length xs ≡ n → AllByRecursion (λ d. d < A.s) xs → zip_with A.plus xs (replicate n 0) ≡ xs
  plus_none n [] e f = refl
  plus_none zero (x ∷ xs) e f = absurd (omega arith)
  plus_none (suc n) (x ∷ xs) e f =
      let F = L.field in
      cc (F.plus_comm x 0 f.0 (zero_level A L), F.plus_zero x f.0, plus_none n xs (omega arith) f.1)

  -- a multiple of nothing is nothing
  times_none : (c : ℕ) → c < A.s → (n : ℕ) → code A (map (A.times c) (replicate n 0)) ≡ 0
  times_none c lc zero = refl
  times_none c lc (suc n) =
      let e : A.times c 0 ≡ 0 = L.field.times_comm c 0 lc (zero_level A L) ∙ times_zero A L c lc in
      rw (e, times_none c lc n) (omega (arith, zero-mul (2 ^ A.bits)))

  -- digits below a place change nothing above it
  zip_high : (k n a b : ℕ) → AllByRecursion (λ d. d < A.s) (digits A n a) → b < power A k →
      code A (zip_with A.plus (digits A n a) (digits A n b)) / power A k ≡ code A (digits A n a) / power A k
  zip_high zero n a b f l =
      let z : b ≡ 0 = let h : b < 1 = rw mul-zero at l in omega arith in
      ap (λ ds. code A ds / power A 0) (ap (λ w. zip_with A.plus (digits A n a) (digits A n w)) z ∙ ap (zip_with A.plus (digits A n a)) (zero_digits A n) ∙ plus_none n (digits A n a) (digits_length A n a) f)
  zip_high (suc k) zero a b f l = refl
  zip_high (suc k) (suc n) a b f l =
      let d = a % 2 ^ A.bits in
      let e = b % 2 ^ A.bits in
      let ld = mod_below a (2 ^ A.bits) (pow_pos A.bits) in
      let le = mod_below b (2 ^ A.bits) (pow_pos A.bits) in
      down A k (A.plus d e) (code A (zip_with A.plus (digits A n (a / 2 ^ A.bits)) (digits A n (b / 2 ^ A.bits)))) (L.plus_fits d e ld le)
      ∙ zip_high k n (a / 2 ^ A.bits) (b / 2 ^ A.bits) f.1 (rest_below A k b l)
      ∙ sym (down A k d (code A (digits A n (a / 2 ^ A.bits))) ld)

  -- a multiple has no digit above those of the word
  map_low : (c : ℕ) → c < A.s → (k n v : ℕ) → AllByRecursion (λ d. d < A.s) (digits A n v) → v < power A k → code A (map (A.times c) (digits A n v)) < power A k
  map_low c lc zero n v f l =
      let z : v ≡ 0 = let h : v < 1 = rw mul-zero at l in omega arith in
      let e : code A (map (A.times c) (digits A n v)) ≡ 0 = ap (λ w. code A (map (A.times c) (digits A n w))) z ∙ ap (λ ds. code A (map (A.times c) ds)) (zero_digits A n) ∙ times_none c lc n in
      omega (arith, power_pos A 0)
  map_low c lc (suc k) zero v f l = power_pos A (suc k)
  map_low c lc (suc k) (suc n) v f l =
      let d = A.times c (v % 2 ^ A.bits) in
      let ld : d < 2 ^ A.bits = omega (arith, L.fits, L.field.times_level c (v % 2 ^ A.bits) lc f.0) in
      rw (next_power A k)
      (omega (
        arith,
        mul-add-lt (code A (map (A.times c) (digits A n (v / 2 ^ A.bits)))) (2 ^ A.bits) d (power A k)
            (map_low c lc k n (v / 2 ^ A.bits) f.1 (rest_below A k v l)) ld,
        mul_comm (power A k) (2 ^ A.bits),
      ))

module _ (A : Arithmetic) (L : Lawful A) (n : ℕ) where
  -- a word below a place changes nothing above it
  pub sum_high : (k a b : ℕ) → Word A n a → Word A n b → b < power A k → word_sum A n a b / power A k ≡ a / power A k
  sum_high k a b ha hb l =
      ap (λ w. w / power A k) (sum_is A L n a b ha hb)
      ∙ zip_high A L k n a b (word_legal A n a ha).levels l
      ∙ ap (λ w. w / power A k) (word_code A L n a ha)

  -- a multiple of a word below a place is below it
  pub multiple_low : (k c v : ℕ) → c < A.s → Word A n v → v < power A k → word_multiple A n c v < power A k
  multiple_low k c v lc hv l = rw (multiple_is A L n c v lc hv) (map_low A L c lc k n v (word_legal A n v hv).levels l)

  -- a digit of a word is a level
  pub digit_level : (k a : ℕ) → k < n → Word A n a → digit A k a < A.s
  digit_level k a l ha =
      subst (λ d. d < A.s) (digit_place A n a k l)
      (All-get_or (λ d. d < A.s) (digits A n a) k 0 (omega (arith, digits_length A n a)) (All-from_recursion (λ d. d < A.s) (digits A n a) (word_legal A n a ha).levels))

  -- the digit of a word and a multiple
  pub digit_sum : (k a c v : ℕ) → k < n → Word A n a → Word A n v → c < A.s →
      digit A k (word_sum A n a (word_multiple A n c v)) ≡ A.plus (digit A k a) (A.times c (digit A k v))
  digit_sum k a c v l ha hv lc =
      let m = word_multiple A n c v in
      let hm = multiple_is_word A L n c v lc hv in
      cc (
        digit_place A n (word_sum A n a m) k l,
        sum_digits A L n a m ha hm,
        get_d_zip A.plus (digits A n a) (digits A n m) (digits_length A n a ∙ sym (digits_length A n m)) k (omega (arith, digits_length A n a)),
        digit_place A n a k l,
        multiple_digits A L n c v lc hv,
        get_or-map (A.times c) (digits A n v) k 0 0 (omega (arith, digits_length A n v)),
        digit_place A n v k l,
      )

  -- different multiples of a word give different sums above the place of its highest digit
  pub sums_apart : (k v y c d : ℕ) → k < n → Word A n v → power A k ≤ v → v < power A (suc k) → Word A n y → c < A.s → d < A.s →
      word_sum A n y (word_multiple A n c v) / power A k ≡ word_sum A n y (word_multiple A n d v) / power A k → c ≡ d
  sums_apart k v y c d l hv low high hy lc ld e =
      let F = L.field in
      let a = digit A k y in
      let b = digit A k v in
      let la = digit_level k y l hy in
      let lb = digit_level k v l hv in
      let o = F.opposite a la in
      let i = F.inverse b lb (digit_top A k v low high).1 in
      let tc = F.times_level c b lc lb in
      let td = F.times_level d b ld lb in
      let same : A.plus a (A.times c b) ≡ A.plus a (A.times d b) =
      sym (digit_sum k y c v l hy hv lc) ∙ ap (λ w. w % 2 ^ A.bits) e ∙ digit_sum k y d v l hy hv ld in
      let times : A.times c b ≡ A.times d b =
      cc (
        F.plus_comm a o.0 la o.1,
        F.plus_assoc o.0 a (A.times c b) o.1 la tc,
        F.plus_assoc o.0 a (A.times d b) o.1 la td,
        o.2,
        F.plus_zero (A.times c b) tc,
        F.plus_zero (A.times d b) td,
      ) in
      let one = F.two_levels in
      cc (
        F.times_assoc c b i.0 lc lb i.1,
        F.times_assoc d b i.0 ld lb i.1,
        i.2,
        F.times_comm c 1 lc one,
        F.times_comm d 1 ld one,
        F.times_one c lc,
        F.times_one d ld,
      )

  -- a multiple of a word takes from another word the digit at the place of its own highest digit
  pub cancels_digit : (k a b : ℕ) → k < n → Word A n a → Word A n b → power A k ≤ b → b < power A (suc k) →
      (c : ℕ) × (c < A.s) × (digit A k (word_sum A n a (word_multiple A n c b)) ≡ 0)
  cancels_digit k a b l ha hb low high =
      let F = L.field in
      let x = digit A k a in
      let y = digit A k b in
      let ly = digit_level k b l hb in
      let o = F.opposite x (digit_level k a l ha) in
      let i = F.inverse y ly (digit_top A k b low high).1 in
      let c = A.times o.0 i.0 in
      let lc = F.times_level o.0 i.0 o.1 i.1 in (
        c,
        lc,
        cc (
          digit_sum k a c b l ha hb lc,
          F.times_assoc o.0 i.0 y o.1 i.1 ly,
          F.times_comm i.0 y i.1 ly,
          i.2,
          F.times_comm o.0 1 o.1 F.two_levels,
          F.times_one o.0 o.1,
          o.2,
        ),
      )

  -- of two words with the highest digit at one place, a multiple of the one takes that digit from the other
  pub cancels : (k a b : ℕ) → k < n → Word A n a → Word A n b → power A k ≤ a → a < power A (suc k) → power A k ≤ b → b < power A (suc k) →
      (c : ℕ) × (c < A.s) × (word_sum A n a (word_multiple A n c b) < power A k)
  cancels k a b l ha hb la ha' lb hb' =
      let r = cancels_digit k a b l ha hb lb hb' in
      let c = r.0 in
      let lc = r.1 in
      let none = r.2 in
      let m = word_multiple A n c b in
      let z = word_sum A n a m in
      let high : z / power A (suc k) ≡ 0 =
      sum_high (suc k) a m ha (multiple_is_word A L n c b lc hb) (multiple_low (suc k) c b lc hb hb') ∙ div-eq_of_lt ha' in
      let below : z < power A (suc k) = omega (arith, lt-div-mul-add {a = z} {b = power A (suc k)} (power_pos A (suc k)), ap (λ q. q * power A (suc k)) high, zero-mul (power A (suc k))) in (
        c,
        lc,
        elim (cases_lt z (power A k)) [
          | inl h ↦ h
          | inr g ↦ absurd (let p = (digit_top A k z g below).1 in omega arith)
        ],
      )

  -- of two rows of an echelon form the smaller has no digit at the place of the other's highest digit, or higher
  pub rows_apart : (u v : ℕ) → Word A n u → Word A n v → 0 < u → u < v → Smallest A n u v ⊎ Smallest A n v u → (k : ℕ) × (k < n) × (u < power A k) × (power A k ≤ v)
  rows_apart u v hu hv pu l small =
      let t = top A n v (word_legal A n v hv).below (omega arith) in
      let k = t.0 in
      let low = t.2 in
      let high = t.3 in
      elim (cases_lt u (power A k)) [
        | inl h ↦ (k, t.1, h, low)
        | inr g ↦
            let high' : u < power A (suc k) = omega arith in
            absurd (elim small [
              | inl s ↦ let c = cancels k v u t.1 hv hu low high g high' in let z = c.2 in let m = s c.0 c.1 in omega arith
              | inr s ↦ let c = cancels k u v t.1 hu hv g high' low high in let z = c.2 in let m = s c.0 c.1 in omega arith
            ])
      ]
