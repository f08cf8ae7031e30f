-- From one run to the next: the place of a run is linear in its code.
use Rattle.std.proofs.Common.{◌≡◌, ℕ, zero, suc, ◌+◌, ◌-◌, ◌*◌, ◌/◌, ◌%◌, ◌^◌, ◌<◌, ◌≤◌, true, false, cond, ◌&&◌, eqb, List, [], ◌∷◌, get_or, drop, sym, refl, ap, ap₂, ◌∙◌, subst, inl, inr, add-zero, zero-add, one-mul, zero-mul, pow-suc, add-one, one-add, arith}
use native.Mathlib.Nat.{zero-mod}
use lib.Bits.{bit_and, bit_xor, and_comm, and_zero_r, and_mask, xor_add_and, xor_block, xor_lt, xor_mod, xor_shr}
use lib.Count.{count_trailing_zeros, ones, ones_in, under}
use Rattle.std.proofs.Math.Nat.{mul-mod_left}
use Rattle.std.proofs.Math.Pow.{pow_mono}
use Rattle.std.proofs.lemmas.Nat.{pow_pos, pow-add, mod-pow-add, mod_low, row_fits, shl-shr, shr_below, shr_split, shr_high}
use Rattle.std.proofs.lemmas.Bool.{and_parts, and_from, cases_eq, cases_lt, eqb-true, eq-eqb, ne_eqb}
use Rattle.std.proofs.lemmas.List.{get_or-drop}
use Rattle.levels.specs.Arithmetic.{two}
use Rattle.levels.specs.Generated.{generated}
use Rattle.aliasing.specs.Runs.{is_run, runs_below, Run}
use Rattle.aliasing.specs.Table.{odd, evens, empty_below, Rows}
use Rattle.aliasing.proofs.Parity.{odd_sum, ones_block}
use Rattle.aliasing.proofs.Evens.{run_below, run_test, word_below}
use Rattle.aliasing.proofs.Placed.{evens_at}
use Rattle.aliasing.proofs.Chosen.{empty_free, empty_row, evens_same, good_step, free_step, passed, pivot_whole, row_turned}

-- the lowest digit that is 1 stands above the zeros that end a number
pub trailing_low : (k m : ℕ) → 0 < m → m < 2 ^ k → m % 2 ^ suc (count_trailing_zeros k m) ≡ 2 ^ count_trailing_zeros k m
unfolding count_trailing_zeros
trailing_low zero m p l = absurd (omega arith)
trailing_low (suc k) m p l = elim (cases_eq (m % 2) 0) [
  | inl e ↦
      let t = count_trailing_zeros k (m / 2) in
      let ih = trailing_low k (m / 2) (omega arith) (omega (arith, pow-suc 2 k)) in
      let more : m % 2 ^ suc (suc t) ≡ m / 2 % 2 ^ suc t * 2 + m % 2 = ap (λ j. m % 2 ^ j) (sym (add-one (suc t))) ∙ mod-pow-add m (suc t) 1 in
      subst (λ d. m % 2 ^ suc (under d t) ≡ 2 ^ under d t) (sym e) (omega (arith, more, ih, pow-suc 2 t))
  | inr d ↦
      let t = count_trailing_zeros k (m / 2) in
      let e : m % 2 ≡ 1 = omega arith in
      subst (λ d. m % 2 ^ suc (under d t) ≡ 2 ^ under d t) (sym e) e
]

-- a number and the one before it differ in its lowest 1 and the zeros below
pub differ_low : (m t : ℕ) → m % 2 ^ suc t ≡ 2 ^ t → bit_xor (m - 1) (2 ^ suc t - 1) ≡ m
differ_low m t e =
    let P = 2 ^ suc t in
    let some = pow_pos t in
    let split = shr_split m (suc t) in
    let half = pow-suc 2 t in
    let whole : m / P * P + (2 ^ t - 1) ≡ m - 1 = omega arith in
    let low : (m - 1) % P ≡ 2 ^ t - 1 = ap (λ y. y % P) (sym whole) ∙ mod_low (m / P) (suc t) (2 ^ t - 1) (omega arith) in
    omega (arith, xor_add_and (m - 1) (P - 1), and_mask (m - 1) (suc t), low)

-- the zeros that end a number are fewer than its digits
pub trailing_few : (k m t : ℕ) → m % 2 ^ suc t ≡ 2 ^ t → m < 2 ^ k → t < k
trailing_few k m t e l = elim (cases_lt t k) [
  | inl h ↦ h
  | inr h ↦ absurd (omega (arith, pow_mono h, shr_split m (suc t)))
]

-- the parity of a word is linear in the run
odd_of_sum : (n x y t : ℕ) → t < 2 ^ n → odd (bit_xor x y) t ≡ (odd x t + odd y t) % 2
odd_of_sum n x y t l =
    let turn = λ (a : ℕ). ap (λ z. ones z % 2) (and_comm a t) in
    turn (bit_xor x y) ∙ odd_sum n t x y l ∙ ap₂ (λ a b. (a + b) % 2) (sym (turn x)) (sym (turn y))

-- the sum of two runs of a table is one
evens_sum : (n : ℕ) (T : List ℕ) (x y : ℕ) → ((p : ℕ) → get_or T p 0 < 2 ^ n) → evens T x ≡ true → evens T y ≡ true → evens T (bit_xor x y) ≡ true
evens_sum n [] x y low ex ey = refl
evens_sum n (t ∷ T) x y low ex ey =
    let px = and_parts (eqb (odd x t) 0) (evens T x) ex in
    let py = and_parts (eqb (odd y t) 0) (evens T y) ey in
    let sum : odd (bit_xor x y) t ≡ 0 = odd_of_sum n x y t (low 0) ∙ ap₂ (λ a b. (a + b) % 2) (eqb-true (odd x t) 0 px.0) (eqb-true (odd y t) 0 py.0) in
    and_from (eqb (odd (bit_xor x y) t) 0) (evens T (bit_xor x y)) (eq-eqb _ 0 sum) (evens_sum n T x y (λ p. low (suc p)) px.1 py.1)

-- levels below a word's lowest letter do not matter to it
odd_high : (k x y t : ℕ) → x / 2 ^ k ≡ y / 2 ^ k → t % 2 ^ k ≡ 0 → odd x t ≡ odd y t
unfolding ones ones_in
odd_high k x y t e z =
    let part = λ (v : ℕ). ones_block k v t ∙ ap (λ r. ones (bit_and (v / 2 ^ k) (t / 2 ^ k)) + ones (bit_and (v % 2 ^ k) r)) z ∙ ap (λ r. ones (bit_and (v / 2 ^ k) (t / 2 ^ k)) + ones r) (and_zero_r (v % 2 ^ k)) in
    ap (λ o. o % 2) (part x ∙ ap (λ h. ones (bit_and h (t / 2 ^ k)) + 0) e ∙ sym (part y))

-- the levels of a run at the empty places below k, as a number
abbrev gathered : List ℕ → ℕ → ℕ → ℕ
gathered T zero x = 0
gathered T (suc k) x = cond (eqb (get_or T k 0) 0) (x / 2 ^ k % 2 * 2 ^ empty_below T k + gathered T k x) (gathered T k x)

-- a digit of a sum
digit_sum : (k x y : ℕ) → bit_xor x y / 2 ^ k % 2 ≡ bit_xor (x / 2 ^ k % 2) (y / 2 ^ k % 2)
digit_sum k x y = ap (λ z. z % 2) (xor_shr x y k) ∙ xor_mod (x / 2 ^ k) (y / 2 ^ k) 1

-- one digit more at an empty place, none at a row
gathered_free : (T : List ℕ) (k x : ℕ) → get_or T k 0 ≡ 0 → gathered T (suc k) x ≡ x / 2 ^ k % 2 * 2 ^ empty_below T k + gathered T k x
gathered_free T k x e = ap (λ b. cond b (x / 2 ^ k % 2 * 2 ^ empty_below T k + gathered T k x) (gathered T k x)) (eq-eqb (get_or T k 0) 0 e)

gathered_row : (T : List ℕ) (k x : ℕ) → (get_or T k 0 ≡ 0 → ⊥) → gathered T (suc k) x ≡ gathered T k x
gathered_row T k x ne = ap (λ b. cond b (x / 2 ^ k % 2 * 2 ^ empty_below T k + gathered T k x) (gathered T k x)) (ne_eqb (get_or T k 0) 0 ne)

-- it has as many digits as there are empty places
gathered_few : (T : List ℕ) (k x : ℕ) → gathered T k x < 2 ^ empty_below T k
gathered_few T zero x = omega arith
gathered_few T (suc k) x = elim (cases_eq (get_or T k 0) 0) [
  | inl e ↦
      let d = x / 2 ^ k % 2 in
      let fits : d * 2 ^ empty_below T k + 2 ^ empty_below T k ≤ 2 * 2 ^ empty_below T k = row_fits d (2 ^ empty_below T k) 2 (2 ^ empty_below T k) (omega arith) (omega arith) in
      omega (arith, gathered_free T k x e, ap (λ j. 2 ^ j) (empty_free T k e), pow-suc 2 (empty_below T k), gathered_few T k x, fits)
  | inr ne ↦ omega (arith, gathered_row T k x ne, ap (λ j. 2 ^ j) (empty_row T k ne), gathered_few T k x)
]

-- the number that is gathered is linear in the code
gathered_sum : (T : List ℕ) (k x y : ℕ) → gathered T k (bit_xor x y) ≡ bit_xor (gathered T k x) (gathered T k y)
gathered_sum T zero x y = refl
gathered_sum T (suc k) x y = elim (cases_eq (get_or T k 0) 0) [
  | inl e ↦
      let E = empty_below T k in
      gathered_free T k (bit_xor x y) e
      ∙ ap₂ (λ d g. d * 2 ^ E + g) (digit_sum k x y) (gathered_sum T k x y)
      ∙ sym (xor_block E (x / 2 ^ k % 2) (y / 2 ^ k % 2) (gathered T k x) (gathered T k y) (gathered_few T k x) (gathered_few T k y))
      ∙ sym (ap₂ bit_xor (gathered_free T k x e) (gathered_free T k y e))
  | inr ne ↦ gathered_row T k (bit_xor x y) ne ∙ gathered_sum T k x y ∙ sym (ap₂ bit_xor (gathered_row T k x ne) (gathered_row T k y ne))
]

module _ (n : ℕ) (low : 1 ≤ n) (high : n ≤ 32) (ws T : List ℕ) (r : Rows n ws T) where
  -- how many runs are smaller than a code
  abbrev below : ℕ → ℕ
  below x = runs_below n (generated two n ws) x

  -- a code from a place on
  abbrev top : ℕ → ℕ → ℕ
  top k x = x / 2 ^ k * 2 ^ k

  -- a row has no letter below its place
  row_whole : (p k : ℕ) → k ≤ p → get_or T p 0 % 2 ^ k ≡ 0
  row_whole p k l = elim (r.table.pivot p) [
    | inl e ↦ ap (λ t. t % 2 ^ k) e ∙ zero-mod (2 ^ k)
    | inr e ↦ let at : p ≡ p - k + k = omega arith in pivot_whole (get_or T p 0) k (p - k) (subst (λ q. get_or T p 0 % 2 ^ suc q ≡ 2 ^ q) at e)
  ]

  -- the rows from a place on are even in a run
  rest_even : (k x : ℕ) → k ≤ n → evens T x ≡ true → evens (drop k T) x ≡ true
  rest_even zero x l e = e
  rest_even (suc k) x l e = (and_parts (eqb (odd x (get_or T k 0)) 0) (evens (drop (suc k) T) x) (sym (good_step n low high ws T r k x l) ∙ rest_even k x (omega arith) e)).1

  -- levels below a place do not matter to the rows from there on
  rest_same : (k x y : ℕ) → x / 2 ^ k ≡ y / 2 ^ k → evens (drop k T) x ≡ evens (drop k T) y
  rest_same k x y e = evens_same (drop k T) x y (λ i. subst (λ t. odd x t ≡ odd y t) (sym (get_or-drop k T i 0)) (odd_high k x y (get_or T (k + i) 0) e (row_whole (k + i) k (omega arith))))

  module _ (k x : ℕ) (l : k < n) (b : x < 2 ^ n) (e : evens T x ≡ true) where
    -- one place lower, one digit more
    top_next : top k x ≡ top (suc k) x + x / 2 ^ k % 2 * 2 ^ k
    top_next = omega (arith, shr_split x k, shr_split x (suc k), mod-pow-add x 1 k, ap (λ j. x % 2 ^ j) (one-add k))

    -- a code from a place on is whole there
    top_whole : top (suc k) x % 2 ^ suc k ≡ 0
    top_whole = mul-mod_left (x / 2 ^ suc k) (2 ^ suc k)

    -- and leaves room for the levels below
    top_room : top (suc k) x + 2 ^ suc k ≤ 2 ^ n
    top_room =
        let at : n ≡ n - suc k + suc k = omega arith in
        let q : x / 2 ^ suc k < 2 ^ (n - suc k) = shr_below x (n - suc k) (suc k) (subst (λ j. x < 2 ^ j) at b) in
        omega (arith, row_fits (x / 2 ^ suc k) (2 ^ suc k) (2 ^ (n - suc k)) (2 ^ suc k) q (omega arith), ap (λ j. 2 ^ j) at, pow-add 2 (n - suc k) (suc k))

    -- the code from a place on, where its digit there is 1
    top_one : x / 2 ^ k % 2 ≡ 1 → top k x ≡ top (suc k) x + 2 ^ k
    top_one d = top_next ∙ ap (λ j. top (suc k) x + j * 2 ^ k) d ∙ ap (λ j. top (suc k) x + j) (one-mul (2 ^ k))

    -- at an empty place a run passes over as many runs as its digit says
    at_free : get_or T k 0 ≡ 0 → below (top k x) ≡ below (top (suc k) x) + x / 2 ^ k % 2 * 2 ^ empty_below T k
    at_free z = elim (cases_eq (x / 2 ^ k % 2) 0) [
      | inl d ↦
          let same : top k x ≡ top (suc k) x = top_next ∙ ap (λ j. top (suc k) x + j * 2 ^ k) d ∙ ap (λ j. top (suc k) x + j) (zero-mul (2 ^ k)) ∙ add-zero (top (suc k) x) in
          ap below same ∙ sym (ap (λ j. below (top (suc k) x) + j * 2 ^ empty_below T k) d ∙ ap (λ j. below (top (suc k) x) + j) (zero-mul (2 ^ empty_below T k)) ∙ add-zero (below (top (suc k) x)))
      | inr d ↦
          let one : x / 2 ^ k % 2 ≡ 1 = omega arith in
          let even : evens (drop k T) (top (suc k) x) ≡ true = (free_step n low high ws T r k (top (suc k) x) l z).0 ∙ rest_same (suc k) (top (suc k) x) x (shl-shr (x / 2 ^ suc k) (suc k)) ∙ rest_even (suc k) x l e in
          ap below (top_one one) ∙ passed n low high ws T r k (top (suc k) x) l top_whole top_room
          ∙ ap (λ g. below (top (suc k) x) + cond g (2 ^ empty_below T k) 0) even
          ∙ sym (ap (λ j. below (top (suc k) x) + j * 2 ^ empty_below T k) one ∙ ap (λ j. below (top (suc k) x) + j) (one-mul (2 ^ empty_below T k)))
    ]

    -- at a row it passes over none
    at_row : (get_or T k 0 ≡ 0 → ⊥) → below (top k x) ≡ below (top (suc k) x)
    at_row ne = elim (cases_eq (x / 2 ^ k % 2) 0) [
      | inl d ↦ ap below (top_next ∙ ap (λ j. top (suc k) x + j * 2 ^ k) d ∙ ap (λ j. top (suc k) x + j) (zero-mul (2 ^ k)) ∙ add-zero (top (suc k) x))
      | inr d ↦
          let one : x / 2 ^ k % 2 ≡ 1 = omega arith in
          let t = get_or T k 0 in
          let X = top (suc k) x in
          let here : odd (X + 2 ^ k) t ≡ 0 = odd_high k (X + 2 ^ k) x t (ap (λ y. y / 2 ^ k) (sym (top_one one)) ∙ shl-shr (x / 2 ^ k) k) (row_whole k k (omega arith)) ∙ evens_at T x e k in
          let turned : odd X t ≡ 1 = omega (arith, row_turned n low high ws T r k X ne top_whole, here) in
          let none : evens (drop k T) X ≡ false = good_step n low high ws T r k X l ∙ ap (λ o. eqb o 0 && evens (drop (suc k) T) X) turned in
          ap below (top_one one) ∙ passed n low high ws T r k X l top_whole top_room ∙ ap (λ g. below X + cond g (2 ^ empty_below T k) 0) none ∙ add-zero (below X)
    ]

  -- the runs that a run passes over, from a place on and below it
  passed_below : (k x : ℕ) → k ≤ n → x < 2 ^ n → evens T x ≡ true → below (top k x) + gathered T k x ≡ below x
  passed_below zero x l b e = let same : x / 1 * 1 ≡ x = omega arith in add-zero (below (x / 1 * 1)) ∙ ap below same
  passed_below (suc k) x l b e = elim (cases_eq (get_or T k 0) 0) [
    | inl z ↦ omega (arith, at_free k x l b e z, gathered_free T k x z, passed_below k x (omega arith) b e)
    | inr ne ↦ omega (arith, at_row k x l b e ne, gathered_row T k x ne, passed_below k x (omega arith) b e)
  ]

  -- the place of a run is what its levels at the empty places make
  place_of : (x : ℕ) → x < 2 ^ n → evens T x ≡ true → below x ≡ gathered T n x
  place_of x b e =
      let none : x / 2 ^ n ≡ 0 = let whole : x ≡ 0 * 2 ^ n + x = omega arith in ap (λ y. y / 2 ^ n) whole ∙ shr_high 0 n x b in
      sym (passed_below n x (omega arith) b e) ∙ ap (λ q. below (q * 2 ^ n) + gathered T n x) none ∙ ap (λ q. below q + gathered T n x) (zero-mul (2 ^ n)) ∙ zero-add (gathered T n x)

  -- a code is even in all rows exactly if it is a run
  run_even : (x : ℕ) → x < 2 ^ n → is_run n (generated two n ws) x ≡ evens T x
  run_even x b = run_test n x low high b ws ∙ sym (r.same x b)

  -- the sum of two runs is the run at the sum of their places
  pub run_sum : (m j x y : ℕ) → Run n (generated two n ws) m x → Run n (generated two n ws) j y → Run n (generated two n ws) (bit_xor m j) (bit_xor x y)
  run_sum m j x y p q =
      let bx = run_below n (generated two n ws) m x p in
      let by = run_below n (generated two n ws) j y q in
      let b = xor_lt n x y bx by in
      let ex = sym (run_even x bx) ∙ p.runs in
      let ey = sym (run_even y by) ∙ q.runs in
      let e = evens_sum n T x y (λ i. word_below n (get_or T i 0) (r.table.word i)) ex ey in
      record {
        runs = run_even (bit_xor x y) b ∙ e;
        smaller = place_of (bit_xor x y) b e ∙ gathered_sum T n x y ∙ sym (ap₂ bit_xor (sym p.smaller ∙ place_of x bx ex) (sym q.smaller ∙ place_of y by ey));
      }

  -- so from one run to the next the run is added that ends the zeros of the next place
  pub run_next : (m t x s : ℕ) → m % 2 ^ suc t ≡ 2 ^ t → Run n (generated two n ws) (m - 1) x → Run n (generated two n ws) (2 ^ suc t - 1) s → Run n (generated two n ws) m (bit_xor x s)
  run_next m t x s e p q = subst (λ j. Run n (generated two n ws) j (bit_xor x s)) (differ_low m t e) (run_sum (m - 1) (2 ^ suc t - 1) x s p q)
