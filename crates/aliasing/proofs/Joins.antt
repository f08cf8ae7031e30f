-- One list after the other, all of one length: places, numbers and order.
use Rattle.std.proofs.Common.{◌≡◌, ℕ, zero, suc, ◌+◌, ◌*◌, ◌/◌, ◌%◌, ◌<◌, ◌≤◌, Bool, true, ltb, List, [], ◌∷◌, ◌++◌, length, get_or, sym, refl, ap, ◌∙◌, inl, inr, mul-le-mul_right, suc-mul, one-mul, zero-mul, arith, length-append}
use Rattle.std.specs.List.{flat_map}
use Rattle.std.proofs.lemmas.Nat.{mod_below, div-add-mod'}
use Rattle.std.proofs.lemmas.List.{get_or_append_left, get_or-append-add}
use Rattle.std.proofs.lemmas.Bool.{cases_order, lt-ltb, le-ltb, cond-true, cond-false}
use Rattle.levels.specs.Generated.{ascending}
use Rattle.levels.specs.Alias.{how_many}
use Rattle.levels.proofs.Places.{In, Distinct, in_left, in_right, in_append}
use Rattle.levels.proofs.Ascending.{in_none, in_cons, in_here, in_later, how_many_all, how_many_none, how_many_times, distinct_once}
use Rattle.levels.proofs.Sets.{Rising, in_holds, holds_at}

-- numbers at later places stand in a relation to those before
abbrev pub Ordered : (ℕ → ℕ → Type 0) → List ℕ → Type 0
Ordered R xs = (i j : ℕ) → i < j → j < length xs → R (get_or xs i 0) (get_or xs j 0)

-- what stands in the list of a number of the list stands in all joined
pub in_joined : (f : ℕ → List ℕ) (xs : List ℕ) (x z : ℕ) → In x xs → In z (f x) → In z (flat_map f xs)
in_joined f [] x z p q = absurd (in_none x p)
in_joined f (y ∷ ys) x z p q = elim (in_cons y x ys p) [
  | inl e ↦ in_left (f y) (flat_map f ys) z (rw (sym e) at q)
  | inr r ↦ in_right (f y) (flat_map f ys) z (in_joined f ys x z r q)
]

-- what stands in all joined stands in the list of one
pub in_joined_from : (f : ℕ → List ℕ) (xs : List ℕ) (z : ℕ) → In z (flat_map f xs) → (x : ℕ) × In x xs × In z (f x)
in_joined_from f [] z p = absurd (in_none z p)
in_joined_from f (y ∷ ys) z p = elim (in_append (f y) (flat_map f ys) z p) [
  | inl q ↦ (y, in_here y ys, q)
  | inr q ↦ let r = in_joined_from f ys z q in (r.0, in_later y r.0 ys r.1, r.2)
]

module _ (f : ℕ → List ℕ) (k : ℕ) where
  -- the list of each number has k numbers
  abbrev pub Even : List ℕ → Type 0
  Even xs = (i : ℕ) → i < length xs → length (f (get_or xs i 0)) ≡ k

  -- all joined have k times as many
  pub joined_length : (xs : List ℕ) → Even xs → length (flat_map f xs) ≡ length xs * k
  joined_length [] h = sym (zero-mul k)
  joined_length (x ∷ xs) h =
      omega (arith, length-append (f x) (flat_map f xs), h 0 (omega arith), joined_length xs (λ i l. h (suc i) (omega arith)), suc-mul (length xs) k)

  -- a place of all joined is a place in the list of one
  pub joined_place : (xs : List ℕ) → Even xs → (i d : ℕ) → i < length xs → d < k → get_or (flat_map f xs) (i * k + d) 0 ≡ get_or (f (get_or xs i 0)) d 0
  joined_place [] h i d l m = absurd (omega arith)
  joined_place (x ∷ xs) h zero d l m =
      ap (λ j. get_or (f x ++ flat_map f xs) j 0) (let e : 0 * k + d ≡ d = omega (arith, zero-mul k) in e)
      ∙ get_or_append_left (f x) (flat_map f xs) 0 d (omega (arith, h 0 (omega arith)))
  joined_place (x ∷ xs) h (suc i) d l m =
      ap (λ j. get_or (f x ++ flat_map f xs) j 0) (let e : suc i * k + d ≡ length (f x) + (i * k + d) = omega (arith, suc-mul i k, h 0 (omega arith)) in e)
      ∙ get_or-append-add (f x) (flat_map f xs) (i * k + d) 0
      ∙ joined_place xs (λ j q. h (suc j) (omega arith)) i d (omega arith) m

  module _ (pos : 0 < k) where
    -- at any place
    pub joined_at : (xs : List ℕ) → Even xs → (m : ℕ) → m / k < length xs → get_or (flat_map f xs) m 0 ≡ get_or (f (get_or xs (m / k) 0)) (m % k) 0
    joined_at xs h m l = ap (λ j. get_or (flat_map f xs) j 0) (sym (div-add-mod' m k)) ∙ joined_place xs h (m / k) (m % k) l (mod_below m k pos)

    -- a smaller place is in an earlier list, or earlier in the same
    place-before : (p q : ℕ) → p < q → q / k < p / k → ⊥
    place-before p q l g =
        let m : suc (q / k) * k ≤ p / k * k = mul-le-mul_right k g in
        omega (arith, suc-mul (q / k) k, div-add-mod' p k, div-add-mod' q k, mod_below q k pos)

    -- the place of the list is within the list
    pub place-within : (n m : ℕ) → m < n * k → m / k < n
    place-within n m l = elim (cases_order (m / k) n) [
      | inl e ↦ absurd (omega (arith, div-add-mod' m k, ap (λ j. j * k) e))
      | inr (inl h) ↦ h
      | inr (inr g) ↦ absurd (let h : suc n * k ≤ m / k * k = mul-le-mul_right k g in omega (arith, suc-mul n k, div-add-mod' m k))
    ]

    -- order in each list, and between lists, is order in all joined
    pub joined-ordered : (R Q : ℕ → ℕ → Type 0) (xs : List ℕ) → Even xs → Ordered R xs →
        ((i : ℕ) → i < length xs → Ordered Q (f (get_or xs i 0))) →
        ((x y a b : ℕ) → In x xs → In y xs → R x y → In a (f x) → In b (f y) → Q a b) → Ordered Q (flat_map f xs)
    joined-ordered R Q xs h own within across p q l m =
        let lq : q / k < length xs = place-within (length xs) q (omega (arith, joined_length xs h)) in
        let dp = mod_below p k pos in
        let dq = mod_below q k pos in
        elim (cases_order (p / k) (q / k)) [
          | inl e ↦
              let lp : p / k < length xs = omega arith in
              let same : get_or (flat_map f xs) p 0 ≡ get_or (f (get_or xs (q / k) 0)) (p % k) 0 = joined_at xs h p lp ∙ ap (λ j. get_or (f (get_or xs j 0)) (p % k) 0) e in
              let lt : p % k < q % k = omega (arith, div-add-mod' p k, div-add-mod' q k, ap (λ j. j * k) e) in
              rw (same, joined_at xs h q lq) (within (q / k) lq (p % k) (q % k) lt (omega (arith, h (q / k) lq)))
          | inr (inl g) ↦
              let lp : p / k < length xs = omega arith in
              rw (joined_at xs h p lp, joined_at xs h q lq)
              (across (get_or xs (p / k) 0) (get_or xs (q / k) 0) (get_or (f (get_or xs (p / k) 0)) (p % k) 0) (get_or (f (get_or xs (q / k) 0)) (q % k) 0)
              (p / k, lp, refl) (q / k, lq, refl) (own (p / k) (q / k) g lq)
              (p % k, omega (arith, h (p / k) lp), refl) (q % k, omega (arith, h (q / k) lq), refl))
          | inr (inr g) ↦ absurd (place-before p q l g)
        ]

-- of a list in which no number stands twice, as many pass as of its ascending order
pub distinct_count : (xs : List ℕ) → Distinct xs → (p : ℕ → Bool) → how_many p xs ≡ how_many p (ascending xs)
distinct_count xs d p = how_many_times p 1 xs (λ x q. distinct_once xs x d q) ∙ one-mul (how_many p (ascending xs))

-- and its ascending order is as long
pub distinct_length : (xs : List ℕ) → Distinct xs → length (ascending xs) ≡ length xs
distinct_length xs d = sym (how_many_all (ascending xs)) ∙ sym (distinct_count xs d (λ x. true)) ∙ how_many_all xs

-- in a strictly ascending list, as many numbers are smaller as stand before
pub rising_smaller : (xs : List ℕ) → Rising xs → (m : ℕ) → m < length xs → how_many (λ y. ltb y (get_or xs m 0)) xs ≡ m
rising_smaller [] r m l = absurd (omega arith)
rising_smaller (x ∷ xs) r zero l =
    let none = how_many_none (λ y. ltb y x) xs (λ y q. let a = r.0 y (in_holds xs y q) in le-ltb y x (omega arith)) in
    omega (arith, cond-false {A = ℕ} (ltb x x) 1 0 (le-ltb x x (omega arith)))
rising_smaller (x ∷ xs) r (suc m) l =
    let lt = r.0 (get_or xs m 0) (holds_at xs m (omega arith)) in
    omega (arith, rising_smaller xs r.1 m (omega arith), cond-true {A = ℕ} (ltb x (get_or xs m 0)) 1 0 (lt-ltb x (get_or xs m 0) lt))

-- so a number of the list stands at the place that says how many are smaller
pub smaller_place : (xs : List ℕ) → Rising xs → (x m : ℕ) → In x xs → how_many (λ y. ltb y x) xs ≡ m → x ≡ get_or xs m 0
smaller_place xs r x m p e =
    let s : p.0 ≡ m = sym (rising_smaller xs r p.0 p.1) ∙ ap (λ z. how_many (λ y. ltb y z) xs) p.2 ∙ e in
    sym p.2 ∙ ap (λ i. get_or xs i 0) s
