-- Ascending lists, in which each number stands once; and how many numbers of a list pass a test.
use Rattle.std.proofs.Common.{◌≡◌, ℕ, zero, suc, ◌+◌, ◌*◌, ◌<◌, ◌≤◌, Bool, true, false, cond, eqb, ◌⊎◌, List, [], ◌∷◌, ◌++◌, map, length, get_or, sym, refl, ap, ◌∙◌, subst, inl, inr, suc-mul, mul-zero, zero-add, zero-mul, mul-one, mul-add, arith}
use Rattle.std.proofs.lemmas.Bool.{cases_Bool, cases_eq, cases_order, both_ways, cond_both, cond-true, cond-false, eq-eqb, ne_eqb}
use Rattle.std.proofs.lemmas.Bool.Decides.{nat_tests, same_from_decides, Decides-like, Decides-eqb}
use Rattle.levels.specs.Generated.{each_below, ascending, holds, Ascends}
use Rattle.levels.specs.Alias.{how_many}
use Rattle.levels.proofs.Places.{In, Distinct}
use Rattle.levels.proofs.Sets.{holds_in, in_holds, rising_places, places_rising, rising_same, ascending_rising, ascending_holds}

-- the first number of a list stands in it
pub in_here : (x : ℕ) (xs : List ℕ) → In x (x ∷ xs)
in_here x xs = (0, omega arith, refl)

-- so does what stands in the rest
pub in_later : (x y : ℕ) (xs : List ℕ) → In y xs → In y (x ∷ xs)
in_later x y xs p = let h = p.1 in (suc p.0, omega arith, p.2)

-- and nothing else
pub in_cons : (x y : ℕ) (xs : List ℕ) → In y (x ∷ xs) → (x ≡ y) ⊎ In y xs
in_cons x y xs p = go p.0 p.1 p.2
  where
    go : (i : ℕ) → i < length (x ∷ xs) → get_or (x ∷ xs) i 0 ≡ y → (x ≡ y) ⊎ In y xs
    go zero l e = inl e
    go (suc i) l e = inr (i, omega arith, e)

-- nothing stands in the empty list
pub in_none : (x : ℕ) → In x [] → ⊥
in_none x p = let h = p.1 in omega arith

-- the numbers of a list stand in it in ascending order
pub in_ascending : (xs : List ℕ) (x : ℕ) → In x xs → In x (ascending xs)
in_ascending xs x p = holds_in (ascending xs) x (ascending_holds xs x ∙ in_holds xs x p)

-- and nothing else
pub in_ascending_from : (xs : List ℕ) (x : ℕ) → In x (ascending xs) → In x xs
in_ascending_from xs x p = holds_in xs x (sym (ascending_holds xs x) ∙ in_holds (ascending xs) x p)

-- a list in ascending order ascends
pub ascending_ascends : (xs : List ℕ) → Ascends (ascending xs)
ascending_ascends xs i l = rising_places (ascending xs) (ascending_rising xs) i (suc i) (omega arith) l

-- in a list that ascends from place to place, a number at a later place is larger
ascends_places : (xs : List ℕ) → Ascends xs → (i j : ℕ) → i < j → j < length xs → get_or xs i 0 < get_or xs j 0
ascends_places xs h i zero l m = absurd (omega arith)
ascends_places xs h i (suc j) l m =
    elim (cases_eq i j) [
      | inl e ↦ subst (λ k. get_or xs k 0 < get_or xs (suc j) 0) (sym e) (h j m)
      | inr d ↦ let before = ascends_places xs h i j (omega (arith, d)) (omega arith) in let step = h j m in omega arith
    ]

-- lists that have the same numbers hold the same
same_holds : (xs ys : List ℕ) → ((z : ℕ) → In z xs → In z ys) → ((z : ℕ) → In z ys → In z xs) → (w : ℕ) → holds xs w ≡ holds ys w
same_holds xs ys f g w =
    elim (cases_Bool (holds xs w)) [
      | inl t ↦ t ∙ sym (in_holds ys w (f w (holds_in xs w t)))
      | inr n ↦ elim (cases_Bool (holds ys w)) [
        | inl t ↦ absurd (both_ways (holds xs w) n (in_holds xs w (g w (holds_in ys w t))))
        | inr m ↦ n ∙ sym m
      ]
    ]

-- two lists that ascend and have the same numbers are equal
pub ascends_same : (xs ys : List ℕ) → Ascends xs → Ascends ys → ((z : ℕ) → In z xs → In z ys) → ((z : ℕ) → In z ys → In z xs) → xs ≡ ys
ascends_same xs ys hx hy f g =
    rising_same xs ys (places_rising xs (ascends_places xs hx)) (places_rising ys (ascends_places ys hy)) (same_holds xs ys f g)

-- of two lists with the same numbers the ascending orders are equal
pub ascending_same : (xs ys : List ℕ) → ((z : ℕ) → In z xs → In z ys) → ((z : ℕ) → In z ys → In z xs) → ascending xs ≡ ascending ys
ascending_same xs ys f g =
    rising_same (ascending xs) (ascending ys) (ascending_rising xs) (ascending_rising ys)
    (λ w. ascending_holds xs w ∙ same_holds xs ys f g w ∙ sym (ascending_holds ys w))

-- how many of two lists, one after the other
pub how_many_append : (p : ℕ → Bool) (xs ys : List ℕ) → how_many p (xs ++ ys) ≡ how_many p xs + how_many p ys
how_many_append p [] ys = sym (zero-add (how_many p ys))
how_many_append p (x ∷ xs) ys = omega (arith, how_many_append p xs ys)

-- how many of a mapped list
pub how_many_map : (p : ℕ → Bool) (f : ℕ → ℕ) (xs : List ℕ) → how_many p (map f xs) ≡ how_many (λ x. p (f x)) xs
how_many_map p f [] = refl
how_many_map p f (x ∷ xs) = ap (λ k. cond (p (f x)) 1 0 + k) (how_many_map p f xs)

-- two tests that agree on the numbers of a list
pub how_many_same : (p q : ℕ → Bool) (xs : List ℕ) → ((x : ℕ) → In x xs → p x ≡ q x) → how_many p xs ≡ how_many q xs
how_many_same p q [] h = refl
how_many_same p q (x ∷ xs) h =
    let e = h x (in_here x xs) in
    let r = how_many_same p q xs (λ y i. h y (in_later x y xs i)) in
    cc

-- a test that no number passes
pub how_many_none : (p : ℕ → Bool) (xs : List ℕ) → ((x : ℕ) → In x xs → p x ≡ false) → how_many p xs ≡ 0
how_many_none p [] h = refl
how_many_none p (x ∷ xs) h =
    let e = h x (in_here x xs) in
    let r = how_many_none p xs (λ y i. h y (in_later x y xs i)) in
    omega (arith, cond-false {A = ℕ} (p x) 1 0 e)

-- a number that does not stand in a list
pub how_many_absent : (x : ℕ) (xs : List ℕ) → (In x xs → ⊥) → how_many (eqb x) xs ≡ 0
how_many_absent x xs n = how_many_none (eqb x) xs (λ y p. ne_eqb x y (λ e. n (subst (λ v. In v xs) (sym e) p)))

-- a map that keeps x apart from the other numbers of a list
pub how_many_moved : (f : ℕ → ℕ) (x : ℕ) (xs : List ℕ) → ((y : ℕ) → In y xs → f x ≡ f y → x ≡ y) → how_many (eqb (f x)) (map f xs) ≡ how_many (eqb x) xs
how_many_moved f x xs h =
    how_many_map (eqb (f x)) f xs
    ∙ how_many_same (λ y. eqb (f x) (f y)) (eqb x) xs
    (λ y p. same_from_decides (eqb (f x) (f y)) (eqb x y) (Decides-like (eqb (f x) (f y)) (h y p) (ap f) (Decides-eqb (f x) (f y))) (Decides-eqb x y))

-- a test that every number passes
pub how_many_all : (xs : List ℕ) → how_many (λ x. true) xs ≡ length xs
how_many_all [] = refl
how_many_all (x ∷ xs) = omega (arith, how_many_all xs)

-- at most all numbers pass
pub how_many_most : (p : ℕ → Bool) (xs : List ℕ) → how_many p xs ≤ length xs
how_many_most p [] = omega arith
how_many_most p (x ∷ xs) = let h = how_many_most p xs in cond_both (p x) 1 0 (λ k. k + how_many p xs ≤ suc (length xs)) (λ e. omega arith) (λ e. omega arith)

-- of k lists with m each: k·m
pub how_many_each : (p : ℕ → Bool) (m k : ℕ) (f : ℕ → List ℕ) → ((c : ℕ) → c < k → how_many p (f c) ≡ m) → how_many p (each_below k f) ≡ k * m
how_many_each p m zero f h = sym (zero-mul m)
how_many_each p m (suc k) f h =
    omega (arith, how_many_append p (each_below k f) (f k), how_many_each p m k f (λ c l. h c (omega arith)), h k (omega arith), suc-mul k m)

-- of k lists that have none but for one
pub how_many_one : (p : ℕ → Bool) (k d : ℕ) (f : ℕ → List ℕ) → d < k → ((c : ℕ) → c < k → (c ≡ d → ⊥) → how_many p (f c) ≡ 0) → how_many p (each_below k f) ≡ how_many p (f d)
how_many_one p zero d f l h = absurd (omega arith)
how_many_one p (suc k) d f l h =
    let a = how_many_append p (each_below k f) (f k) in
    elim (cases_eq d k) [
      | inl e ↦
          let z = how_many_each p 0 k f (λ c lc. h c (omega arith) (λ q. omega arith)) in
          let s : how_many p (f k) ≡ how_many p (f d) = ap (λ c. how_many p (f c)) (sym e) in
          omega (arith, mul-zero k)
      | inr n ↦
          let z = h k (omega arith) (λ q. n (sym q)) in
          let r = how_many_one p k d f (omega (arith, n)) (λ c lc. h c (omega arith)) in
          omega arith
    ]

-- a number stands once in a list in which no number stands twice
pub distinct_once : (xs : List ℕ) (x : ℕ) → Distinct xs → In x xs → how_many (eqb x) xs ≡ 1
distinct_once [] x d p = absurd (in_none x p)
distinct_once (y ∷ ys) x d p = elim (cases_eq x y) [
  | inl e ↦
      let none = how_many_absent x ys (λ q. let l = q.1 in let z = d 0 (suc q.0) (omega arith) (omega arith) (sym e ∙ sym q.2) in omega arith) in
      omega (arith, cond-true {A = ℕ} (eqb x y) 1 0 (eq-eqb x y e))
  | inr n ↦
      let q : In x ys = elim (in_cons y x ys p) [ inl e ↦ absurd (n (sym e)) | inr q ↦ q ] in
      let rest : Distinct ys = λ i j li lj e. let k = d (suc i) (suc j) (omega arith) (omega arith) e in omega arith in
      omega (arith, cond-false {A = ℕ} (eqb x y) 1 0 (ne_eqb x y n), distinct_once ys x rest q)
]

-- no number stands twice in a list that is put in ascending order
ascending_distinct : (xs : List ℕ) → Distinct (ascending xs)
ascending_distinct xs i j li lj e =
    let places = rising_places (ascending xs) (ascending_rising xs) in
    elim (cases_order i j) [
      | inl s ↦ s
      | inr (inl l) ↦ absurd (let less = places i j l lj in omega arith)
      | inr (inr l) ↦ absurd (let less = places j i l li in omega arith)
    ]

-- so each of its numbers stands there once
pub ascending_once : (xs : List ℕ) (x : ℕ) → In x xs → how_many (eqb x) (ascending xs) ≡ 1
ascending_once xs x p = distinct_once (ascending xs) x (ascending_distinct xs) (in_ascending xs x p)

-- how often the numbers of the second list that pass stand in the first
abbrev often : (ℕ → Bool) → List ℕ → List ℕ → ℕ
often p xs [] = 0
often p xs (y ∷ ys) = cond (p y) (how_many (eqb y) xs) 0 + often p xs ys

-- none in the empty list
often_none : (p : ℕ → Bool) (ys : List ℕ) → often p [] ys ≡ 0
often_none p [] = refl
often_none p (y ∷ ys) = cond_both (p y) 0 0 (λ k. k + often p [] ys ≡ 0) (λ e. omega (arith, often_none p ys)) (λ e. omega (arith, often_none p ys))

-- a choice between a number and 0 adds up
cond_add : (b : Bool) (x y : ℕ) → cond b (x + y) 0 ≡ cond b x 0 + cond b y 0
cond_add true x y = refl
cond_add false x y = refl

-- counting y where it is x, if y passes, or where x is y, if x passes
often_turn : (p : ℕ → Bool) (x y : ℕ) → ◌≡◌ {A = ℕ} (cond (p y) (cond (eqb y x) 1 0) 0) (cond (p x) (cond (eqb x y) 1 0) 0)
often_turn p x y = elim (cases_eq x y) [
  | inl e ↦ subst (λ z. ◌≡◌ {A = ℕ} (cond (p z) (cond (eqb z x) 1 0) 0) (cond (p x) (cond (eqb x z) 1 0) 0)) e refl
  | inr n ↦ rw (ne_eqb x y n, ne_eqb y x (λ e. n (sym e))) (none (p x) (p y))
]
  where
    none : (a b : Bool) → ◌≡◌ {A = ℕ} (cond b 0 0) (cond a 0 0)
    none a b = grind (arith, nat_tests)

-- one more number in the first list
often_more : (p : ℕ → Bool) (x : ℕ) (xs ys : List ℕ) → often p (x ∷ xs) ys ≡ cond (p x) (how_many (eqb x) ys) 0 + often p xs ys
often_more p x xs [] = cond_both (p x) 0 0 (λ k. 0 ≡ k + 0) (λ e. omega arith) (λ e. omega arith)
often_more p x xs (y ∷ ys) =
    omega (
      arith,
      cond_add (p y) (cond (eqb y x) 1 0) (how_many (eqb y) xs),
      cond_add (p x) (cond (eqb x y) 1 0) (how_many (eqb x) ys),
      often_turn p x y,
      often_more p x xs ys,
    )

-- all that pass in the first list, if each of its numbers stands once in the second
often_all : (p : ℕ → Bool) (xs ys : List ℕ) → ((x : ℕ) → In x xs → how_many (eqb x) ys ≡ 1) → often p xs ys ≡ how_many p xs
often_all p [] ys h = often_none p ys
often_all p (x ∷ xs) ys h =
    omega (arith, often_more p x xs ys, ap (λ k. cond (p x) k 0) (h x (in_here x xs)), often_all p xs ys (λ z q. h z (in_later x z xs q)))

-- m for each number of the second list that passes, if each stands m times in the first
often_times : (p : ℕ → Bool) (m : ℕ) (xs ys : List ℕ) → ((y : ℕ) → In y ys → how_many (eqb y) xs ≡ m) → often p xs ys ≡ m * how_many p ys
often_times p m xs [] h = sym (mul-zero m)
often_times p m xs (y ∷ ys) h =
    let r = often_times p m xs ys (λ z q. h z (in_later y z ys q)) in
    let e : cond (p y) (how_many (eqb y) xs) 0 ≡ m * cond (p y) 1 0 = ap (λ k. cond (p y) k 0) (h y (in_here y ys)) ∙ scaled (p y) in
    omega (arith, mul-add m (cond (p y) 1 0) (how_many p ys))
  where
    scaled : (b : Bool) → cond b m 0 ≡ m * cond b 1 0
    scaled true = sym (mul-one m)
    scaled false = sym (mul-zero m)

-- where each number of a list stands m times in it, as many pass as m times those of its ascending order
pub how_many_times : (p : ℕ → Bool) (m : ℕ) (xs : List ℕ) → ((x : ℕ) → In x xs → how_many (eqb x) xs ≡ m) → how_many p xs ≡ m * how_many p (ascending xs)
how_many_times p m xs h =
    sym (often_all p xs (ascending xs) (ascending_once xs))
    ∙ often_times p m xs (ascending xs) (λ y q. h y (in_ascending_from xs y q))
