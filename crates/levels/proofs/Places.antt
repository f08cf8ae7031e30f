-- Numbers at the places of a list: of one list after another, of a map, and lists in which no number stands twice.
use Rattle.std.proofs.Common.{◌≡◌, ℕ, zero, suc, ◌+◌, ◌-◌, ◌*◌, ◌<◌, ◌⊎◌, List, [], ◌∷◌, ◌++◌, map, length, get_or, sym, refl, ap, ◌∙◌, inl, inr, suc-mul, zero-mul, arith, length-append}
use Rattle.std.proofs.lemmas.Bool.{cases_lt, cases_eq}
use Rattle.std.proofs.lemmas.List.{get_or_append_left, get_or-append_right, get_or-append-add, get_or-map, length-map}
use Rattle.levels.specs.Generated.{each_below}

-- x stands at a place of the list
abbrev pub In : ℕ → List ℕ → Type 0
In x xs = (i : ℕ) × (i < length xs) × (get_or xs i 0 ≡ x)

-- no number stands at two places
abbrev pub Distinct : List ℕ → Type 0
Distinct xs = (i j : ℕ) → i < length xs → j < length xs → get_or xs i 0 ≡ get_or xs j 0 → i ≡ j

-- what stands in the first list stands in both joined
pub in_left : (xs ys : List ℕ) (x : ℕ) → In x xs → In x (xs ++ ys)
in_left xs ys x p = let h = p.1 in (p.0, omega (arith, length-append xs ys), get_or_append_left xs ys 0 p.0 h ∙ p.2)

-- what stands in the second list stands in both joined
pub in_right : (xs ys : List ℕ) (x : ℕ) → In x ys → In x (xs ++ ys)
in_right xs ys x p =
    let h = p.1 in
    (length xs + p.0, omega (arith, length-append xs ys), get_or-append-add xs ys p.0 0 ∙ p.2)

-- what stands in two joined lists stands in one of them
pub in_append : (xs ys : List ℕ) (x : ℕ) → In x (xs ++ ys) → In x xs ⊎ In x ys
in_append xs ys x p =
    let i = p.0 in
    let h = p.1 in
    elim (cases_lt i (length xs)) [
      | inl l ↦ inl (i, l, sym (get_or_append_left xs ys 0 i l) ∙ p.2)
      | inr g ↦ inr (i - length xs, omega (arith, length-append xs ys), sym (get_or-append_right xs ys (length xs) i 0 refl g) ∙ p.2)
    ]

-- what a map makes of a number of the list
pub in_map : (f : ℕ → ℕ) (xs : List ℕ) (x : ℕ) → In x xs → In (f x) (map f xs)
in_map f xs x p = let h = p.1 in (p.0, omega (arith, length-map xs f), get_or-map f xs p.0 0 0 h ∙ ap f p.2)

-- a number of a mapped list comes from one of the list
pub in_map_from : (f : ℕ → ℕ) (xs : List ℕ) (y : ℕ) → In y (map f xs) → (x : ℕ) × In x xs × (y ≡ f x)
in_map_from f xs y p =
    let h = p.1 in
    let l : p.0 < length xs = omega (arith, length-map xs f) in
    (get_or xs p.0 0, (p.0, l, refl), sym p.2 ∙ get_or-map f xs p.0 0 0 l)

-- what stands in one of the lists f 0, f 1, .. stands in all joined
pub in_each : (k : ℕ) (f : ℕ → List ℕ) (c x : ℕ) → c < k → In x (f c) → In x (each_below k f)
in_each zero f c x l p = absurd (omega arith)
in_each (suc k) f c x l p = elim (cases_eq c k) [
  | inl e ↦ in_right (each_below k f) (f k) x (rw e at p)
  | inr d ↦ in_left (each_below k f) (f k) x (in_each k f c x (omega (arith, d)) p)
]

-- what stands in all joined stands in one of them
pub in_each_from : (k : ℕ) (f : ℕ → List ℕ) (x : ℕ) → In x (each_below k f) → (c : ℕ) × (c < k) × In x (f c)
in_each_from zero f x p = absurd (let h = p.1 in omega arith)
in_each_from (suc k) f x p = elim (in_append (each_below k f) (f k) x p) [
  | inl q ↦ let r = in_each_from k f x q in let h = r.1 in (r.0, omega arith, r.2)
  | inr q ↦ (k, omega arith, q)
]

-- a number stands in a list or not
pub in_or_not : (x : ℕ) (xs : List ℕ) → In x xs ⊎ (In x xs → ⊥)
in_or_not x [] = inr (λ p. let h = p.1 in omega arith)
in_or_not x (y ∷ ys) = elim (cases_eq y x) [
  | inl e ↦ inl (0, omega arith, e)
  | inr d ↦ elim (in_or_not x ys) [
    | inl p ↦ inl (let h = p.1 in (suc p.0, omega arith, p.2))
    | inr n ↦ inr (λ p. later n d p.0 p.1 p.2)
  ]
]
  where
    later : (In x ys → ⊥) → (y ≡ x → ⊥) → (i : ℕ) → i < length (y ∷ ys) → get_or (y ∷ ys) i 0 ≡ x → ⊥
    later n d zero l e = d e
    later n d (suc i) l e = n (i, omega arith, e)

-- k lists of m numbers each have k·m numbers
pub length_each : (k m : ℕ) (f : ℕ → List ℕ) → ((c : ℕ) → length (f c) ≡ m) → length (each_below k f) ≡ k * m
length_each zero m f h = sym (zero-mul m)
length_each (suc k) m f h =
    omega (arith, length-append (each_below k f) (f k), length_each k m f h, h k, suc-mul k m)

-- two lists without a common number
pub distinct_append : (xs ys : List ℕ) → Distinct xs → Distinct ys → ((x : ℕ) → In x xs → In x ys → ⊥) → Distinct (xs ++ ys)
distinct_append xs ys dx dy apart i j li lj e =
    let n = length-append xs ys in
    elim (cases_lt i (length xs)) [
      | inl a ↦ elim (cases_lt j (length xs)) [
        | inl b ↦ dx i j a b (cc (get_or_append_left xs ys 0 i a, get_or_append_left xs ys 0 j b))
        | inr b ↦ absurd (apart (get_or xs i 0) (i, a, refl)
            (j - length xs, omega arith, cc (get_or_append_left xs ys 0 i a, get_or-append_right xs ys (length xs) j 0 refl b)))
      ]
      | inr a ↦ elim (cases_lt j (length xs)) [
        | inl b ↦ absurd (apart (get_or xs j 0) (j, b, refl)
            (i - length xs, omega arith, cc (get_or_append_left xs ys 0 j b, get_or-append_right xs ys (length xs) i 0 refl a)))
        | inr b ↦
            let h = dy (i - length xs) (j - length xs) (omega arith) (omega arith)
            (cc (get_or-append_right xs ys (length xs) i 0 refl a, get_or-append_right xs ys (length xs) j 0 refl b)) in
            omega arith
      ]
    ]

-- a map that keeps numbers apart
pub distinct_map : (f : ℕ → ℕ) (xs : List ℕ) → Distinct xs → ((a b : ℕ) → In a xs → In b xs → f a ≡ f b → a ≡ b) → Distinct (map f xs)
distinct_map f xs d keeps i j li lj e =
    let n = length-map xs f in
    let a : i < length xs = omega arith in
    let b : j < length xs = omega arith in
    d i j a b (keeps (get_or xs i 0) (get_or xs j 0) (i, a, refl) (j, b, refl)
    (cc (get_or-map f xs i 0 0 a, get_or-map f xs j 0 0 b)))

-- lists one after the other, no two with a common number
pub distinct_each : (k : ℕ) (f : ℕ → List ℕ) → ((c : ℕ) → c < k → Distinct (f c)) → ((c d x : ℕ) → c < k → d < k → In x (f c) → In x (f d) → c ≡ d) → Distinct (each_below k f)
distinct_each zero f own apart = λ i j li lj e. absurd (omega arith)
distinct_each (suc k) f own apart =
    distinct_append (each_below k f) (f k)
    (distinct_each k f (λ c l. own c (omega arith)) (λ c d x lc ld. apart c d x (omega arith) (omega arith)))
    (own k (omega arith))
    (λ x p q. let r = in_each_from k f x p in let h = r.1 in
    let e = apart r.0 k x (omega arith) (omega arith) r.2 q in omega arith)
