-- Ascending lists as sets: what they hold, and when two are equal; what a list generates, as such a set.
use Rattle.std.proofs.Common.{◌≡◌, ℕ, zero, suc, ◌<◌, true, false, cond, eqb, ltb, ◌⊎◌, List, [], ◌∷◌, length, get_or, Decides, sym, refl, ap, ◌∙◌, subst, inl, inr, arith}
use Rattle.std.proofs.lemmas.Bool.{cases_Bool, cases_eq, eqb-false, ltb-true, ltb-false, both_ways, cond_both}
use Rattle.std.proofs.lemmas.Bool.Decides.{nat_tests, same_from_decides, Decides-like}
use Rattle.levels.specs.Arithmetic.{Arithmetic, Lawful}
use Rattle.levels.specs.Generated.{Generates, SameWords, combinations, insert, ascending, generated, holds}
use Rattle.levels.proofs.Places.{In}
use Rattle.levels.proofs.Space.{vector_space}
use Rattle.levels.proofs.Any.{any_combination, any_generated}

-- a list holds its first number
pub holds_here : (x : ℕ) (xs : List ℕ) → holds (x ∷ xs) x ≡ true
holds_here x xs = grind (arith, nat_tests)

-- and the numbers behind
pub holds_there : (x : ℕ) (xs : List ℕ) (w : ℕ) → holds xs w ≡ true → holds (x ∷ xs) w ≡ true
holds_there x xs w h = grind (arith, nat_tests)

-- and no other
pub holds_split : (x : ℕ) (xs : List ℕ) (w : ℕ) → holds (x ∷ xs) w ≡ true → (x ≡ w) ⊎ (holds xs w ≡ true)
holds_split x xs w h = elim (cases_eq x w) [ inl e ↦ inl e | inr d ↦ inr (grind (arith, nat_tests)) ]

-- a number that a list holds stands at a place of it
pub holds_in : (xs : List ℕ) (w : ℕ) → holds xs w ≡ true → In w xs
holds_in [] w h = absurd (both_ways false refl h)
holds_in (x ∷ xs) w h = elim (holds_split x xs w h) [
  | inl e ↦ (0, omega arith, e)
  | inr t ↦ let p = holds_in xs w t in let l = p.1 in (suc p.0, omega arith, p.2)
]

-- a list holds the number at each of its places
pub holds_at : (xs : List ℕ) (i : ℕ) → i < length xs → holds xs (get_or xs i 0) ≡ true
holds_at [] i l = absurd (omega arith)
holds_at (x ∷ xs) zero l = holds_here x xs
holds_at (x ∷ xs) (suc i) l = holds_there x xs (get_or xs i 0) (holds_at xs i (omega arith))

-- a list holds what stands at a place of it
pub in_holds : (xs : List ℕ) (w : ℕ) → In w xs → holds xs w ≡ true
in_holds xs w p = subst (λ v. holds xs v ≡ true) p.2 (holds_at xs p.0 p.1)

-- every number of the list is above x
abbrev pub Above : ℕ → List ℕ → Type 0
Above x xs = (w : ℕ) → holds xs w ≡ true → x < w

-- a strictly ascending list
abbrev pub Rising : List ℕ → Type 0
Rising [] = Unit {0}
Rising (x ∷ xs) = Above x xs × Rising xs

-- in a strictly ascending list, a number at a later place is larger
pub rising_places : (xs : List ℕ) → Rising xs → (i j : ℕ) → i < j → j < length xs → get_or xs i 0 < get_or xs j 0
rising_places [] r i j l m = absurd (omega arith)
rising_places (x ∷ xs) r i zero l m = absurd (omega arith)
rising_places (x ∷ xs) r zero (suc j) l m = r.0 (get_or xs j 0) (holds_at xs j (omega arith))
rising_places (x ∷ xs) r (suc i) (suc j) l m = rising_places xs r.1 i j (omega arith) (omega arith)

-- and a list is strictly ascending where every number at a later place is larger
pub places_rising : (xs : List ℕ) → ((i j : ℕ) → i < j → j < length xs → get_or xs i 0 < get_or xs j 0) → Rising xs
places_rising [] h = tt
places_rising (x ∷ xs) h = (
  (λ w t. let p = holds_in xs w t in let l = p.1 in subst (λ v. x < v) p.2 (h 0 (suc p.0) (omega arith) (omega arith))),
  places_rising xs (λ i j l m. h (suc i) (suc j) (omega arith) (omega arith)),
)

-- insert adds one number
pub insert_holds : (x : ℕ) (xs : List ℕ) (w : ℕ) → holds (insert x xs) w ≡ holds (x ∷ xs) w
insert_holds x [] w = refl
insert_holds x (y ∷ ys) w = let h = insert_holds x ys w in grind (arith, nat_tests)

-- a number above x and a list above x make a list above x
above_insert : (x y : ℕ) (ys : List ℕ) → x < y → Above x ys → Above x (insert y ys)
above_insert x y ys l a w h = elim (holds_split y ys w (sym (insert_holds y ys w) ∙ h)) [
  | inl e ↦ omega arith
  | inr t ↦ a w t
]

-- insert keeps a list strictly ascending
pub insert_rising : (x : ℕ) (xs : List ℕ) → Rising xs → Rising (insert x xs)
insert_rising x [] r = ((λ w h. absurd (both_ways false refl h)), tt)
insert_rising x (y ∷ ys) r =
    cond_both (ltb x y) (x ∷ y ∷ ys) (cond (eqb x y) (y ∷ ys) (y ∷ insert x ys)) Rising
    (λ t. let l = ltb-true x y t in
    ((λ w h. elim (holds_split y ys w h) [ inl e ↦ omega arith | inr m ↦ let k = r.0 w m in omega arith ]), r))
    (λ f. let g = ltb-false x y f in
    cond_both (eqb x y) (y ∷ ys) (y ∷ insert x ys) Rising
    (λ _. r)
    (λ d. (above_insert y x ys (let e = eqb-false x y d in omega (arith, e)) r.0, insert_rising x ys r.1)))

-- the ascending list of a list is strictly ascending
pub ascending_rising : (xs : List ℕ) → Rising (ascending xs)
ascending_rising [] = tt
ascending_rising (x ∷ xs) = insert_rising x (ascending xs) (ascending_rising xs)

-- and holds what the list holds
pub ascending_holds : (xs : List ℕ) (w : ℕ) → holds (ascending xs) w ≡ holds xs w
ascending_holds [] w = refl
ascending_holds (x ∷ xs) w = insert_holds x (ascending xs) w ∙ ap (λ b. cond (eqb x w) true b) (ascending_holds xs w)

-- a list that holds nothing is empty
pub holds_none : (xs : List ℕ) → ((w : ℕ) → holds xs w ≡ false) → xs ≡ []
holds_none [] h = refl
holds_none (x ∷ xs) h = absurd (both_ways (holds (x ∷ xs) x) (h x) (holds_here x xs))

-- no number of a list above x is x
above_none : (x : ℕ) (xs : List ℕ) → Above x xs → holds xs x ≡ false
above_none x xs a = elim (cases_Bool (holds xs x)) [ inl t ↦ absurd (let l = a x t in omega arith) | inr f ↦ f ]

-- the first numbers of two strictly ascending lists that hold the same
same_first : (x : ℕ) (xs : List ℕ) (y : ℕ) (ys : List ℕ) → Above x xs → Above y ys → ((w : ℕ) → holds (x ∷ xs) w ≡ holds (y ∷ ys) w) → x ≡ y
same_first x xs y ys a b same =
    elim (holds_split y ys x (sym (same x) ∙ holds_here x xs)) [
      | inl e ↦ sym e
      | inr t ↦ elim (holds_split x xs y (same y ∙ holds_here y ys)) [
        | inl e ↦ e
        | inr u ↦ absurd (let l = b x t in let m = a y u in omega arith)
      ]
    ]

-- two strictly ascending lists that hold the same are equal
pub rising_same : (xs ys : List ℕ) → Rising xs → Rising ys → ((w : ℕ) → holds xs w ≡ holds ys w) → xs ≡ ys
rising_same [] [] r q same = refl
rising_same [] (y ∷ ys) r q same = sym (holds_none (y ∷ ys) (λ w. sym (same w)))
rising_same (x ∷ xs) [] r q same = holds_none (x ∷ xs) same
rising_same (x ∷ xs) (y ∷ ys) r q same =
    let e = same_first x xs y ys r.0 q.0 same in
    cc (e, rising_same xs ys r.1 q.1 (λ w. behind e w))
  where
    behind : x ≡ y → (w : ℕ) → holds xs w ≡ holds ys w
    behind e w =
        let s = same w in
        let a = above_none x xs r.0 in
        let b = above_none y ys q.0 in
        elim (cases_eq x w) [
          | inl d ↦ cc (ap (holds xs) d, ap (holds ys) d, ap (holds ys) e)
          | inr d ↦ grind (arith, nat_tests)
        ]

module _ (A : Arithmetic) (L : Lawful A) (n : ℕ) where
  -- the list of generated words holds exactly what is generated
  pub generated_holds : (ws : List ℕ) (w : ℕ) → Decides (holds (generated A n ws) w) (Generates A n ws w)
  generated_holds ws w =
      let e = ascending_holds (combinations A n ws) w in (
        (λ t. any_generated A L n (vector_space A L n) ws w (holds_in (combinations A n ws) w (sym e ∙ t))),
        (λ g. e ∙ in_holds (combinations A n ws) w (any_combination A L n (vector_space A L n) ws w g)),
      )

  -- it is strictly ascending
  pub generated_rising : (ws : List ℕ) → Rising (generated A n ws)
  generated_rising ws = ascending_rising (combinations A n ws)

  -- lists that generate the same words have one list of generated words
  pub generated_same : (us vs : List ℕ) → SameWords A n us vs → generated A n us ≡ generated A n vs
  generated_same us vs same =
      rising_same (generated A n us) (generated A n vs) (generated_rising us) (generated_rising vs)
      (λ w. same_from_decides (holds (generated A n us) w) (holds (generated A n vs) w)
      (generated_holds us w) (Decides-like (holds (generated A n vs) w) (same w).1 (same w).0 (generated_holds vs w)))
