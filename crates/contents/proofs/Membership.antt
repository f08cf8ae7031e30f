-- A word is among the generated words exactly if the list generates it. And what follows from the laws of levels.
use Rattle.std.proofs.Common.{◌≡◌, ℕ, zero, suc, ◌*◌, ◌^◌, ◌<◌, ◌≤◌, Bool, true, false, cond, eqb, ltb, List, [], ◌∷◌, length, get_or, Decides, sym, refl, ap, ◌∙◌, subst, inl, inr, mul-le-mul_right, arith}
use native.Mathlib.Nat.{pow-le-pow_left, pow-le-pow_right}
use Rattle.std.proofs.lemmas.Bool.{cases_Bool, cases_lt, cond-true, cond-false, cond_both, eq-eqb, eqb-true, false≢true, both_ways}
use Rattle.levels.specs.Arithmetic.{Arithmetic, Lawful}
use Rattle.levels.specs.Space.{Word}
use Rattle.levels.specs.Generated.{Generates, combinations, insert, ascending, generated, holds}
use Rattle.levels.proofs.Places.{In}
use Rattle.levels.proofs.Any.{any_zero, any_combination, any_generated}
use Rattle.levels.proofs.Digits.{word_legal}
use Rattle.levels.proofs.Space.{vector_space}

-- a test made twice is made once
twice : (b r : Bool) → cond b true r ≡ cond b true (cond b true r)
twice true r = refl
twice false r = refl

-- two tests in either order
swapped : (b d r : Bool) → cond b true (cond d true r) ≡ cond d true (cond b true r)
swapped true true r = refl
swapped true false r = refl
swapped false true r = refl
swapped false false r = refl

-- a number put into a list is in it
holds_insert : (x : ℕ) (ys : List ℕ) (w : ℕ) → holds (insert x ys) w ≡ holds (x ∷ ys) w
holds_insert x [] w = refl
holds_insert x (y ∷ ys) w = elim (cases_Bool (ltb x y)) [
  | inl t ↦ ap (λ us. holds us w) (cond-true (ltb x y) (x ∷ y ∷ ys) (cond (eqb x y) (y ∷ ys) (y ∷ insert x ys)) t)
  | inr f ↦ ap (λ us. holds us w) (cond-false (ltb x y) (x ∷ y ∷ ys) (cond (eqb x y) (y ∷ ys) (y ∷ insert x ys)) f)
      ∙ elim (cases_Bool (eqb x y)) [
        | inl t ↦ ap (λ us. holds us w) (cond-true (eqb x y) (y ∷ ys) (y ∷ insert x ys) t)
            ∙ twice (eqb y w) (holds ys w) ∙ ap (λ v. cond (eqb v w) true (holds (y ∷ ys) w)) (sym (eqb-true x y t))
        | inr g ↦ ap (λ us. holds us w) (cond-false (eqb x y) (y ∷ ys) (y ∷ insert x ys) g)
            ∙ ap (λ r. cond (eqb y w) true r) (holds_insert x ys w) ∙ swapped (eqb y w) (eqb x w) (holds ys w)
      ]
]

-- ascending order leaves the numbers of a list
holds_ascending : (xs : List ℕ) (w : ℕ) → holds (ascending xs) w ≡ holds xs w
holds_ascending [] w = refl
holds_ascending (x ∷ xs) w = holds_insert x (ascending xs) w ∙ ap (λ r. cond (eqb x w) true r) (holds_ascending xs w)

-- a number at a place of a list is in it
in_holds : (xs : List ℕ) (w i : ℕ) → i < length xs → get_or xs i 0 ≡ w → holds xs w ≡ true
in_holds [] w i l e = absurd (omega arith)
in_holds (x ∷ xs) w zero l e = cond-true (eqb x w) true (holds xs w) (eq-eqb x w e)
in_holds (x ∷ xs) w (suc i) l e = elim (cases_Bool (eqb x w)) [
  | inl t ↦ cond-true (eqb x w) true (holds xs w) t
  | inr f ↦ cond-false (eqb x w) true (holds xs w) f ∙ in_holds xs w i (omega arith) e
]

-- a number in a list stands at a place
holds_in : (xs : List ℕ) (w : ℕ) → holds xs w ≡ true → In w xs
holds_in [] w e = absurd (false≢true e)
holds_in (x ∷ xs) w e = elim (cases_Bool (eqb x w)) [
  | inl t ↦ (0, omega arith, eqb-true x w t)
  | inr f ↦ let p = holds_in xs w (sym (cond-false (eqb x w) true (holds xs w) f) ∙ e) in (suc p.0, omega (arith, p.1), p.2)
]

module _ (A : Arithmetic) (L : Lawful A) where
  -- a word is among the generated words exactly if the list generates it
  pub holds_decides : (n : ℕ) (ws : List ℕ) (w : ℕ) → Decides (holds (generated A n ws) w) (Generates A n ws w)
  holds_decides n ws w = (
    (λ e. any_generated A L n (vector_space A L n) ws w (holds_in (combinations A n ws) w (sym (holds_ascending (combinations A n ws) w) ∙ e))),
    (λ g.
        let p = any_combination A L n (vector_space A L n) ws w g in
        holds_ascending (combinations A n ws) w ∙ in_holds (combinations A n ws) w p.0 p.1 p.2),
  )

  -- a word that is not among the generated ones is not generated
  pub not_generated : (n : ℕ) (ws : List ℕ) (w : ℕ) → holds (generated A n ws) w ≡ false → Generates A n ws w → ⊥
  not_generated n ws w f g = both_ways (holds (generated A n ws) w) f ((holds_decides n ws w).1 g)

  -- a word that is not generated is not among the generated ones
  pub not_held : (n : ℕ) (ws : List ℕ) (w : ℕ) → (Generates A n ws w → ⊥) → holds (generated A n ws) w ≡ false
  not_held n ws w never = elim (cases_Bool (holds (generated A n ws) w)) [
    | inl t ↦ absurd (never ((holds_decides n ws w).0 t))
    | inr f ↦ f
  ]

  -- code 0 is always generated
  pub fresh_positive : (n : ℕ) (ws : List ℕ) (w : ℕ) → (Generates A n ws w → ⊥) → 0 < w
  fresh_positive n ws zero never = absurd (never (any_zero A L n (vector_space A L n) ws))
  fresh_positive n ws (suc w) never = omega arith

  -- no plan has more than 16 words
  pub limit_small : A.limit ≤ 16
  limit_small = elim (cases_lt 16 A.limit) [
    | inl l ↦
        let levels : 2 ≤ A.s = L.field.two_levels in
        let above : 0 < A.s = omega arith in
        let base : 2 ^ 17 ≤ A.s ^ 17 = pow-le-pow_left levels 17 in
        let more : A.s ^ 17 ≤ A.s ^ A.limit = pow-le-pow_right above l in
        absurd (omega (arith, L.few))
    | inr l ↦ l
  ]

  -- a digit takes at most two bits
  pub bits_small : A.bits ≤ 2
  bits_small = subst (λ b. b ≤ 2) (sym L.width) (cond_both (eqb A.s 2) 1 2 (λ b. b ≤ 2) (λ e. omega arith) (λ e. omega arith))

  -- a legal code fits 64 bits
  pub word_fits : (n w : ℕ) → Word A n w → w < 2 ^ 64
  word_fits n w h =
      let p = word_legal A n w h in
      let wide : A.bits * n ≤ 64 = omega (arith, mul-le-mul_right n bits_small, p.high) in
      let above : 0 < 2 = omega arith in
      let more : 2 ^ (A.bits * n) ≤ 2 ^ 64 = pow-le-pow_right above wide in
      omega (arith, p.below)
