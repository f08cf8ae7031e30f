-- The words of one set that are not in another, and the best word of an ascending list.
use Rattle.std.proofs.Common.{◌≡◌, ℕ, ◌≤◌, Bool, true, false, cond, not, ◌&&◌, ◌⊎◌, List, [], ◌∷◌, Some, None, Decides, Option, sym, refl, ap, ◌∙◌, subst, inl, inr, arith}
use Rattle.std.proofs.lemmas.Bool.{cases_Bool, cases_eq, both_ways, cond_both, cond-true, cond-false, and_parts}
use Rattle.std.proofs.lemmas.Bool.Decides.{nat_tests, Decides-at, Decides-and, Decides-not}
use Rattle.levels.specs.Arithmetic.{Arithmetic, Lawful}
use Rattle.levels.specs.Generated.{Generates, generated, holds}
use Rattle.levels.proofs.Sets.{Above, Rising, holds_here, holds_there, holds_split, generated_holds, generated_rising}
use Rattle.choice.specs.Choice.{beyond, best}

-- what is beyond the known: what the first list holds and the second does not
pub beyond_holds : (xs known : List ℕ) (w : ℕ) → holds (beyond xs known) w ≡ (holds xs w && not (holds known w))
beyond_holds [] known w = refl
beyond_holds (x ∷ xs) known w =
    let h = beyond_holds xs known w in
    elim (cases_eq x w) [
      | inl e ↦ let k = ap (holds known) e in
          elim (cases_Bool (holds known x)) [ inl t ↦ rw t (grind (arith, nat_tests)) | inr f ↦ rw f (grind (arith, nat_tests)) ]
      | inr d ↦ elim (cases_Bool (holds known x)) [ inl t ↦ rw t (grind (arith, nat_tests)) | inr f ↦ rw f (grind (arith, nat_tests)) ]
    ]

-- and stays strictly ascending
pub beyond_rising : (xs known : List ℕ) → Rising xs → Rising (beyond xs known)
beyond_rising [] known r = tt
beyond_rising (x ∷ xs) known r =
    cond_both (holds known x) (beyond xs known) (x ∷ beyond xs known) Rising
    (λ _. beyond_rising xs known r.1)
    (λ _. ((λ w h. r.0 w (and_parts (holds xs w) (not (holds known w)) (sym (beyond_holds xs known w) ∙ h)).0), beyond_rising xs known r.1))

-- an option is None or Some
pub cases_option : (o : Option ℕ) → (o ≡ None) ⊎ ((r : ℕ) × (o ≡ Some r))
cases_option None = inl refl
cases_option (Some r) = inr (r, refl)

-- and never both
never_both : (r : ℕ) → None ≡ Some r → ⊥
never_both r e = let z : ◌≡◌ {A = ℕ} 0 1 = cc in omega arith

-- any two numbers of the list compare
abbrev pub TotalOn : (ℕ → ℕ → Bool) → List ℕ → Type 0
TotalOn at_least xs = (a b : ℕ) → holds xs a ≡ true → holds xs b ≡ true → (at_least a b ≡ true) ⊎ (at_least b a ≡ true)

-- at least as good is transitive on the numbers of the list
abbrev pub TransitiveOn : (ℕ → ℕ → Bool) → List ℕ → Type 0
TransitiveOn at_least xs = (a b c : ℕ) → holds xs a ≡ true → holds xs b ≡ true → holds xs c ≡ true → at_least a b ≡ true → at_least b c ≡ true → at_least a c ≡ true

-- r is in the list, at least as good as each number of it, and the smallest of those that are as good
pub record IsBest (at_least : ℕ → ℕ → Bool) (xs : List ℕ) (r : ℕ) : Type 0 where
  pub member : holds xs r ≡ true
  pub good : (y : ℕ) → holds xs y ≡ true → at_least r y ≡ true
  pub smallest : (y : ℕ) → holds xs y ≡ true → at_least y r ≡ true → r ≤ y

module _ (at_least : ℕ → ℕ → Bool) where
  -- the best word of a list is its first number or the best of the others
  best_more : (x : ℕ) (xs : List ℕ) (y : ℕ) → best at_least xs ≡ Some y → best at_least (x ∷ xs) ≡ cond (at_least x y) (Some x) (Some y)
  best_more x xs y e = rw e

  -- the best word of a list is in it
  pub best_member : (xs : List ℕ) (r : ℕ) → best at_least xs ≡ Some r → holds xs r ≡ true
  best_member [] r e = absurd (never_both r e)
  best_member (x ∷ xs) r e = elim (cases_option (best at_least xs)) [
    | inl n ↦ let f : Some x ≡ Some r = rw n at e in subst (λ w. holds (x ∷ xs) w ≡ true) (cc) (holds_here x xs)
    | inr s ↦ elim (cases_Bool (at_least x s.0)) [
      | inl t ↦ let f : Some x ≡ Some r = rw (s.1, t) at e in subst (λ w. holds (x ∷ xs) w ≡ true) (cc) (holds_here x xs)
      | inr u ↦ let f : Some s.0 ≡ Some r = rw (s.1, u) at e in holds_there x xs r (best_member xs r (s.1 ∙ f))
    ]
  ]

  -- only of the empty list there is no best word
  pub best_none : (xs : List ℕ) → best at_least xs ≡ None → xs ≡ []
  best_none [] e = refl
  best_none (x ∷ xs) e = elim (cases_option (best at_least xs)) [
    | inl n ↦ absurd (never_both x (sym (rw n at e)))
    | inr s ↦ elim (cases_Bool (at_least x s.0)) [
      | inl t ↦ absurd (never_both x (sym (rw (s.1, t) at e)))
      | inr u ↦ absurd (never_both s.0 (sym (rw (s.1, u) at e)))
    ]
  ]

  -- a first number that is at least as good as each of the others is the best
  first_best : (x : ℕ) (xs : List ℕ) → Above x xs → TotalOn at_least (x ∷ xs) → ((w : ℕ) → holds xs w ≡ true → at_least x w ≡ true) → IsBest at_least (x ∷ xs) x
  first_best x xs above total h = record {
    member = holds_here x xs;
    good = λ w m. elim (holds_split x xs w m) [
      | inl e ↦ subst (λ v. at_least x v ≡ true) e (elim (total x x (holds_here x xs) (holds_here x xs)) [ inl t ↦ t | inr t ↦ t ])
      | inr k ↦ h w k
    ];
    smallest = λ w m t. elim (holds_split x xs w m) [ inl e ↦ omega arith | inr k ↦ let l = above w k in omega arith ];
  }

  -- the best of the others stays the best where the first is not as good
  later_best : (x : ℕ) (xs : List ℕ) (y : ℕ) → TotalOn at_least (x ∷ xs) → IsBest at_least xs y → at_least x y ≡ false → IsBest at_least (x ∷ xs) y
  later_best x xs y total b f = record {
    member = holds_there x xs y b.member;
    good = λ w m. elim (holds_split x xs w m) [
      | inl e ↦ elim (total x y (holds_here x xs) (holds_there x xs y b.member)) [
        | inl t ↦ absurd (both_ways (at_least x y) f t)
        | inr t ↦ subst (λ v. at_least y v ≡ true) e t
      ]
      | inr k ↦ b.good w k
    ];
    smallest = λ w m t. elim (holds_split x xs w m) [
      | inl e ↦ absurd (both_ways (at_least x y) f (subst (λ v. at_least v y ≡ true) (sym e) t))
      | inr k ↦ b.smallest w k t
    ];
  }

  -- an ascending list with a number has a best word
  best_made : (x : ℕ) (xs : List ℕ) → Rising (x ∷ xs) → TotalOn at_least (x ∷ xs) → TransitiveOn at_least (x ∷ xs) → (r : ℕ) × (best at_least (x ∷ xs) ≡ Some r) × IsBest at_least (x ∷ xs) r
  best_made x [] ri to tr = (x, refl, first_best x [] ri.0 to (λ w h. absurd (both_ways false refl h)))
  best_made x (z ∷ zs) ri to tr =
      let xs = z ∷ zs in
      let b = best_made z zs ri.1
      (λ a b ha hb. to a b (holds_there x xs a ha) (holds_there x xs b hb))
      (λ a b c ha hb hc. tr a b c (holds_there x xs a ha) (holds_there x xs b hb) (holds_there x xs c hc)) in
      let y = b.0 in
      let more = best_more x xs y b.1 in
      elim (cases_Bool (at_least x y)) [
        | inl t ↦ (
          x,
          more ∙ cond-true (at_least x y) (Some x) (Some y) t,
          first_best x xs ri.0 to
              (λ w h. tr x y w (holds_here x xs) (holds_there x xs y b.2.member) (holds_there x xs w h) t (b.2.good w h)),
        )
        | inr f ↦ (y, more ∙ cond-false (at_least x y) (Some x) (Some y) f, later_best x xs y to b.2 f)
      ]

  -- the best word of an ascending list is what it should be
  pub best_some : (xs : List ℕ) → Rising xs → TotalOn at_least xs → TransitiveOn at_least xs → (r : ℕ) → best at_least xs ≡ Some r → IsBest at_least xs r
  best_some [] ri to tr r e = absurd (never_both r e)
  best_some (x ∷ xs) ri to tr r e =
      let b = best_made x xs ri to tr in
      let f : Some b.0 ≡ Some r = sym b.1 ∙ e in
      subst (IsBest at_least (x ∷ xs)) (cc) b.2

  -- and a number that is what the best word should be is the best word
  pub best_is : (xs : List ℕ) → Rising xs → TotalOn at_least xs → TransitiveOn at_least xs → (r : ℕ) → IsBest at_least xs r → best at_least xs ≡ Some r
  best_is [] ri to tr r b = absurd (both_ways false refl b.member)
  best_is (x ∷ xs) ri to tr r b =
      let q = best_made x xs ri to tr in
      let l = b.smallest q.0 q.2.member (q.2.good r b.member) in
      let g = q.2.smallest r b.member (b.good q.0 q.2.member) in
      let e : q.0 ≡ r = omega arith in
      q.1 ∙ ap Some e

-- relations that agree on the numbers of a list have one best word of it
pub best_same : (f g : ℕ → ℕ → Bool) (xs : List ℕ) → ((a b : ℕ) → holds xs a ≡ true → holds xs b ≡ true → f a b ≡ g a b) → best f xs ≡ best g xs
best_same f g [] same = refl
best_same f g (x ∷ xs) same =
    let h = best_same f g xs (λ a b ha hb. same a b (holds_there x xs a ha) (holds_there x xs b hb)) in
    elim (cases_option (best g xs)) [
      | inl n ↦ rw (h, n)
      | inr s ↦ rw (h, s.1, same x s.0 (holds_here x xs) (holds_there x xs s.0 (best_member g xs s.0 s.1)))
    ]

module _ (A : Arithmetic) (L : Lawful A) (n : ℕ) where
  -- the words beyond the known: us generates them, and vs does not
  pub fresh_holds : (us vs : List ℕ) (w : ℕ) → Decides (holds (beyond (generated A n us) (generated A n vs)) w) (Generates A n us w × (Generates A n vs w → ⊥))
  fresh_holds us vs w =
      Decides-at (holds (beyond (generated A n us) (generated A n vs)) w) (holds (generated A n us) w && not (holds (generated A n vs) w))
      (beyond_holds (generated A n us) (generated A n vs) w)
      (Decides-and (holds (generated A n us) w) (not (holds (generated A n vs) w)) (generated_holds A L n us w)
      (Decides-not (holds (generated A n vs) w) (generated_holds A L n vs w)))

  -- they are strictly ascending
  pub fresh_rising : (us vs : List ℕ) → Rising (beyond (generated A n us) (generated A n vs))
  fresh_rising us vs = beyond_rising (generated A n us) (generated A n vs) (generated_rising A L n us)
