-- The laws of the preferences that are made of others.
use Rattle.std.specs.Prelude.{◌≡◌, Bool, true, false, not, ◌&&◌, ◌||◌, refl}
use Rattle.std.proofs.Common.{inl, inr}
use Rattle.std.proofs.lemmas.Bool.{cases_Bool, and_parts, and_from, both_ways}
use Rattle.levels.specs.Arithmetic.{Arithmetic}
use Rattle.preferences.specs.Relation.{Relation, PreferenceLaws}
use Rattle.preferences.specs.Built.{reversed, first_then_second}

-- a preference turned round has the laws
pub reversed_laws : (A : Arithmetic) (good : Relation) → PreferenceLaws A good → PreferenceLaws A (reversed good)
reversed_laws A good laws = record {
  total = λ n base f a b wa wb. laws.total n base f b a wb wa;
  transitive = λ n base f a b c wa wb wc ab bc. laws.transitive n base f c b a wc wb wa bc ab;
  same_base = λ n us vs fu fv same a b wa wb. laws.same_base n us vs fu fv same b a wb wa;
}

-- what "p, and not q unless r" says
within : (p q r : Bool) → (p && (not q || r)) ≡ true → (p ≡ true) × (q ≡ true → r ≡ true)
within p true r e = ((and_parts p r e).0, λ _. (and_parts p r e).1)
within p false r e = ((and_parts p true e).0, λ z. elim (both_ways false refl z) [ ])

-- and what shows it
inside : (p q r : Bool) → p ≡ true → (q ≡ true → r ≡ true) → (p && (not q || r)) ≡ true
inside p true r e f = and_from p r e (f refl)
inside p false r e f = and_from p true e refl

-- two preferences of which the second decides where the first does not have the laws
pub first_then_second_laws : (A : Arithmetic) (one other : Relation) → PreferenceLaws A one → PreferenceLaws A other → PreferenceLaws A (first_then_second one other)
first_then_second_laws A one other l1 l2 = record {
  total = λ n base f a b wa wb.
      let there = one n base a b in
      let back = one n base b a in
      elim (cases_Bool there) [
        | inr no-there ↦
            elim (l1.total n base f a b wa wb) [
              | inl yes-there ↦ elim (both_ways there no-there yes-there) [ ]
              | inr yes-back ↦ inr (inside back there (other n base b a) yes-back (λ z. elim (both_ways there no-there z) [ ]))
            ]
        | inl yes-there ↦
            elim (cases_Bool back) [
              | inr no-back ↦ inl (inside there back (other n base a b) yes-there (λ z. elim (both_ways back no-back z) [ ]))
              | inl yes-back ↦
                  elim (l2.total n base f a b wa wb) [
                    | inl t ↦ inl (inside there back (other n base a b) yes-there (λ _. t))
                    | inr t ↦ inr (inside back there (other n base b a) yes-back (λ _. t))
                  ]
            ]
      ];
  transitive = λ n base f a b c wa wb wc ab bc.
      let x = within (one n base a b) (one n base b a) (other n base a b) ab in
      let y = within (one n base b c) (one n base c b) (other n base b c) bc in
      inside (one n base a c) (one n base c a) (other n base a c)
      (l1.transitive n base f a b c wa wb wc x.0 y.0)
      (λ ca. l2.transitive n base f a b c wa wb wc
      (x.1 (l1.transitive n base f b c a wb wc wa y.0 ca))
      (y.1 (l1.transitive n base f c a b wc wa wb ca x.0)));
  same_base = λ n us vs fu fv same a b wa wb.
      let p = l1.same_base n us vs fu fv same a b wa wb in
      let q = l1.same_base n us vs fu fv same b a wb wa in
      let r = l2.same_base n us vs fu fv same a b wa wb in
      cc;
}
