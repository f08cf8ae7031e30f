-- Every call leaves a plan whose words are legal, independent and no more than the limit.
use Rattle.std.proofs.Common.{◌≡◌, ℕ, zero, suc, ◌+◌, ◌-◌, ◌<◌, ◌≤◌, List, [], ◌∷◌, ◌++◌, length, get_or, take, drop, Ok, Err, Result, sym, refl, ap, ◌∙◌, subst, inl, inr, arith}
use Rattle.std.proofs.lemmas.List.{append-nil, append_assoc, length-append, length-take, length-drop, get_or_append_left, get_or-append_right}
use Rattle.std.proofs.lemmas.Bool.{cases_lt}
use Rattle.levels.specs.Arithmetic.{Arithmetic, Lawful}
use Rattle.levels.specs.Space.{Word, AllWords}
use Rattle.levels.specs.Generated.{Generates, Independent, others}
use Rattle.levels.proofs.Any.{any_ind_left}
use Rattle.levels.proofs.Generation.{generates_place, generates_front, generates_inside, generates_without, independent_bound, independent_front, independent_tail}
use Rattle.levels.proofs.Space.{vector_space}
use Rattle.contents.specs.declared.refusal.Refusal.{Refusal}
use Rattle.contents.specs.declared.side.Side.{Side}
use Rattle.contents.specs.declared.side.Side.TheVariants.{Defining, Block}
use Rattle.contents.specs.Content.{Content, Acts, Kept, blank, both, side_of, with_side, started, admitted, struck, admitted_all}
use Rattle.contents.proofs.Membership.{not_generated}
use Rattle.contents.proofs.Outcomes.{same_ok, started_ok, admitted_ok, admitted_all_ok, struck_ok}

-- what holds at each place of a list
abbrev pub Each : (ℕ → Type 0) → List ℕ → Type 0
Each P ws = (i : ℕ) → i < length ws → P (get_or ws i 0)

-- a list around one of its places
pub around : (ws : List ℕ) (i : ℕ) → i < length ws → ws ≡ take i ws ++ get_or ws i 0 ∷ drop (suc i) ws
around [] i l = absurd (omega arith)
around (w ∷ ws) zero l = refl
around (w ∷ ws) (suc i) l = ap (λ us. w ∷ us) (around ws i (omega arith))

-- what holds at each place of two lists holds at each place of them together
pub each_append : (P : ℕ → Type 0) (us vs : List ℕ) → Each P us → Each P vs → Each P (us ++ vs)
each_append P us vs hu hv i l = elim (cases_lt i (length us)) [
  | inl lt ↦ subst P (sym (get_or_append_left us vs 0 i lt)) (hu i lt)
  | inr le ↦ subst P (sym (get_or-append_right us vs (length us) i 0 refl le)) (hv (i - length us) (omega (arith, length-append us vs)))
]

-- of two lists together, what holds at each place holds of the first
pub each_left : (P : ℕ → Type 0) (us vs : List ℕ) → Each P (us ++ vs) → Each P us
each_left P us vs h i l = subst P (get_or_append_left us vs 0 i l) (h i (omega (arith, length-append us vs)))

-- and of the second
pub each_right : (P : ℕ → Type 0) (us vs : List ℕ) → Each P (us ++ vs) → Each P vs
each_right P us vs h i l =
    let back : length us + i - length us ≡ i = omega arith in
    subst P (get_or-append_right us vs (length us) (length us + i) 0 refl (omega arith) ∙ ap (λ j. get_or vs j 0) back)
    (h (length us + i) (omega (arith, length-append us vs)))

-- one word
pub each_one : (P : ℕ → Type 0) (w : ℕ) → P w → Each P (w ∷ [])
each_one P w p zero l = p
each_one P w p (suc i) l = absurd (omega arith)

module _ (A : Arithmetic) (L : Lawful A) (n : ℕ) (low : 1 ≤ n) (high : n ≤ 32) where
  -- as many words that generate the words of an independent list are independent
  pub independent_as_many : (us ws : List ℕ) → Independent A n us → ((i : ℕ) → i < length us → Generates A n ws (get_or us i 0)) → length ws ≡ length us → Independent A n ws
  independent_as_many us ws ind gen same i l g =
      let V = vector_space A L n low high in
      let rest : List ℕ = others ws i in
      let spans : (j : ℕ) → j < length us → Generates A n rest (get_or us j 0) = λ j m.
      generates_without A L n V (get_or ws i 0) rest (get_or us j 0) g
      (generates_front A L n V (take i ws) (get_or ws i 0) (drop (suc i) ws) (get_or us j 0)
      (subst (λ zs. Generates A n zs (get_or us j 0)) (around ws i l) (gen j m))) in
      let bound : length us ≤ length rest = independent_bound A L n V us rest ind spans in
      omega (arith, length-append (take i ws) (drop (suc i) ws), length-take i ws, length-drop (suc i) ws)

  -- a new word may stand anywhere
  pub independent_insert : (us : List ℕ) (w : ℕ) (vs : List ℕ) → Each (Word A n) (us ++ vs) → Word A n w → Independent A n (us ++ vs) → (Generates A n (us ++ vs) w → ⊥) → Independent A n (us ++ w ∷ vs)
  independent_insert us w vs words word ind fresh =
      let V = vector_space A L n low high in
      independent_as_many (w ∷ us ++ vs) (us ++ w ∷ vs) (independent_front A L n V w (us ++ vs) ind fresh)
      (λ i l. generates_inside A L n V us w vs (get_or (w ∷ us ++ vs) i 0)
      (generates_place A L n V (w ∷ us ++ vs) i (each_append (Word A n) (w ∷ []) (us ++ vs) (each_one (Word A n) w word) words i l)))
      (omega (arith, length-append us (w ∷ vs), length-append us vs))

  -- a word may be left out anywhere
  pub independent_remove : (us : List ℕ) (w : ℕ) (vs : List ℕ) → Each (Word A n) (us ++ w ∷ vs) → Independent A n (us ++ w ∷ vs) → Independent A n (us ++ vs)
  independent_remove us w vs words ind =
      let V = vector_space A L n low high in
      independent_tail A L n V w (us ++ vs)
      (independent_as_many (us ++ w ∷ vs) (w ∷ us ++ vs) ind
      (λ i l. generates_front A L n V us w vs (get_or (us ++ w ∷ vs) i 0) (generates_place A L n V (us ++ w ∷ vs) i (words i l)))
      (omega (arith, length-append us (w ∷ vs), length-append us vs)))

-- a call that acts, or is refused, leaves a plan that is kept, if what it makes is
pub acts_kept : (A : Arithmetic) (r : Result Content Refusal) (p q : Content) (answer : Result (Unit {0}) Refusal) → Acts r p q answer → Kept A p → ((x : Content) → r ≡ Ok x → Kept A x) → Kept A q
acts_kept A (Ok x) p q answer h k made = subst (Kept A) (sym h.1) (made x refl)
acts_kept A (Err e) p q answer h k made = subst (Kept A) (sym h.1) k

-- the defining words of a plan that is kept: words, independent and within the limit
pub record KeptDefining (A : Arithmetic) (p : Content) : Type 0 where
  pub few : length p.defining ≤ A.limit
  pub words : AllWords A p.factors p.defining
  pub independent : Independent A p.factors p.defining

-- no words are kept
pub blank_kept : (A : Arithmetic) (n : ℕ) → 1 ≤ n → n ≤ 32 → Kept A (blank n)
blank_kept A n low high = record {
  low = low;
  high = high;
  few = omega arith;
  words = λ i l. absurd (omega arith);
  independent = λ i l g. omega arith;
}

-- a plan that is started is kept
pub started_kept : (A : Arithmetic) (n : ℕ) (q : Content) → started n ≡ Ok q → Kept A q
started_kept A n q h = let s = started_ok n q h in subst (Kept A) (sym s.result) (blank_kept A n s.low s.high)

-- words that a plan of n factors may hold
pub record Sound (A : Arithmetic) (n : ℕ) (ws : List ℕ) : Type 0 where
  pub low : 1 ≤ n
  pub high : n ≤ 32
  pub few : length ws ≤ A.limit
  pub words : AllWords A n ws
  pub independent : Independent A n ws

-- the words of a plan that is kept are sound
pub sound : (A : Arithmetic) (p : Content) → Kept A p → Sound A p.factors (both p)
sound A p k = record { low = k.low; high = k.high; few = k.few; words = k.words; independent = k.independent }

-- a plan whose words are sound is kept
kept : (A : Arithmetic) (p : Content) (ws : List ℕ) → both p ≡ ws → Sound A p.factors ws → Kept A p
kept A p ws e s =
    let k : Sound A p.factors (both p) = subst (Sound A p.factors) (sym e) s in
    record { low = k.low; high = k.high; few = k.few; words = k.words; independent = k.independent }

module _ (A : Arithmetic) (L : Lawful A) where
  -- a fresh word within the limit may stand anywhere among the words
  insert_sound : (n : ℕ) (us : List ℕ) (w : ℕ) (vs : List ℕ) → Sound A n (us ++ vs) → Word A n w → (Generates A n (us ++ vs) w → ⊥) → length (us ++ vs) < A.limit → Sound A n (us ++ w ∷ vs)
  insert_sound n us w vs s word fresh room = record {
    low = s.low;
    high = s.high;
    few = omega (arith, room, length-append us vs, length-append us (w ∷ vs));
    words = each_append (Word A n) us (w ∷ vs) (each_left (Word A n) us vs s.words) (each_append (Word A n) (w ∷ []) vs (each_one (Word A n) w word) (each_right (Word A n) us vs s.words));
    independent = independent_insert A L n s.low s.high us w vs s.words word s.independent fresh;
  }

  -- a word may be left out anywhere
  remove_sound : (n : ℕ) (us : List ℕ) (w : ℕ) (vs : List ℕ) → Sound A n (us ++ w ∷ vs) → Sound A n (us ++ vs)
  remove_sound n us w vs s = record {
    low = s.low;
    high = s.high;
    few = omega (arith, s.few, length-append us vs, length-append us (w ∷ vs));
    words = each_append (Word A n) us vs (each_left (Word A n) us (w ∷ vs) s.words) (each_right (Word A n) (w ∷ []) vs (each_right (Word A n) us (w ∷ vs) s.words));
    independent = independent_remove A L n s.low s.high us w vs s.words s.independent;
  }

  -- all words with one more on one side
  push_kept : (side : Side) (w : ℕ) (p : Content) → Kept A p → Word A p.factors w → (Generates A p.factors (both p) w → ⊥) → length (both p) < A.limit → Kept A (with_side side (side_of side p ++ w ∷ []) p)
  push_kept Defining w p k word fresh room =
      kept A (with_side Defining (p.defining ++ w ∷ []) p) (p.defining ++ w ∷ p.block) (append_assoc p.defining (w ∷ []) p.block)
      (insert_sound p.factors p.defining w p.block (sound A p k) word fresh room)
  push_kept Block w p k word fresh room =
      let e : both p ≡ both p ++ [] = sym (append-nil (both p)) in
      kept A (with_side Block (p.block ++ w ∷ []) p) (both p ++ w ∷ []) (sym (append_assoc p.defining p.block (w ∷ [])))
      (insert_sound p.factors (both p) w [] (subst (Sound A p.factors) e (sound A p k)) word
      (subst (λ zs. Generates A p.factors zs w → ⊥) e fresh) (subst (λ zs. length zs < A.limit) e room))

  -- a plan to which a word was admitted is kept
  pub admitted_kept : (side : Side) (w : ℕ) (p q : Content) → Kept A p → admitted A side w p ≡ Ok q → Kept A q
  admitted_kept side w p q k h =
      let a = admitted_ok A side w p q h in
      subst (Kept A) (sym a.result) (push_kept side w p k a.lawful (not_generated A L p.factors (both p) w a.fresh) a.room)

  -- a plan to which words were admitted is kept
  pub admitted_all_kept : (side : Side) (ws : List ℕ) (p q : Content) → Kept A p → admitted_all A side ws p ≡ Ok q → Kept A q
  admitted_all_kept side [] p q k h = subst (Kept A) (same_ok p q h) k
  admitted_all_kept side (w ∷ ws) p q k h =
      let r = admitted_all_ok A side w ws p q h in
      admitted_all_kept side ws r.0 q (admitted_kept side w p r.0 k r.1) r.2

  -- all words with one less on one side, at a place from 0
  cut_kept : (side : Side) (i : ℕ) (p : Content) → Kept A p → i < length (side_of side p) → Kept A (with_side side (take i (side_of side p) ++ drop (suc i) (side_of side p)) p)
  cut_kept Defining i p k l =
      let ds = p.defining in
      let back = drop (suc i) ds in
      let e : both p ≡ take i ds ++ get_or ds i 0 ∷ (back ++ p.block) =
      ap (λ zs. zs ++ p.block) (around ds i l) ∙ append_assoc (take i ds) (get_or ds i 0 ∷ back) p.block in
      kept A (with_side Defining (take i ds ++ back) p) (take i ds ++ (back ++ p.block)) (append_assoc (take i ds) back p.block)
      (remove_sound p.factors (take i ds) (get_or ds i 0) (back ++ p.block) (subst (Sound A p.factors) e (sound A p k)))
  cut_kept Block i p k l =
      let bs = p.block in
      let back = drop (suc i) bs in
      let e : both p ≡ (p.defining ++ take i bs) ++ get_or bs i 0 ∷ back =
      ap (λ zs. p.defining ++ zs) (around bs i l) ∙ sym (append_assoc p.defining (take i bs) (get_or bs i 0 ∷ back)) in
      kept A (with_side Block (take i bs ++ back) p) ((p.defining ++ take i bs) ++ back) (sym (append_assoc p.defining (take i bs) back))
      (remove_sound p.factors (p.defining ++ take i bs) (get_or bs i 0) back (subst (Sound A p.factors) e (sound A p k)))

  -- a plan from which a word was struck is kept
  pub struck_kept : (side : Side) (place : ℕ) (p q : Content) → Kept A p → struck side place p ≡ Ok q → Kept A q
  struck_kept side place p q k h =
      let s = struck_ok side place p q h in
      let next : suc (place - 1) ≡ place = omega (arith, s.low) in
      subst (Kept A)
      (ap (λ m. with_side side (take (place - 1) (side_of side p) ++ drop m (side_of side p)) p) next ∙ sym s.result)
      (cut_kept side (place - 1) p k (omega (arith, s.low, s.high)))

  -- what is kept of all words is kept of the defining ones
  pub kept_defining : (p : Content) → Kept A p → KeptDefining A p
  kept_defining p k = record {
    few = omega (arith, k.few, length-append p.defining p.block);
    words = each_left (Word A p.factors) p.defining p.block k.words;
    independent = any_ind_left A L p.factors (vector_space A L p.factors) p.defining p.block k.independent;
  }
