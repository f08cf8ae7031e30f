-- What is known where a chain of checks ends in Ok.
use Rattle.std.proofs.Common.{◌≡◌, ℕ, ◌-◌, ◌<◌, ◌≤◌, Bool, true, false, cond, ◌&&◌, ltb, leb, List, [], ◌∷◌, ◌++◌, length, take, drop, Ok, Err, Result, sym, refl, ap, arith}
use Rattle.std.proofs.lemmas.Bool.{and_parts, leb-true, ltb-true}
use Rattle.levels.specs.Arithmetic.{Arithmetic}
use Rattle.levels.specs.Words.{legal}
use Rattle.levels.specs.Generated.{generated, holds}
use Rattle.contents.specs.declared.refusal.Refusal.{Refusal}
use Rattle.contents.specs.declared.refusal.Refusal.TheVariants.{Factors, Illegal, Generated, Limit, Place}
use Rattle.contents.specs.declared.side.Side.{Side}
use Rattle.contents.specs.Content.{Content, Acts, blank, both, side_of, with_side, started, admissible, admitted, struck, admitted_all}

-- a refusal is no success
pub err_not_ok : {T E : Type 0} (e : E) (x : T) → ◌≡◌ {A = Result T E} (Err e) (Ok x) → ⊥
err_not_ok e x h = let z : ◌≡◌ {A = ℕ} 0 1 = cc in omega arith

-- two equal successes
pub same_ok : {T E : Type 0} (x y : T) → ◌≡◌ {A = Result T E} (Ok x) (Ok y) → x ≡ y
same_ok x y h = cc

-- a check that had to pass
pub passed : {T E : Type 0} (b : Bool) (r : Result T E) (e : E) (x : T) → cond b r (Err e) ≡ Ok x → (b ≡ true) × (r ≡ Ok x)
passed true r e x h = (refl, h)
passed false r e x h = absurd (err_not_ok e x h)

-- a check that had to fail
pub failed : {T E : Type 0} (b : Bool) (r : Result T E) (e : E) (x : T) → cond b (Err e) r ≡ Ok x → (b ≡ false) × (r ≡ Ok x)
failed true r e x h = absurd (err_not_ok e x h)
failed false r e x h = (refl, h)

-- one step after another, as `?` runs them
abbrev pub and_then : {T U E : Type 0} → Result T E → (T → Result U E) → Result U E
and_then r k = elim r [ Ok x ↦ k x | Err e ↦ Err e ]

-- a step after another that ended in success
pub then_ok : {T U E : Type 0} (r : Result T E) (k : T → Result U E) (y : U) → and_then r k ≡ Ok y → (x : T) × (r ≡ Ok x) × (k x ≡ Ok y)
then_ok (Ok x) k y h = (x, refl, h)
then_ok (Err e) k y h = absurd (err_not_ok e y h)

-- a plan that was started
pub record Started (n : ℕ) (q : Content) : Type 0 where
  pub low : 1 ≤ n
  pub high : n ≤ 32
  pub result : q ≡ blank n

pub started_ok : (n : ℕ) (q : Content) → started n ≡ Ok q → Started n q
started_ok n q h =
    let p = passed (leb 1 n && leb n 32) (Ok (blank n)) Factors q h in
    let r = and_parts (leb 1 n) (leb n 32) p.0 in
    record { low = leb-true 1 n r.0; high = leb-true n 32 r.1; result = sym (same_ok (blank n) q p.1) }

-- a word that was admitted
pub record Admitted (A : Arithmetic) (side : Side) (w : ℕ) (p q : Content) : Type 0 where
  pub lawful : legal A p.factors w ≡ true
  pub fresh : holds (generated A p.factors (both p)) w ≡ false
  pub room : length (both p) < A.limit
  pub result : q ≡ with_side side (side_of side p ++ w ∷ []) p

pub admitted_ok : (A : Arithmetic) (side : Side) (w : ℕ) (p q : Content) → admitted A side w p ≡ Ok q → Admitted A side w p q
admitted_ok A side w p q h =
    let known = holds (generated A p.factors (both p)) w in
    let full = cond (ltb (length (both p)) A.limit) (Ok (with_side side (side_of side p ++ w ∷ []) p)) (Err Limit) in
    let a = passed (legal A p.factors w) (cond known (Err Generated) full) Illegal q h in
    let b = failed known full Generated q a.1 in
    let d = passed (ltb (length (both p)) A.limit) (Ok (with_side side (side_of side p ++ w ∷ []) p)) Limit q b.1 in
    record { lawful = a.0; fresh = b.0; room = ltb-true (length (both p)) A.limit d.0; result = sym (same_ok (with_side side (side_of side p ++ w ∷ []) p) q d.1) }

-- a word that was struck
pub record Struck (side : Side) (place : ℕ) (p q : Content) : Type 0 where
  pub low : 1 ≤ place
  pub high : place ≤ length (side_of side p)
  pub result : q ≡ with_side side (take (place - 1) (side_of side p) ++ drop place (side_of side p)) p

pub struck_ok : (side : Side) (place : ℕ) (p q : Content) → struck side place p ≡ Ok q → Struck side place p q
struck_ok side place p q h =
    let new = with_side side (take (place - 1) (side_of side p) ++ drop place (side_of side p)) p in
    let a = passed (leb 1 place && leb place (length (side_of side p))) (Ok new) Place q h in
    let r = and_parts (leb 1 place) (leb place (length (side_of side p))) a.0 in
    record { low = leb-true 1 place r.0; high = leb-true place (length (side_of side p)) r.1; result = sym (same_ok new q a.1) }

-- the words that were admitted in a row, one by one
pub admitted_all_ok : (A : Arithmetic) (side : Side) (w : ℕ) (ws : List ℕ) (p q : Content) → admitted_all A side (w ∷ ws) p ≡ Ok q → (r : Content) × (admitted A side w p ≡ Ok r) × (admitted_all A side ws r ≡ Ok q)
admitted_all_ok A side w ws p q h = then_ok (admitted A side w p) (admitted_all A side ws) q h

-- a word that may be admitted
pub record Admissible (A : Arithmetic) (w : ℕ) (p : Content) : Type 0 where
  pub lawful : legal A p.factors w ≡ true
  pub fresh : holds (generated A p.factors (both p)) w ≡ false
  pub room : length (both p) < A.limit

pub admissible_ok : (A : Arithmetic) (w : ℕ) (p : Content) → admissible A w p ≡ Ok tt → Admissible A w p
admissible_ok A w p h =
    let known = holds (generated A p.factors (both p)) w in
    let full : Result (Unit {0}) Refusal = cond (ltb (length (both p)) A.limit) (Ok tt) (Err Limit) in
    let a = passed (legal A p.factors w) (cond known (Err Generated) full) Illegal tt h in
    let b = failed known full Generated tt a.1 in
    let d = passed (ltb (length (both p)) A.limit) (Ok tt) Limit tt b.1 in
    record { lawful = a.0; fresh = b.0; room = ltb-true (length (both p)) A.limit d.0 }

-- a call that was refused
pub acts_refused : (r : Result Content Refusal) (before now : Content) (answer : Result (Unit {0}) Refusal) (e : Refusal) → Acts r before now answer → answer ≡ Err e → r ≡ Err e
acts_refused (Ok p) before now answer e h f = let z : ◌≡◌ {A = ℕ} 0 1 = cc (h.0, f) in absurd (omega arith)
acts_refused (Err d) before now answer e h f = let same : d ≡ e = cc (h.0, f) in ap Err same

-- a call that acted
pub acts_done : (r : Result Content Refusal) (before now : Content) (answer : Result (Unit {0}) Refusal) → Acts r before now answer → answer ≡ Ok tt → r ≡ Ok now
acts_done (Ok p) before now answer h f = ap Ok (sym h.1)
acts_done (Err d) before now answer h f = let z : ◌≡◌ {A = ℕ} 0 1 = cc (h.0, f) in absurd (omega arith)

-- the first of several words is refused
pub all_refused : (A : Arithmetic) (side : Side) (w : ℕ) (ws : List ℕ) (p : Content) (e : Refusal) → admitted A side w p ≡ Err e → admitted_all A side (w ∷ ws) p ≡ Err e
all_refused A side w ws p e h = ap (λ m. and_then m (admitted_all A side ws)) h

-- the first of several words is admitted
pub all_onward : (A : Arithmetic) (side : Side) (w : ℕ) (ws : List ℕ) (p q : Content) → admitted A side w p ≡ Ok q → admitted_all A side (w ∷ ws) p ≡ admitted_all A side ws q
all_onward A side w ws p q h = ap (λ m. and_then m (admitted_all A side ws)) h
