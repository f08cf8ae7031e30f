-- Runs as an ascending list: run m stands at place m.
use Rattle.std.proofs.Common.{◌≡◌, ℕ, zero, suc, ◌+◌, ◌<◌, Bool, true, false, cond, List, [], ◌∷◌, ◌++◌, length, get_or, sym, refl, ap, ◌∙◌, subst, inl, inr, arith}
use Rattle.std.proofs.lemmas.List.{length-append, get_or_append_left, get_or_at}
use Rattle.std.proofs.lemmas.Bool.{cases_lt, cond-true}
use Rattle.aliasing.specs.Runs.{is_run, runs_below, runs_upto, Run}

-- one entry where the code is a run, else none
entries : (b : Bool) (x : ℕ) → length (cond b (x ∷ []) []) ≡ cond b 1 0
entries true x = refl
entries false x = refl

-- the list of the runs below a code is as long as there are such runs
pub upto_length : (n : ℕ) (ws : List ℕ) (x : ℕ) → length (runs_upto n ws x) ≡ runs_below n ws x
upto_length n ws zero = refl
upto_length n ws (suc x) =
    let more = length-append (runs_upto n ws x) (cond (is_run n ws x) (x ∷ []) []) in
    omega (arith, more, entries (is_run n ws x) x, upto_length n ws x)

-- a run below a code is one of those that are counted
counted : (n : ℕ) (ws : List ℕ) (top x : ℕ) → x < top → is_run n ws x ≡ true → runs_below n ws x < runs_below n ws top
counted n ws zero x l r = absurd (omega arith)
counted n ws (suc top) x l r = elim (cases_lt x top) [
  | inl below ↦ omega (arith, counted n ws top x below r)
  | inr at ↦
      let e : x ≡ top = omega arith in
      let one : ◌≡◌ {A = ℕ} (cond (is_run n ws top) 1 0) 1 = cond-true (is_run n ws top) 1 0 (subst (λ v. is_run n ws v ≡ true) e r) in
      subst (λ v. runs_below n ws v < cond (is_run n ws top) 1 0 + runs_below n ws top) (sym e) (omega (arith, one))
]

-- the largest run stands last
last_place : (n : ℕ) (ws : List ℕ) (top : ℕ) → is_run n ws top ≡ true → get_or (runs_upto n ws (suc top)) (runs_below n ws top) 0 ≡ top
last_place n ws top r =
    ap (λ b. get_or (runs_upto n ws top ++ cond b (top ∷ []) []) (runs_below n ws top) 0) r
    ∙ get_or_at (runs_upto n ws top) top [] 0 (runs_below n ws top) (upto_length n ws top)

-- a run stands at the place of how many runs are smaller
pub upto_place : (n : ℕ) (ws : List ℕ) (top x : ℕ) → x < top → is_run n ws x ≡ true → get_or (runs_upto n ws top) (runs_below n ws x) 0 ≡ x
upto_place n ws zero x l r = absurd (omega arith)
upto_place n ws (suc top) x l r = elim (cases_lt x top) [
  | inl below ↦
      get_or_append_left (runs_upto n ws top) (cond (is_run n ws top) (top ∷ []) []) 0 (runs_below n ws x) (omega (arith, upto_length n ws top, counted n ws top x below r))
      ∙ upto_place n ws top x below r
  | inr at ↦
      let e : x ≡ top = omega arith in
      subst (λ v. get_or (runs_upto n ws (suc top)) (runs_below n ws v) 0 ≡ v) (sym e) (last_place n ws top (subst (λ v. is_run n ws v ≡ true) e r))
]

-- run m, in words of the list: m is below its length, and the entry at m is the run
pub run_entry : (n : ℕ) (ws : List ℕ) (top m x : ℕ) → x < top → Run n ws m x → (m < length (runs_upto n ws top)) × (get_or (runs_upto n ws top) m 0 ≡ x)
run_entry n ws top m x l run = (
  omega (arith, upto_length n ws top, counted n ws top x l run.runs, run.smaller),
  ap (λ k. get_or (runs_upto n ws top) k 0) (sym run.smaller) ∙ upto_place n ws top x l run.runs,
)
