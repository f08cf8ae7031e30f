-- The answers about runs and blocks, from what is read off lists of words.
use Rattle.std.proofs.Common.{◌≡◌, ℕ, ◌^◌, ◌<◌, ◌≤◌, ltb, List, length, get_or, Option, Some, None, MatchOption, ok_or, Ok, Err, sym, ap, ◌∙◌, subst}
use Rattle.std.proofs.lemmas.Bool.{lt-ltb, le-ltb, cond-true, cond-false}
use Rattle.levels.specs.Arithmetic.{two}
use Rattle.levels.specs.Generated.{generated}
use Rattle.aliasing.specs.Runs.{Run, runs_below, runs_upto}
use Rattle.aliasing.proofs.Evens.{run_below}
use Rattle.aliasing.proofs.Listed.{upto_length, run_entry}
use Rattle.contents.specs.declared.refusal.Refusal.TheVariants.{Last}
use Rattle.plan.specs.Answers.{entry}

-- an entry that is there, and one past the last
pub entry_at : (xs : List ℕ) (m x : ℕ) → m < length xs → get_or xs m 0 ≡ x → Ok x ≡ entry xs m
entry_at xs m x l e = ap Ok (sym e) ∙ sym (cond-true (ltb m (length xs)) (Ok (get_or xs m 0)) (Err Last) (lt-ltb m (length xs) l))

pub entry_past : (xs : List ℕ) (m : ℕ) → length xs ≤ m → Err Last ≡ entry xs m
entry_past xs m l = sym (cond-false (ltb m (length xs)) (Ok (get_or xs m 0)) (Err Last) (le-ltb m (length xs) l))

-- run m, or a refusal past the last
run_is : (n : ℕ) (ws : List ℕ) (m : ℕ) (o : Option ℕ) → MatchOption o (runs_below n (generated two n ws) (2 ^ n) ≤ m) (λ x. Run n (generated two n ws) m x) → ok_or o Last ≡ entry (runs_upto n (generated two n ws) (2 ^ n)) m
run_is n ws m None past =
    entry_past (runs_upto n (generated two n ws) (2 ^ n)) m (subst (λ z. z ≤ m) (sym (upto_length n (generated two n ws) (2 ^ n))) past)
run_is n ws m (Some x) run =
    let at = run_entry n (generated two n ws) (2 ^ n) m x (run_below n (generated two n ws) m x run) run in
    entry_at (runs_upto n (generated two n ws) (2 ^ n)) m x at.0 at.1

-- the same of factors and words that were read off the plan
pub run_answer : (n k : ℕ) (ws vs : List ℕ) (m : ℕ) (o : Option ℕ) → k ≡ n → vs ≡ ws → MatchOption o (runs_below k (generated two k vs) (2 ^ k) ≤ m) (λ x. Run k (generated two k vs) m x) → ok_or o Last ≡ entry (runs_upto n (generated two n ws) (2 ^ n)) m
run_answer n k ws vs m o f e found = run_is n ws m o (rw (← f, ← e) found)
