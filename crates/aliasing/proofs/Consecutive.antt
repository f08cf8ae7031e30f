-- Runs that are written over memory, from a place on.
use Rattle.std.proofs.Common.{◌≡◌, ℕ, ◌+◌, ◌-◌, ◌^◌, ◌<◌, ◌≤◌, false, List, [], ◌∷◌, length, get_or, drop, Option, Some, None, MatchOption, unwrap_or, sym, refl, subst, arith, length-drop}
use Rattle.std.proofs.Math.Pow.{pow_mono}
use Rattle.levels.specs.Arithmetic.{two}
use Rattle.levels.specs.Words.{legal}
use Rattle.levels.specs.Generated.{generated}
use Rattle.aliasing.specs.Runs.{Run, runs_below, runs_upto}
use Rattle.aliasing.specs.Table.{empty_below, Rows}
use Rattle.aliasing.proofs.Chosen.{empty_most, no_runs, total}
use Rattle.aliasing.proofs.Evens.{run_below}
use Rattle.aliasing.proofs.Listed.{run_entry, upto_length}

-- a place of a run is at most 2 to the power of 32
pub place_fits : (T : List ℕ) (n first i : ℕ) → n ≤ 32 → i < 2 ^ empty_below T n - first → first + i + 1 ≤ 2 ^ 32
place_fits T n first i high l = omega (arith, pow_mono {i = empty_below T n} {j = 32} (omega (arith, empty_most T n)))

-- run m stands at place m of the list of runs
pub run_at : (n : ℕ) (ws : List ℕ) (m x : ℕ) → Run n ws m x → x ≡ get_or (runs_upto n ws (2 ^ n)) m 0
run_at n ws m x run = sym (run_entry n ws (2 ^ n) m x (run_below n ws m x run) run).1

-- a run that is asked for, where there are as many
pub run_there : (n : ℕ) (ws : List ℕ) (m k : ℕ) (o : Option ℕ) → m ≡ k → k < runs_below n ws (2 ^ n) → MatchOption o (runs_below n ws (2 ^ n) ≤ m) (λ x. Run n ws m x) → Run n ws k (unwrap_or o 0)
run_there n ws m k None e l h = absurd (omega arith)
run_there n ws m k (Some x) e l h = subst (λ j. Run n ws j x) e h

-- no list where no code is legal
pub no_list : (n : ℕ) (ws : List ℕ) (first : ℕ) → ((x : ℕ) → legal two n x ≡ false) → drop first (runs_upto n ws (2 ^ n)) ≡ []
no_list n ws first none = nothing (drop first (runs_upto n ws (2 ^ n))) (omega (arith, length-drop first (runs_upto n ws (2 ^ n)), upto_length n ws (2 ^ n), no_runs n ws none (2 ^ n)))
  where
    nothing : (xs : List ℕ) → length xs ≤ 0 → xs ≡ []
    nothing [] h = refl
    nothing (x ∷ xs) h = absurd (omega arith)

-- as many runs from a place on as the empty places of a table allow
pub rest_length : (n : ℕ) (low : 1 ≤ n) (high : n ≤ 32) (ws T : List ℕ) (first : ℕ) → Rows n ws T → length (drop first (runs_upto n (generated two n ws) (2 ^ n))) ≡ 2 ^ empty_below T n - first
rest_length n low high ws T first r =
    omega (arith, length-drop first (runs_upto n (generated two n ws) (2 ^ n)), upto_length n (generated two n ws) (2 ^ n), total n low high ws T r)
