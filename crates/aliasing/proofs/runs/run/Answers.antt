use Rattle.std.proofs.Common.{◌≡◌, ℕ, ◌^◌, ◌≤◌, false, ◌&&◌, leb, sym, ap₂, subst, arith, rules}
use Rattle.std.proofs.lemmas.Bool.{both_ways, le-leb}
use Rattle.std.specs.Option.{MatchOption}
use Rattle.levels.specs.Arithmetic.{two}
use Rattle.levels.specs.Generated.{generated}
use Rattle.levels.proofs.Space.{no_words}
use Rattle.aliasing.specs.Runs.{Run, runs_below}
use Rattle.aliasing.specs.Table.{Rows}
use Rattle.aliasing.proofs.Chosen.{no_runs, runs_total}
use Rattle.aliasing.proofs.Evens.{runs_by_words}
use Rattle.aliasing.proofs.Placed.{rows_of}
use Rattle.aliasing.proofs.runs.run.Goals as goal

-- n out of range has no runs
pub returns-then-not-contains : goal.returns-then-not-contains
returns-then-not-contains c =
    let n = c.args.n in
    let ws = c.args.words.now in
    let out : (leb 1 n && leb n 32) ≡ false = search rules in
    let none = no_runs n (generated two n ws) (no_words two n (λ h. absurd (both_ways (leb 1 n && leb n 32) out (ap₂ (λ a b. a && b) (le-leb 1 n h.0) (le-leb n 32 h.1))))) (2 ^ n) in
    record { found = omega (arith, none); total = λ low high. runs_total n low high ws; same = λ all x. runs_by_words n ws x all }

-- the run that the table gives
pub returns : goal.returns
returns c =
    let n = c.args.n in
    let ws = c.args.words.now in
    let T = c.new-2.result.rows in
    let low : 1 ≤ n = search rules in
    let high : n ≤ 32 = omega (arith, c.new-2.result.few, c.new-2.ensures.factors) in
    let Found : ℕ → Type 0 = λ k. 1 ≤ k → Rows k ws T → MatchOption c.run.result (runs_below k (generated two k ws) (2 ^ k) ≤ c.args.m) (λ x. Run k (generated two k ws) c.args.m x) in
    record {
      found = subst Found c.new-2.ensures.factors (c.run.ensures ws) low (subst (Rows n ws) (sym c.new-2.ensures.rows) (rows_of n low high ws));
      total = λ low high. runs_total n low high ws;
      same = λ all x. runs_by_words n ws x all;
    }
