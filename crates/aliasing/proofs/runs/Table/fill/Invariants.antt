use Rattle.std.proofs.Common.{◌≡◌, ℕ, ◌+◌, ◌^◌, ◌<◌, ◌≤◌, List, get_or}
use Rattle.levels.specs.Arithmetic.{two}
use Rattle.levels.specs.Generated.{generated}
use Rattle.aliasing.specs.Runs.{Run, runs_upto}
use Rattle.aliasing.specs.Table.{empty_below, Rows}
use Rattle.aliasing.proofs.runs.Table.fill.Given as goal

-- the runs so far are written, and the next run is at hand, if there is one
abbrev pub invariant-loop-i : goal.invariant-loop-i
invariant-loop-i l = (ws : List ℕ) → 1 ≤ l.self.factors → Rows l.self.factors ws l.self.rows →
    ((k : ℕ) → k < l.i → get_or l.memory k 0 ≡ get_or (runs_upto l.self.factors (generated two l.self.factors ws) (2 ^ l.self.factors)) (l.first + k) 0)
    × (l.first + l.i < 2 ^ empty_below l.self.rows l.self.factors → Run l.self.factors (generated two l.self.factors ws) (l.first + l.i) l.run)
