use Rattle.std.proofs.Common.{◌≡◌, ℕ, ◌-◌, ◌^◌, ◌≤◌, ◌++◌, false, ◌&&◌, leb, min, length, take, drop, sym, ap, ap₂, ◌∙◌, subst, arith, rules, length-take}
use Rattle.std.proofs.lemmas.Bool.{both_ways, le-leb}
use Rattle.std.proofs.lemmas.Nat.{one_shl}
use Rattle.levels.specs.Arithmetic.{two}
use Rattle.levels.specs.Generated.{generated}
use Rattle.levels.proofs.Space.{no_words}
use Rattle.aliasing.specs.Filled.{filled}
use Rattle.aliasing.specs.Runs.{runs_upto}
use Rattle.aliasing.specs.Table.{empty_below, Rows}
use Rattle.aliasing.proofs.Placed.{rows_of}
use Rattle.aliasing.proofs.Filled.{filled_written}
use Rattle.aliasing.proofs.Consecutive.{no_list, rest_length}
use Rattle.aliasing.proofs.runs.fill_runs.Goals as goal

-- n out of range has no runs
pub returns-then-not-contains : goal.returns-then-not-contains
returns-then-not-contains c =
    let n = c.args.n in
    let ws = generated two n c.args.words.now in
    let xs = c.args.memory.now in
    let out : (leb 1 n && leb n 32) ≡ false = search rules in
    let none = no_list n ws c.args.first (no_words two n (λ h. absurd (both_ways (leb 1 n && leb n 32) out (ap₂ (λ a b. a && b) (le-leb 1 n h.0) (le-leb n 32 h.1))))) in
    record { count = omega (arith, ap length none); stored = ap (λ l. filled l xs) (sym none) }

-- the memory takes no more than there are
pub fill-requires : goal.fill-requires
fill-requires c =
    let f = c.free_factors.result in
    omega (arith, length-take c.min-count.result c.args.memory.now, one_shl f 64 (omega (arith, c.free_factors.ensures.few)), ap (λ k. 2 ^ k) c.free_factors.ensures.count)

-- as many as there are and the memory takes
pub returns : goal.returns
returns c =
    let n = c.args.n in
    let ws = c.args.words.now in
    let first = c.args.first in
    let old = c.args.memory.now in
    let T = c.new-table.result.rows in
    let f = c.free_factors.result in
    let k = c.min-count.result in
    let low : 1 ≤ n = search rules in
    let high : n ≤ 32 = omega (arith, c.new-table.result.few, c.new-table.ensures.factors) in
    let same = c.new-table.ensures.factors in
    let r : Rows n ws T = subst (Rows n ws) (sym c.new-table.ensures.rows) (rows_of n low high ws) in
    let D = drop first (runs_upto n (generated two n ws) (2 ^ n)) in
    let rest : length D ≡ 2 ^ empty_below T n - first = rest_length n low high ws T first r in
    let free : 2 ^ f ≡ 2 ^ empty_below T n = ap (λ j. 2 ^ j) (c.free_factors.ensures.count ∙ ap (empty_below T) same) in
    let count : k ≡ min (length old) (length D) = omega (arith, rest, free, one_shl f 64 (omega (arith, c.free_factors.ensures.few))) in
    let Written : ℕ → Type 0 = λ m. 1 ≤ m → Rows m ws T → c.fill.new.memory ≡ take (length (take k old)) (drop first (runs_upto m (generated two m ws) (2 ^ m))) in
    let written : c.fill.new.memory ≡ take (length (take k old)) D = subst Written same (c.fill.ensures ws) low r in
    let some : length (take k old) ≡ k = omega (arith, length-take k old) in
    record {
      count = omega arith;
      stored = ap (λ xs. xs ++ drop k old) (written ∙ ap (λ j. take j D) some) ∙ filled_written D old k count;
    }
