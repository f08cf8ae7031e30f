use Rattle.std.proofs.Common.{◌≡◌, suc, ◌+◌, ◌-◌, ◌%◌, ◌^◌, ◌<◌, ◌≤◌, length, get_or, take, drop, set, sym, ◌∙◌, subst, add-zero, arith, below_more, length-take}
use lib.Bits.{bit_xor}
use lib.Count.{count_trailing_zeros}
use Rattle.std.proofs.lemmas.Grind.{same_number_lists}
use Rattle.std.proofs.lemmas.List.{get_or-drop, get_or-take, get_or-set_same, get_or-set_other}
use Rattle.levels.specs.Arithmetic.{two}
use Rattle.levels.specs.Generated.{generated}
use Rattle.aliasing.specs.Runs.{Run, runs_upto}
use Rattle.aliasing.specs.Table.{empty_below}
use Rattle.aliasing.proofs.Chosen.{total}
use Rattle.aliasing.proofs.Consecutive.{place_fits, run_at, rest_length}
use Rattle.aliasing.proofs.Steps.{run_next, trailing_few, trailing_low}
use Rattle.aliasing.proofs.runs.Table.fill.Goals as goal

-- no run from there on: the memory has no place
pub returns-in_default : goal.returns-in_default
returns-in_default c ws low r =
    let n = c.args.self.now.factors in
    let old = c.args.memory.now in
    let D = drop c.args.first (runs_upto n (generated two n ws) (2 ^ n)) in
    let none : length old ≤ 0 = omega (arith, total n low c.args.self.now.few ws c.args.self.now.rows r, c.in_default.ensures ws low r) in
    same_number_lists old (take (length old) D) (omega (arith, length-take (length old) D)) (λ k l. absurd (omega arith))

-- the first run is at hand
pub loop-i-init : goal.loop-i-init
loop-i-init c ws low r = (
  (λ k l. absurd (omega arith)),
  λ l. subst (λ j. Run c.args.self.now.factors (generated two c.args.self.now.factors ws) j c.in-Some.run') (sym (add-zero c.args.first)) (c.in-Some.ensures ws low r),
)

-- a place is below 2 to the power of 32, and so is what ends it
fits : (c : goal.After-place-1-unread) → c.args.first + c.loop-i.i + 1 ≤ 2 ^ 32
fits c = place_fits c.args.self.now.rows c.args.self.now.factors c.args.first c.loop-i.i c.args.self.now.few (omega arith)

pub overflow_add-next : goal.overflow_add-next
overflow_add-next c = omega (arith, fits c)

pub overflow_add-next-in-loop-i : goal.overflow_add-next-in-loop-i
overflow_add-next-in-loop-i c = omega (arith, fits c)

pub bounds-steps-next : goal.bounds-steps-next
bounds-steps-next c =
    let next = c.args.first + c.loop-i.i + 1 in
    trailing_few 33 next (count_trailing_zeros 64 next) (trailing_low 64 next (omega arith) (omega (arith, fits c))) (omega (arith, fits c))

-- one run more, and the next
pub loop-i-preserved : goal.loop-i-preserved
loop-i-preserved c ws low r =
    let n = c.args.self.now.factors in
    let T = c.args.self.now.rows in
    let high : n ≤ 32 = c.args.self.now.few in
    let first = c.args.first in
    let i = c.loop-i.i in
    let gs = generated two n ws in
    let L = runs_upto n gs (2 ^ n) in
    let xs = c.loop-i.memory in
    let x = c.loop-i.run in
    let so = c.loop-i.invariant ws low r in
    let next = first + i + 1 in
    let t = count_trailing_zeros 64 next in
    let fits : next ≤ 2 ^ 32 = place_fits T n first i high (omega arith) in
    let ends : next % 2 ^ suc t ≡ 2 ^ t = trailing_low 64 next (omega arith) (omega arith) in
    let here : Run n gs (first + i) x = so.1 (omega arith) in (
      below_more (λ k. get_or (set xs i x) k 0 ≡ get_or L (first + k) 0) i
          (λ k l. get_or-set_other xs i k x 0 (λ e. omega arith) ∙ so.0 k l)
          (get_or-set_same xs i x 0 (omega arith) ∙ run_at n gs (first + i) x here),
      λ l.
          let m : first + (i + 1) ≡ next = omega arith in
          let less : next - 1 ≡ first + i = omega arith in
          let few : t < empty_below T n = trailing_few (empty_below T n) next t ends (omega arith) in
          subst (λ j. Run n gs j (bit_xor x (get_or c.steps-steps.result t 0))) (sym m)
          (run_next n low high ws T r next t x (get_or c.steps-steps.result t 0) ends (subst (λ j. Run n gs j x) (sym less) here) (c.steps-steps.ensures ws low r t few)),
    )

-- all runs are written
pub returns : goal.returns
returns c ws low r =
    let n = c.args.self.now.factors in
    let first = c.args.first in
    let L = runs_upto n (generated two n ws) (2 ^ n) in
    let xs = c.loop-i.memory in
    let m = length c.args.memory.now in
    let rest = rest_length n low c.args.self.now.few ws c.args.self.now.rows first r in
    same_number_lists xs (take m (drop first L)) (omega (arith, length-take m (drop first L)))
    (λ k l. (c.loop-i.invariant ws low r).0 k (omega arith) ∙ sym (get_or-take m (drop first L) k 0 (omega arith) ∙ get_or-drop first L k 0))
