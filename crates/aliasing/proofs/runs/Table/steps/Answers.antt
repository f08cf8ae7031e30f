use Rattle.std.proofs.Common.{suc, ◌-◌, ◌^◌, ◌<◌, arith, rules}
use Rattle.levels.specs.Arithmetic.{two}
use Rattle.levels.specs.Generated.{generated}
use Rattle.aliasing.specs.Runs.{Run}
use Rattle.aliasing.specs.Table.{empty_below}
use Rattle.aliasing.proofs.Called.{each_called}
use Rattle.aliasing.proofs.Chosen.{empty_most}
use Rattle.aliasing.proofs.runs.Table.steps.Goals as goal

-- each step is at its place
pub returns : goal.returns
returns c ws low r t few =
    let n = c.args.self.now.factors in
    let T = c.args.self.now.rows in
    let most : t < 33 = omega (arith, empty_most T n, c.args.self.now.few) in
    each_called _ (λ t y. t < empty_below T n → Run n (generated two n ws) (2 ^ suc t - 1) y) _ c.from_fn.result 33 0 c.from_fn.ensures.items.each (λ x y q k. let a = k.met.0 in let b = k.met.1 in ((λ j. record { 0 = b j }), λ l. search (rules, a))) t (omega arith) most few
