use Rattle.std.proofs.Common.{◌≡◌, ℕ, suc, ◌-◌, ◌*◌, ◌%◌, ◌^◌, ◌<◌, sym, ap, ◌∙◌, subst, mod-eq_of_lt, pow-suc, arith}
use Rattle.std.proofs.Math.Pow.{pow_mono}
use Rattle.std.proofs.lemmas.Nat.{pow_pos}
use Rattle.levels.specs.Arithmetic.{two}
use Rattle.levels.specs.Generated.{generated}
use Rattle.aliasing.specs.Runs.{Run}
use Rattle.aliasing.specs.Table.{empty_below}
use Rattle.aliasing.proofs.Chosen.{total}
use Rattle.aliasing.proofs.Consecutive.{run_there}
use Rattle.aliasing.proofs.runs.Table.step.Goals as goal

-- the power is not cut off
shifted : (t : ℕ) → t < 33 → 2 * 2 ^ t % 2 ^ 64 ≡ 2 ^ suc t
shifted t l =
    let whole : 2 * 2 ^ t ≡ 2 ^ suc t = omega (arith, pow-suc 2 t) in
    ap (λ m. m % 2 ^ 64) whole ∙ mod-eq_of_lt (omega (arith, pow_mono {i = suc t} {j = 33} (omega arith)))

-- there are more runs
pub returns : goal.returns
returns c ws low r few =
    let n = c.args.self.now.factors in
    let T = c.args.self.now.rows in
    let t = c.args.zeros in
    let gs = generated two n ws in
    let place = ap (λ m. m - 1) (shifted t c.requires) in
    let more = pow_mono {i = suc t} {j = empty_below T n} few in
    subst (Run n gs (2 ^ suc t - 1)) (sym c.unwrap_or.ensures)
    (run_there n gs (2 * 2 ^ t % 2 ^ 64 - 1) (2 ^ suc t - 1) c.run.result place (omega (arith, more, pow_pos (suc t), total n low c.args.self.now.few ws T r)) (c.run.ensures ws low r))
