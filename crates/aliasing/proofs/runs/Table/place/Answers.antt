use Rattle.std.proofs.Common.{ℕ, ◌+◌, ◌-◌, ◌<◌, List, sym, ap, ◌∙◌, arith}
use Rattle.aliasing.specs.Table.{placed}
use Rattle.aliasing.proofs.Placed.{placed_row, placed_added, placed_past}
use Rattle.aliasing.proofs.runs.Table.place.Goals as goal
use Rattle.aliasing.proofs.runs.Table.place.Goals.{then-letter-eq1+else-row-eq0, else-letter-eq1}

-- what is left becomes a row
pub returns-then-row-eq0 : goal.returns-then-row-eq0
returns-then-row-eq0 c =
    let table = c.args.self.now in
    let inv = c.loop-p.invariant in
    let p = c.loop-p.p in
    let left = c.loop-p.left in
    record {
      factors = ap (λ t. t.factors) inv.0;
      rows = rw c.from-then-row-eq0.ensures (sym (placed_row c.loop-p.self.factors p c.loop-p.self.rows left (omega (arith, c.loop-p-test.true, ap (λ t. t.factors) inv.0)) c.if-letter-eq1.true (rw c.from.ensures at c.if-row-eq0.true)) ∙ inv.1);
    }

-- one place on, with the row added where there is one
pub loop-p-preserved : goal.loop-p-preserved
loop-p-preserved c =
    let table = c.loop-p.self in
    let n = table.factors in
    let T = table.rows in
    let p = c.loop-p.p in
    let left = c.loop-p.left in
    let inv = c.loop-p.invariant in
    let lp : p < n = omega (arith, c.loop-p-test.true, ap (λ t. t.factors) inv.0) in
    let rest : ℕ → List ℕ = λ v. placed (n - (p + 1)) (p + 1) T v in (
      inv.0,
      elim c.if-letter-eq1.branch [
        | then-letter-eq1+else-row-eq0 w ↦ ap rest (rw w.from.ensures at w.left-is) ∙ sym (placed_added n p T left lp w.if-letter-eq1.true (rw w.from.ensures at w.if-row-eq0.false)) ∙ inv.1
        | else-letter-eq1 w ↦ ap rest w.left-is ∙ sym (placed_past n p T left lp w.if-letter-eq1.false) ∙ inv.1
      ],
    )
