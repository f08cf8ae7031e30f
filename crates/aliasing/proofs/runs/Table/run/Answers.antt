use Rattle.std.proofs.Common.{◌≡◌, ℕ, ◌*◌, ◌%◌, ◌+◌, ◌-◌, ◌^◌, ◌<◌, ◌≤◌, cond, sym, ap, ◌∙◌, subst, inl, inr, arith}
use native.Mathlib.Nat.{zero-mod}
use Rattle.std.proofs.lemmas.Nat.{one_shl}
use Rattle.aliasing.proofs.Chosen.{ChosenFrom, choose, chosen_all, choice_first, empty_most, total}
use Rattle.aliasing.proofs.runs.Table.run.Goals as goal
use Rattle.aliasing.proofs.runs.Table.run.Goals.{then-row-eq0, else-row-eq0}

-- a power of so many digits is not cut off
power : (k : ℕ) → k ≤ 32 → 1 * 2 ^ k % 2 ^ 64 ≡ 2 ^ k
power k few = one_shl k 64 (omega (arith, few))

-- no level is chosen yet
pub loop-p-init : goal.loop-p-init
loop-p-init c = record {
  whole = zero-mod (2 ^ c.args.self.now.factors);
  room = omega arith;
  left = c.free_factors-digits.ensures.count;
  choice = λ ws low high r. choice_first c.args.self.now.factors low high ws c.args.self.now.rows r c.args.m (subst (λ k. c.args.m < 2 ^ k) c.free_factors-digits.ensures.count (omega (arith, power c.free_factors-digits.result c.free_factors-digits.ensures.few, c.if-m-digits.false)));
}

-- at most 32 digits are left
few_digits : (c : goal.Then-row-eq0) → c.loop-p.digits ≤ 32
few_digits c = omega (arith, c.loop-p.invariant.left, empty_most c.args.self.now.rows c.loop-p.p, c.loop-p.auto.p, c.args.self.now.few)

-- and is below the bits of a code
pub overflow_shr-one : goal.overflow_shr-one
overflow_shr-one c = omega (arith, few_digits c)

-- level 1 at this factor
pub loop-p-preserved-then-one : goal.loop-p-preserved-then-one
loop-p-preserved-then-one c =
    let p = c.loop-p.p in
    let x = c.loop-p.code in
    let shift = ap (λ k. x + k) (sym (one_shl (p - 1) 64 (omega (arith, c.loop-p.auto.p, c.args.self.now.few)))) in
    subst (λ y. ChosenFrom c.args.self.now.factors c.args.self.now.rows c.args.m (p - 1) y c.if-row-eq0.digits)
    (ap (λ b. cond b (x + 2 ^ (p - 1)) x) c.if-one.true ∙ shift)
    (choose c.args.self.now.factors c.args.self.now.rows c.args.m p x c.loop-p.digits c.if-row-eq0.digits c.if-row-eq0.one c.loop-p-test.true c.loop-p.auto.p
    (elim c.if-row-eq0.branch [
      | then-row-eq0 w ↦ inl (rw c.from.ensures at w.if-row-eq0.true, w.digits-is, w.one-is)
      | else-row-eq0 w ↦ inr (rw c.from.ensures at w.if-row-eq0.false, w.digits-is, rw c.from.ensures at (w.one-is ∙ w.parity-one.ensures.bits))
    ])
    c.loop-p.invariant)

-- level 0 at this factor
pub loop-p-preserved : goal.loop-p-preserved
loop-p-preserved c =
    let p = c.loop-p.p in
    let x = c.loop-p.code in
    subst (λ y. ChosenFrom c.args.self.now.factors c.args.self.now.rows c.args.m (p - 1) y c.if-row-eq0.digits)
    (ap (λ b. cond b (x + 2 ^ (p - 1)) x) c.if-one.false)
    (choose c.args.self.now.factors c.args.self.now.rows c.args.m p x c.loop-p.digits c.if-row-eq0.digits c.if-row-eq0.one c.loop-p-test.true c.loop-p.auto.p
    (elim c.if-row-eq0.branch [
      | then-row-eq0 w ↦ inl (rw c.from.ensures at w.if-row-eq0.true, w.digits-is, w.one-is)
      | else-row-eq0 w ↦ inr (rw c.from.ensures at w.if-row-eq0.false, w.digits-is, rw c.from.ensures at (w.one-is ∙ w.parity-one.ensures.bits))
    ])
    c.loop-p.invariant)

-- no more runs than the free factors allow
pub returns-then-m-digits : goal.returns-then-m-digits
returns-then-m-digits c ws low r =
    let n = c.args.self.now.factors in
    let T = c.args.self.now.rows in
    omega (arith, total n low c.args.self.now.few ws T r ∙ ap (λ k. 2 ^ k) (sym c.free_factors-digits.ensures.count), power c.free_factors-digits.result c.free_factors-digits.ensures.few, c.if-m-digits.true)

-- all levels are chosen
pub returns : goal.returns
returns c ws low r =
    let n = c.args.self.now.factors in
    let T = c.args.self.now.rows in
    chosen_all n T c.args.m c.loop-p.p c.loop-p.code c.loop-p.digits c.loop-p-test.false c.loop-p.invariant ws low c.args.self.now.few r
