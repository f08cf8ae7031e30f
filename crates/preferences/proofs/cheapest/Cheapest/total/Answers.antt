use Rattle.std.proofs.Common.{◌≡◌, ℕ, ◌*◌, ◌/◌, ◌^◌, List, Bor, length, inl, inr, sym, subst, arith}
use Rattle.levels.specs.Words.{digits}
use Rattle.preferences.specs.Sums.{AreSums, mask_order}
use Rattle.preferences.proofs.Points.{cost_most}
use Rattle.preferences.proofs.Tables.{few_bits, from_start, from_part, from_end}
use Rattle.preferences.proofs.Masks.{cost_mask, order_length}
use Rattle.preferences.proofs.cheapest.Cheapest.total.Goals as goal
use Rattle.preferences.proofs.cheapest.Cheapest.total.Goals.{then-BITS-eq1, else-BITS-eq1}

pub loop-k-init : goal.loop-k-init
loop-k-init g c =
    let A = g.L.Levels.model in
    let s = c.args.self.now in
    let m = c.mask_of-mask.result in
    let size : length s.costs ≡ 32 = omega arith in
    record {
      sums = elim c.if-BITS-eq1.branch [
        | then-BITS-eq1 w ↦
            let one : 1 ≡ A.bits = omega (arith, w.if-BITS-eq1.true, c.BITS.ensures, g.met.L.Levels.bits) in
            subst (λ (r : Bor (List ℕ)). AreSums (mask_order A.bits s.costs) r.now) (sym w.sums-is) (subst (λ b. AreSums (mask_order b s.costs) s.one_bit) one s.one)
        | else-BITS-eq1 w ↦
            let other : 2 ≡ A.bits = elim (few_bits A g.met.L.Levels.lawful) [ inl e ↦ absurd (omega (arith, e, w.if-BITS-eq1.false, c.BITS.ensures, g.met.L.Levels.bits)) | inr e ↦ sym e ] in
            subst (λ (r : Bor (List ℕ)). AreSums (mask_order A.bits s.costs) r.now) (sym w.sums-is) (subst (λ b. AreSums (mask_order b s.costs) s.two_bits) other s.two)
      ];
      total = omega (arith, from_start (mask_order A.bits s.costs) m (order_length A.bits s.costs size), cost_mask A s.costs c.args.word m size c.mask_of-mask.ensures);
    }

pub overflow_add-total-in-loop-k : goal.overflow_add-total-in-loop-k
overflow_add-total-in-loop-k g c =
    let A = g.L.Levels.model in
    let costs = c.args.self.now.costs in
    let part = from_part (mask_order A.bits costs) c.if-BITS-eq1.sums.now c.loop-k.invariant.sums c.mask_of-mask.result c.loop-k.k c.loop-k-test.true in
    let most = cost_most costs (digits A 32 c.args.word) c.args.self.now.small in
    record { fits = omega (arith, part, most) }

pub loop-k-preserved : goal.loop-k-preserved
loop-k-preserved g c =
    let A = g.L.Levels.model in
    let costs = c.args.self.now.costs in
    let part = from_part (mask_order A.bits costs) c.if-BITS-eq1.sums.now c.loop-k.invariant.sums c.mask_of-mask.result c.loop-k.k c.loop-k-test.true in
    record { sums = c.loop-k.invariant.sums; total = omega (arith, part, c.loop-k.invariant.total) }

-- behind the last part
pub returns : goal.returns
returns g c =
    let A = g.L.Levels.model in
    let k = c.loop-k.k in
    let end = from_end (mask_order A.bits c.args.self.now.costs) k (c.mask_of-mask.result / 2 ^ (6 * k)) (omega arith) in
    omega (arith, c.loop-k.invariant.total, end)
