use Rattle.std.proofs.Common.{◌+◌, ◌*◌, ◌^◌, ◌<◌, get_or, set, ap, sym, subst, arith}
use Rattle.preferences.proofs.Tables.{SumsUpto, sums_start, sums_next, few_values, sum_most}
use Rattle.preferences.proofs.cheapest.sums_of.Goals as goal

pub loop-part-init : goal.loop-part-init
loop-part-init c = sums_start c.args.costs.now

pub bounds-sums-part : goal.bounds-sums-part
bounds-sums-part c = omega (arith, few_values c.loop-bit.bit c.loop-bit-test.true, c.loop-rest.invariant.more)

pub bounds-sums-part-in-loop-rest : goal.bounds-sums-part-in-loop-rest
bounds-sums-part-in-loop-rest c = omega (arith, few_values c.loop-bit.bit c.loop-bit-test.true, c.loop-rest.invariant.more)

pub overflow_add-sums-in-loop-rest : goal.overflow_add-sums-in-loop-rest
overflow_add-sums-in-loop-rest c =
    let k = c.loop-part.part in
    let y = c.loop-rest.rest in
    let few = few_values c.loop-bit.bit c.loop-bit-test.true in
    let stand = c.loop-rest.invariant.sums.stand k y (omega (arith, few, c.loop-rest.invariant.more)) (omega (arith, c.loop-rest.invariant.more)) in
    let most = sum_most c.args.costs.now k y (omega arith) (λ i. omega (arith, c.fits-costs i)) in
    record { fits = omega (arith, stand, most, c.loop-rest.invariant.cost, c.fits-costs (6 * k + c.loop-bit.bit)) }

pub loop-rest-preserved : goal.loop-rest-preserved
loop-rest-preserved c =
    let k = c.loop-part.part in
    let j = c.loop-bit.bit in
    let y = c.loop-rest.rest in
    let sums = c.loop-rest.sums in
    let x = get_or sums (64 * k + y) 0 + c.map_or-cost.result in
    let below : y < 2 ^ j = omega (arith, c.loop-rest.invariant.more) in
    record {
      more = c.loop-rest.invariant.more;
      cost = c.loop-rest.invariant.cost;
      sums = subst (λ i. SumsUpto (64 * k + 2 ^ j + (y + 1)) c.args.costs.now (set sums (64 * k + i + y) x)) (sym c.loop-rest.invariant.more)
          (sums_next k j y x c.args.costs.now sums c.loop-part-test.true c.loop-bit-test.true below (ap (λ d. get_or sums (64 * k + y) 0 + d) c.loop-rest.invariant.cost) c.loop-rest.invariant.sums);
    }
