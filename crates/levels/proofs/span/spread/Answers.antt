use Rattle.std.proofs.Common.{length, sym, ap, ◌∙◌, arith}
use Rattle.bounded.specs.Items.{items_of}
use Rattle.levels.proofs.Leaves.{one_sum_more, zero_multiples}
use Rattle.levels.proofs.span.spread.Goals as goal

-- the multiple by 0 leaves the list as it is
pub loop-level-init : goal.loop-level-init
loop-level-init g c =
    sym (zero_multiples g.L.Levels.model g.met.L.Levels.lawful c.args.n c.args.word (items_of c.args.sums.now) c.requires.legal)

-- one more sum, for which there is room
pub loop-sum-preserved : goal.loop-sum-preserved
loop-sum-preserved g c =
    c.push.ensures
    ∙ one_sum_more g.L.Levels.model g.met.L.Levels.lawful c.args.n c.loop-level.level c.args.word c.product-multiple.result c.add.result c.loop-sum.sum-index
    (items_of c.args.sums.now) (items_of c.loop-sum.sums)
    (omega (arith, c.loop-level-test.true, c.LEVELS-level-end.ensures, g.met.L.Levels.levels))
    c.requires.room c.requires.legal c.product-multiple.ensures (omega (arith, c.loop-sum-test.true, ap length c.as_slice-sum-items.ensures))
    c.loop-sum.invariant (rw c.as_slice-sum-items.ensures at c.add.ensures)
