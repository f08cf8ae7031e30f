use Rattle.std.proofs.Common.{◌≡◌, ◌<◌, arith}
use Rattle.levels.specs.Words.{code_sum, word_multiple}
use Rattle.levels.proofs.Reduced.{least_first, least_more}
use Rattle.levels.proofs.basis.least.Goals as goal

-- below level 1 it is the word itself
pub loop-level-init : goal.loop-level-init
loop-level-init g c hv hw = least_first g.L.Levels.model g.met.L.Levels.lawful c.args.n c.args.row c.args.word hv hw

-- one multiple more
pub loop-level-preserved : goal.loop-level-preserved
loop-level-preserved g c hv hw =
    let A = g.L.Levels.model in
    let k = c.loop-level.level in
    let lt : k < A.s = omega (arith, c.LEVELS-level-end.ensures, g.met.L.Levels.levels, c.loop-level-test.true) in
    let sum = c.add.ensures in
    let product = c.product.ensures in
    let e : c.add.result ≡ code_sum A c.args.word (word_multiple A c.args.n k c.args.row) = cc in
    rw c.min-smallest.ensures
    (least_more A g.met.L.Levels.lawful c.args.n c.args.row c.args.word hv hw k c.loop-level.smallest c.add.result lt e (c.loop-level.invariant hv hw))
