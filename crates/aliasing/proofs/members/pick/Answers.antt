use Rattle.std.proofs.Common.{◌<◌, ltb, Some, sym, ap, ◌∙◌, arith, below_more}
use Rattle.levels.specs.Alias.{how_many}
use Rattle.aliasing.specs.Blocks.{sums_below}
use Rattle.aliasing.proofs.Floors.{picked, pickable}
use Rattle.aliasing.proofs.members.pick.Goals as goal

-- the sum with so many smaller ones is found
pub returns-then-smaller-place : goal.returns-then-smaller-place
returns-then-smaller-place g c hv pv hy l =
    let A = g.L.Levels.model in
    let n = c.args.n in
    let v = c.args.row in
    let y = c.args.word in
    let k = c.loop-level.level in
    let lc : k < A.s = omega (arith, c.loop-level-test.true, c.LEVELS-level-end.ensures, g.met.L.Levels.levels) in
    let value = c.sum_with-sum.ensures in
    ap Some (value
    ∙ picked A g.met.L.Levels.lawful n v y hv pv hy k c.args.place lc
    (ap (λ w. how_many (λ z. ltb z w) (sums_below A n A.s v y)) (sym value) ∙ sym c.smaller.ensures ∙ c.if-smaller-place.true))

-- one more sum has another number of smaller ones
pub loop-level-preserved : goal.loop-level-preserved
loop-level-preserved g c =
    let A = g.L.Levels.model in
    below_more _ _ c.loop-level.invariant
    (λ e. c.if-smaller-place.false (c.smaller.ensures ∙ ap (λ w. how_many (λ z. ltb z w) (sums_below A c.args.n A.s c.args.row c.args.word)) c.sum_with-sum.ensures ∙ e))

-- one of the sums is at the place
pub returns : goal.returns
returns g c hv pv hy l =
    let A = g.L.Levels.model in
    let q = pickable A g.met.L.Levels.lawful c.args.n c.args.row c.args.word hv pv hy c.args.place l in
    absurd (c.loop-level.invariant q.0 (omega (arith, q.1, c.loop-level-test.false, c.LEVELS-level-end.ensures, g.met.L.Levels.levels)) q.2)
