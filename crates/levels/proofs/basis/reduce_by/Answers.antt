use Rattle.std.proofs.lemmas.List.{take_more, take_all}
use Rattle.std.proofs.Common.{◌+◌, get_or, take}
use Rattle.levels.proofs.Reduced.{left_first, left_more, left_least, echelon_take}
use Rattle.levels.proofs.basis.reduce_by.Goals as goal

-- by no rows, the word is left
pub loop-row-init : goal.loop-row-init
loop-row-init g c e hw = left_first g.L.Levels.model g.met.L.Levels.lawful c.args.n c.args.word hw

-- by one row more, its least multiple is left
pub loop-row-preserved : goal.loop-row-preserved
loop-row-preserved g c e hw =
    let A = g.L.Levels.model in
    let rows = c.args.rows.now in
    let i = c.loop-row.row-index in
    let l = c.loop-row-test.true in
    let p = c.loop-row.invariant e hw in
    let front = echelon_take A c.args.n (i + 1) rows e in
    rw (take_more rows i 0 l)
    (left_more A g.met.L.Levels.lawful c.args.n (take i rows) (get_or rows i 0) c.args.word c.loop-row.left c.least-left.result
    (rw (take_more rows i 0 l) at front) hw p (c.least-left.ensures (e.words i l) p.word))

-- what is left by all rows is the least alias
pub returns : goal.returns
returns g c e hw =
    let rows = c.args.rows.now in
    left_least g.L.Levels.model g.met.L.Levels.lawful c.args.n rows c.args.word c.loop-row.left e hw
    (rw (take_all c.loop-row.row-index rows c.loop-row-test.false) at (c.loop-row.invariant e hw))
