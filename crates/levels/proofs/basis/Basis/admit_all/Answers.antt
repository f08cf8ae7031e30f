use Rattle.std.proofs.lemmas.List.{take_more}
use Rattle.std.proofs.Common.{get_or, take}
use Rattle.levels.specs.Rows.{basis_rows}
use Rattle.levels.proofs.Growth.{extended_more}
use Rattle.levels.proofs.basis.Basis.admit_all.Goals as goal

-- one word more
pub loop-word-preserved : goal.loop-word-preserved
loop-word-preserved g c =
    let ws = c.args.words.now in
    let i = c.loop-word.word-index in
    rw (take_more ws i 0 c.loop-word-test.true)
    (extended_more g.L.Levels.model g.met.L.Levels.lawful c.args.n (basis_rows c.args.self.now) (take i ws) (basis_rows c.loop-word.self)
    (get_or ws i 0) (basis_rows c.admit.new.self) c.loop-word.invariant c.admit.ensures.extended)
