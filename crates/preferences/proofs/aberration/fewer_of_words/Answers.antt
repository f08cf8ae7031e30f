use Rattle.std.proofs.Common.{◌∙◌, arith}
use Rattle.preferences.proofs.Tallies.{tallies_verdict}
use Rattle.preferences.proofs.aberration.fewer_of_words.Goals as goal

-- tallies are in the order of least aberration
pub returns : goal.returns
returns g c fair first second =
    let base = c.args.base.now in
    c.fewer.ensures
    ∙ tallies_verdict g.L.Levels.model g.met.L.Levels.lawful base.factors base.words.now c.args.a c.args.b c.tally.result c.tally-2.result fair first second (omega arith, c.tally.ensures) (omega arith, c.tally-2.ensures)
