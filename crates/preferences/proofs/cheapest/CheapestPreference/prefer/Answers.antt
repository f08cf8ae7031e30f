use Rattle.preferences.proofs.Tables.{score_word}
use Rattle.preferences.proofs.cheapest.CheapestPreference.prefer.Goals as goal

-- the totals of words are their scores
pub returns : goal.returns
returns g c fair first second =
    let A = g.L.Levels.model in
    let costs = c.args.self.now.costs in
    let n = c.args._base.now.factors in
    let a = score_word A costs n c.args.a first in
    let b = score_word A costs n c.args.b second in
    let verdict = c.cheaper.ensures in
    cc
