use Rattle.std.proofs.Common.{◌&&◌, sym, ◌∙◌}
use Rattle.std.proofs.lemmas.Bool.{and_parts, cond-true}
use Rattle.levels.specs.Words.{legal}
use Rattle.preferences.specs.declared.preference.Verdict.TheVariants.{Equal}
use Rattle.preferences.specs.Relation.{fair}
use Rattle.preferences.specs.Built.{cheapest}
use Rattle.preferences.specs.Verdicts.{verdict_of}
use Rattle.preferences.proofs.Tables.{score_word}
use Rattle.preferences.proofs.cheapest.CheapestPreference.compare.Goals as goal

-- what is judged are words, and their totals are their scores
pub returns-then-judged : goal.returns-then-judged
returns-then-judged g c =
    let A = g.L.Levels.model in
    let costs = c.args.self.now.costs in
    let n = c.args.n in
    let base = c.args.base.now in
    let a = c.args.a in
    let b = c.args.b in
    let judged = sym c.judged.ensures ∙ c.if-judged.true in
    let words = and_parts (legal A n a) (legal A n b) (and_parts (fair A n base) (legal A n a && legal A n b) judged).1 in
    let first = score_word A costs n a words.0 in
    let second = score_word A costs n b words.1 in
    let cheaper = c.cheaper.ensures in
    let good = cheapest A costs in
    let verdict = cond-true (fair A n base && (legal A n a && legal A n b)) (verdict_of (good n base a b) (good n base b a)) Equal judged in
    cc
