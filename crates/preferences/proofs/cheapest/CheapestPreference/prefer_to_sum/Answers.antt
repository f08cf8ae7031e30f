use Rattle.std.proofs.Common.{◌≡◌, ℕ, ap, ◌∙◌}
use Rattle.levels.specs.Words.{digits, word_sum}
use Rattle.levels.specs.Space.{Word}
use Rattle.preferences.specs.Built.{cost}
use Rattle.levels.proofs.Apart.{sum_is_one}
use Rattle.preferences.proofs.Places.{apart_cost}
use Rattle.preferences.proofs.Tables.{score_word}
use Rattle.preferences.proofs.cheapest.CheapestPreference.prefer_to_sum.Goals as goal

-- a sum has its digits other than 0 where the first word is not the opposite of the second
pub returns : goal.returns
returns g c fair word sum =
    let A = g.L.Levels.model in
    let L = g.met.L.Levels.lawful in
    let costs = c.args.self.now.costs in
    let n = c.args._base.now.factors in
    let s = c.args.sum in
    let w = word_sum A n s.first s.second in
    let one : Word A n w = sum_is_one A L n s.first s.second s.opposite sum.first sum.second sum.opposite sum.none in
    let a = score_word A costs n c.args.word word in
    let b = score_word A costs n w one in
    let e = c.total.ensures in
    let f : c.total-other.result ≡ cost costs (digits A 32 w) =
    c.total-other.ensures ∙ ap (λ (x : ℕ). cost costs (digits A 32 x)) c.places.ensures ∙ apart_cost A L n s.first s.second s.opposite sum.first sum.second sum.opposite sum.none costs in
    let verdict = c.smaller.ensures in
    let p = c.from.ensures in
    let q = c.from-2.ensures in
    cc
