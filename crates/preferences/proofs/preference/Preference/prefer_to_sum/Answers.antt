use Rattle.std.proofs.Common.{◌≡◌, ℕ, sym, ◌∙◌, subst}
use Rattle.levels.specs.Space.{Word}
use Rattle.levels.specs.Words.{word_sum}
use Rattle.levels.proofs.Lengths.{sum_code}
use Rattle.preferences.specs.Verdicts.{verdict_of}
use Rattle.levels.proofs.Apart.{sum_is_one}
use Rattle.preferences.proofs.preference.Preference.prefer_to_sum.Goals as goal

-- the sum is a word
pub returns : goal.returns
returns g c fair word sum =
    let A = g.L.Levels.model in
    let L = g.met.L.Levels.lawful in
    let n = c.args.base.now.factors in
    let words = c.args.base.now.words.now in
    let good = g.Self.Preference.good c.args.self.now in
    let a = c.args.sum.first in
    let b = c.args.sum.second in
    let is : c.word.result ≡ word_sum A n a b = c.word.ensures ∙ sym (sum_code A L n a b sum.first sum.second) in
    let one = sum_is_one A L n a b c.args.sum.opposite sum.first sum.second sum.opposite sum.none in
    subst (λ (x : ℕ). c.prefer.result ≡ verdict_of (good n words c.args.word x) (good n words x c.args.word)) is
    (c.prefer.ensures fair word (subst (Word A n) (sym is) one))
