use Rattle.std.proofs.Common.{◌≡◌, ℕ, nat_le, sym, ap, ap₂, ◌∙◌}
use Rattle.std.proofs.lemmas.Bool.{cond-true}
use Rattle.levels.specs.Words.{legal, word_length, word_sum}
use Rattle.preferences.specs.Built.{length_score}
use Rattle.preferences.specs.Verdicts.{verdict_of}
use Rattle.levels.proofs.Apart.{apart_length, sum_is_one}
use Rattle.preferences.proofs.shortest.ShortestPreference.prefer_to_sum.Goals as goal

-- a sum has its digits other than 0 where the first word is not the opposite of the second
pub returns : goal.returns
returns g c fair word sum =
    let A = g.L.Levels.model in
    let L = g.met.L.Levels.lawful in
    let n = c.args._base.now.factors in
    let a = c.args.sum.first in
    let b = c.args.sum.second in
    let o = c.args.sum.opposite in
    let w = word_sum A n a b in
    let one : c.from.result ≡ length_score A n c.args.word =
    c.from.ensures ∙ c.length.ensures ∙ sym (cond-true (legal A n c.args.word) (word_length A c.args.word) 0 word) in
    let two : c.from-2.result ≡ length_score A n w =
    c.from-2.ensures ∙ c.length-2.ensures ∙ ap (word_length A) c.places.ensures ∙ apart_length A L n a b o sum.first sum.second sum.opposite sum.none
    ∙ sym (cond-true (legal A n w) (word_length A w) 0 (sum_is_one A L n a b o sum.first sum.second sum.opposite sum.none)) in
    c.smaller.ensures ∙ ap₂ (λ (x y : ℕ). verdict_of (nat_le x y) (nat_le y x)) one two
