use Rattle.std.proofs.Common.{◌≡◌, ℕ, length, nat_le, sym, ap, ◌∙◌, subst, rules}
use Rattle.std.proofs.lemmas.List.{nil_from_length}
use Rattle.levels.specs.Space.{Word}
use Rattle.levels.specs.Words.{word_length, word_sum}
use Rattle.levels.proofs.Lengths.{sum_code}
use Rattle.preferences.specs.Built.{least_aberration}
use Rattle.preferences.specs.Counts.{lengths_of_words}
use Rattle.preferences.specs.Verdicts.{verdict_of}
use Rattle.levels.proofs.Apart.{apart_length, sum_is_one}
use Rattle.preferences.proofs.aberration.LeastAberrationPreference.prefer_to_sum.Goals as goal

-- without base words the lengths decide
pub returns-then-is_empty : goal.returns-then-is_empty
returns-then-is_empty g c fair word sum =
    let A = g.L.Levels.model in
    let L = g.met.L.Levels.lawful in
    let n = c.args.base.now.factors in
    let a = c.args.sum.first in
    let b = c.args.sum.second in
    let o = c.args.sum.opposite in
    let none : length c.args.base.now.words.now ≡ 0 = search rules in
    let same = ap (word_length A) c.places.ensures ∙ apart_length A L n a b o sum.first sum.second sum.opposite sum.none in
    c.longer.ensures
    ∙ ap (λ (k : ℕ). verdict_of (nat_le k (word_length A c.args.word)) (nat_le (word_length A c.args.word) k)) same
    ∙ lengths_of_words A L n c.args.base.now.words.now c.args.word (word_sum A n a b) (nil_from_length c.args.base.now.words.now none) word (sum_is_one A L n a b o sum.first sum.second sum.opposite sum.none)

-- else the aliases of the sum are counted
pub returns-else-is_empty : goal.returns-else-is_empty
returns-else-is_empty g c fair word sum =
    let A = g.L.Levels.model in
    let L = g.met.L.Levels.lawful in
    let n = c.args.base.now.factors in
    let words = c.args.base.now.words.now in
    let good = least_aberration A in
    let a = c.args.sum.first in
    let b = c.args.sum.second in
    let is : c.word.result ≡ word_sum A n a b = c.word.ensures ∙ sym (sum_code A L n a b sum.first sum.second) in
    let one = sum_is_one A L n a b c.args.sum.opposite sum.first sum.second sum.opposite sum.none in
    subst (λ (x : ℕ). c.fewer_of_words.result ≡ verdict_of (good n words c.args.word x) (good n words x c.args.word)) is
    (c.fewer_of_words.ensures fair word (subst (Word A n) (sym is) one))
