use Rattle.std.proofs.Common.{◌≡◌, Bool, true, false, not, ◌&&◌, ◌||◌, ◌⊎◌, inl, inr, sym, refl, ◌∙◌, rules}
use Rattle.std.proofs.lemmas.Bool.{both_ways}
use Rattle.levels.specs.Words.{word_sum}
use Rattle.preferences.specs.declared.preference.Verdict.TheVariants.{Equal}
use Rattle.preferences.specs.Verdicts.{verdict_of}
use Rattle.levels.proofs.Apart.{sum_is_one}
use Rattle.preferences.proofs.ranked.FirstThenSecondPreference.prefer_to_sum.Goals as goal

-- where the first finds the words equal, and one of them is at least as good, both are
second_decides : (p q r s : Bool) → (p ≡ true) ⊎ (q ≡ true) → verdict_of p q ≡ Equal → verdict_of r s ≡ verdict_of (p && (not q || r)) (q && (not p || s))
second_decides true true r s t e = refl
second_decides true false r s t e = search rules
second_decides false true r s t e = search rules
second_decides false false r s t e = elim t [ inl h ↦ absurd (both_ways false refl h) | inr h ↦ absurd (both_ways false refl h) ]

-- the second decides
pub returns-in-Equal : goal.returns-in-Equal
returns-in-Equal g c fair word sum =
    let A = g.L.Levels.model in
    let n = c.args.base.now.factors in
    let words = c.args.base.now.words.now in
    let first = g.P.Preference.good c.args.self.now.first in
    let second = g.Q.Preference.good c.args.self.now.second in
    let a = c.args.word in
    let b = word_sum A n c.args.sum.first c.args.sum.second in
    let one = sum_is_one A g.met.L.Levels.lawful n c.args.sum.first c.args.sum.second c.args.sum.opposite sum.first sum.second sum.opposite sum.none in
    c.prefer_to_sum-in-Equal.ensures fair word sum
    ∙ second_decides (first n words a b) (first n words b a) (second n words a b) (second n words b a) ((g.met.P.Preference.lawful c.args.self.now.first).total n words fair a b word one)
    (sym (c.prefer_to_sum.ensures fair word sum) ∙ c.in-Equal.is)
