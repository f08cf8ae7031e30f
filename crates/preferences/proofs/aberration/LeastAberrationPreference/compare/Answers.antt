use Rattle.std.proofs.Common.{◌≡◌, ◌&&◌, length, sym, ◌∙◌, rules}
use Rattle.std.proofs.lemmas.Bool.{and_parts, cond-true}
use Rattle.std.proofs.lemmas.List.{nil_from_length}
use Rattle.levels.specs.Words.{legal}
use Rattle.preferences.specs.declared.preference.Verdict.TheVariants.{Equal}
use Rattle.preferences.specs.Relation.{fair}
use Rattle.preferences.specs.Built.{least_aberration}
use Rattle.preferences.specs.Verdicts.{verdict_of}
use Rattle.preferences.specs.Counts.{lengths_of_words}
use Rattle.preferences.proofs.aberration.LeastAberrationPreference.compare.Goals as goal

-- what is judged are words, and without base words the lengths decide
pub returns-then-is_empty : goal.returns-then-is_empty
returns-then-is_empty g c =
    let A = g.L.Levels.model in
    let n = c.args.n in
    let base = c.args.base.now in
    let a = c.args.a in
    let b = c.args.b in
    let judged = sym c.judged.ensures ∙ c.if-not-judged.false in
    let words = and_parts (legal A n a) (legal A n b) (and_parts (fair A n base) (legal A n a && legal A n b) judged).1 in
    let none : length base ≡ 0 = search rules in
    let good = least_aberration A in
    let verdict = cond-true (fair A n base && (legal A n a && legal A n b)) (verdict_of (good n base a b) (good n base b a)) Equal judged in
    c.longer.ensures
    ∙ lengths_of_words A g.met.L.Levels.lawful n base a b (nil_from_length base none) words.0 words.1
    ∙ sym verdict
