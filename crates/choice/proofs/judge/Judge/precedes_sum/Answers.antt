use Rattle.std.proofs.Common.{rules, ◌≡◌, sym, ap, ◌∙◌}
use Rattle.levels.specs.Words.{word_sum}
use Rattle.levels.specs.Space.{Word}
use Rattle.levels.proofs.Lengths.{sum_code}
use Rattle.levels.proofs.Apart.{sum_is_one}
use Rattle.choice.specs.Search.{first_stands}
use Rattle.choice.proofs.judge.Judge.precedes_sum.Goals.{then-self, else-self}
use Rattle.choice.proofs.judge.Judge.precedes_sum.Goals as goal

-- the verdict is on the word that the sum is
pub returns-clause-yes : goal.returns-clause-yes
returns-clause-yes g c =
    let A = g.L.Levels.model in
    let L = g.met.L.Levels.lawful in
    let s = c.args.self.now in
    let n = s.factors in
    let base = s.base.words.now in
    let same = s.same in
    let aware = s.aware in
    let sum = c.requires.second in
    let a = c.args.a in
    let b = word_sum A n c.args.sum.first c.args.sum.second in
    let one : Word A n b = sum_is_one A L n c.args.sum.first c.args.sum.second c.args.sum.opposite sum.first sum.second sum.opposite sum.none in
    let is : c.word.result ≡ b = c.word.ensures ∙ sym (sum_code A L n c.args.sum.first c.args.sum.second sum.first sum.second) in
    let stands = c.before_second.ensures ∙ ap (first_stands c.if-self.verdict a) is in
    let laws = (g.met.P.Preference.lawful s.preference.now).total n base in
    elim c.if-self.branch [
      | then-self w ↦ let verdict = w.prefer_to_sum-verdict.ensures in let on = w.if-self in let v = w.verdict-is in search (rules, laws, verdict)
      | else-self w ↦ let off = w.if-self in let v = w.verdict-is in search rules
    ]

pub returns-clause-no : goal.returns-clause-no
returns-clause-no g c =
    let A = g.L.Levels.model in
    let L = g.met.L.Levels.lawful in
    let s = c.args.self.now in
    let n = s.factors in
    let base = s.base.words.now in
    let same = s.same in
    let aware = s.aware in
    let sum = c.requires.second in
    let a = c.args.a in
    let b = word_sum A n c.args.sum.first c.args.sum.second in
    let one : Word A n b = sum_is_one A L n c.args.sum.first c.args.sum.second c.args.sum.opposite sum.first sum.second sum.opposite sum.none in
    let is : c.word.result ≡ b = c.word.ensures ∙ sym (sum_code A L n c.args.sum.first c.args.sum.second sum.first sum.second) in
    let stands = c.before_second.ensures ∙ ap (first_stands c.if-self.verdict a) is in
    let laws = (g.met.P.Preference.lawful s.preference.now).total n base in
    elim c.if-self.branch [
      | then-self w ↦ let verdict = w.prefer_to_sum-verdict.ensures in let on = w.if-self in let v = w.verdict-is in search (rules, laws, verdict)
      | else-self w ↦ let off = w.if-self in let v = w.verdict-is in search rules
    ]
