use Rattle.std.proofs.Common.{ℕ, sym, ◌∙◌, subst}
use Rattle.std.specs.Bool.{OnTrue, OnFalse}
use Rattle.levels.specs.Space.{Word}
use Rattle.levels.proofs.Lengths.{sum_code}
use Rattle.levels.proofs.Apart.{sum_is_one}
use Rattle.choice.specs.Search.{NoLater}
use Rattle.choice.specs.Judged.{order_of}
use Rattle.choice.proofs.judge.Judge.precedes_next_sum.Goals as goal

-- the sum is a word
pub precedes_next-requires-clause-word : goal.precedes_next-requires-clause-word
precedes_next-requires-clause-word g c =
    let A = g.L.Levels.model in
    let L = g.met.L.Levels.lawful in
    let n = c.args.self.now.factors in
    let sum = c.requires.sum in
    let s = c.args.sum in
    subst (Word A n) (sum_code A L n s.first s.second sum.first sum.second ∙ sym c.word.ensures) (sum_is_one A L n s.first s.second s.opposite sum.first sum.second sum.opposite sum.none)

-- that word is asked about
pub returns-else-is_none-clause-yes : goal.returns-else-is_none-clause-yes
returns-else-is_none-clause-yes g c =
    let A = g.L.Levels.model in
    let sum = c.requires.sum in
    let s = c.args.sum in
    subst (λ (x : ℕ). OnTrue c.precedes_next.result (NoLater (order_of A g.P.Preference.good c.args.self.now) c.args.candidate.now.word x))
    (c.word.ensures ∙ sym (sum_code A g.met.L.Levels.lawful c.args.self.now.factors s.first s.second sum.first sum.second)) c.precedes_next.ensures.yes

pub returns-else-is_none-clause-no : goal.returns-else-is_none-clause-no
returns-else-is_none-clause-no g c =
    let A = g.L.Levels.model in
    let sum = c.requires.sum in
    let s = c.args.sum in
    subst (λ (x : ℕ). OnFalse c.precedes_next.result (NoLater (order_of A g.P.Preference.good c.args.self.now) x c.args.candidate.now.word))
    (c.word.ensures ∙ sym (sum_code A g.met.L.Levels.lawful c.args.self.now.factors s.first s.second sum.first sum.second)) c.precedes_next.ensures.no
