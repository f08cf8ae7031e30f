use Rattle.std.proofs.Common.{ℕ, ◌-◌, List, length, get_or, ap, ◌∙◌, arith}
use Rattle.levels.specs.Rows.{basis_rows}
use Rattle.choice.specs.Judged.{Beside, words_of}
use Rattle.choice.proofs.Least.{none_ahead, first_found}
use Rattle.levels.specs.Leaves.{leaf_words}
use Rattle.choice.proofs.judge.Judge.next_ahead.Goals as goal

-- the sums before the first that is ahead change nothing
pub returns-in-Some-clause-some : goal.returns-in-Some-clause-some
returns-in-Some-clause-some g c =
    let s = c.args.self.now in
    let all = c.words-words.ensures in
    first_found g.L.Levels.model g.met.L.Levels.lawful (g.P.Preference.good s.preference.now) (g.met.P.Preference.lawful s.preference.now) s.factors s.room s.base.words.now (basis_rows s.known) s.spans s.echelon s.alike c.requires.kept.2
    (words_of c.args.progress.now) c.requires.kept.0 (omega (arith, c.if-words-self.false, ap length all)) c.in-Some.last.now.word (c.in-Some.ensures.0 ∙ ap (λ (us : List ℕ). get_or us (length us - 1) 0) all)
    (leaf_words c.args.leaves.now) c.args.start c.requires.start c.requires.leaves.least c.args.first (Beside g.L.Levels.model s c.args.progress.now) c.requires.kept.1 c.first_ahead.result c.first_ahead.ensures.some

-- nor do any
pub returns-in-Some-clause-none : goal.returns-in-Some-clause-none
returns-in-Some-clause-none g c =
    let s = c.args.self.now in
    let all = c.words-words.ensures in
    none_ahead g.L.Levels.model g.met.L.Levels.lawful (g.P.Preference.good s.preference.now) (g.met.P.Preference.lawful s.preference.now) s.factors s.room s.base.words.now (basis_rows s.known) s.spans s.echelon s.alike c.requires.kept.2
    (words_of c.args.progress.now) c.requires.kept.0 (omega (arith, c.if-words-self.false, ap length all)) c.in-Some.last.now.word (c.in-Some.ensures.0 ∙ ap (λ (us : List ℕ). get_or us (length us - 1) 0) all)
    (leaf_words c.args.leaves.now) c.args.start c.requires.start c.requires.leaves.least c.args.first (Beside g.L.Levels.model s c.args.progress.now) c.requires.kept.1 c.first_ahead.result c.first_ahead.ensures.none

-- the same where the candidate was made anew
pub returns-in-None-clause-some : goal.returns-in-None-clause-some
returns-in-None-clause-some g c =
    let s = c.args.self.now in
    let all = c.words-words.ensures in
    first_found g.L.Levels.model g.met.L.Levels.lawful (g.P.Preference.good s.preference.now) (g.met.P.Preference.lawful s.preference.now) s.factors s.room s.base.words.now (basis_rows s.known) s.spans s.echelon s.alike c.requires.kept.2
    (words_of c.args.progress.now) c.requires.kept.0 (omega (arith, c.if-words-self.false, ap length all)) c.ready-last.result.word (c.ready-last.ensures.word ∙ ap (λ (us : List ℕ). get_or us (length us - 1) 0) all)
    (leaf_words c.args.leaves.now) c.args.start c.requires.start c.requires.leaves.least c.args.first (Beside g.L.Levels.model s c.args.progress.now) c.requires.kept.1 c.first_ahead-in-None.result c.first_ahead-in-None.ensures.some

pub returns-in-None-clause-none : goal.returns-in-None-clause-none
returns-in-None-clause-none g c =
    let s = c.args.self.now in
    let all = c.words-words.ensures in
    none_ahead g.L.Levels.model g.met.L.Levels.lawful (g.P.Preference.good s.preference.now) (g.met.P.Preference.lawful s.preference.now) s.factors s.room s.base.words.now (basis_rows s.known) s.spans s.echelon s.alike c.requires.kept.2
    (words_of c.args.progress.now) c.requires.kept.0 (omega (arith, c.if-words-self.false, ap length all)) c.ready-last.result.word (c.ready-last.ensures.word ∙ ap (λ (us : List ℕ). get_or us (length us - 1) 0) all)
    (leaf_words c.args.leaves.now) c.args.start c.requires.start c.requires.leaves.least c.args.first (Beside g.L.Levels.model s c.args.progress.now) c.requires.kept.1 c.first_ahead-in-None.result c.first_ahead-in-None.ensures.none
