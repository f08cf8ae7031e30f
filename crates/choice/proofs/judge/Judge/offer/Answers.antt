use Rattle.std.proofs.Common.{◌≡◌, ℕ, sym, subst}
use Rattle.levels.specs.Space.{Word}
use Rattle.levels.specs.Rows.{basis_rows}
use Rattle.preferences.specs.Candidates.{IsReady}
use Rattle.choice.specs.Judged.{OfferedTo, words_of, shared_rows}
use Rattle.choice.proofs.Least.{least_alias, shared_echelon}
use Rattle.choice.proofs.Offers.{offered_alias, shared_law, shared_base}
use Rattle.choice.proofs.judge.Judge.offer.Goals as goal

-- the word is one
pub enter-requires-clause-candidate : goal.enter-requires-clause-candidate
enter-requires-clause-candidate g c =
    let s = c.args.self.now in (
      subst (Word g.L.Levels.model s.factors) (sym c.ready.ensures.word) c.requires.word.word,
      subst (λ (k : ℕ). IsReady g.L.Levels.model k s.base.words.now c.ready.result) s.same c.ready.ensures.ready,
    )

-- it is offered for all that are alike
pub returns : goal.returns
returns g c =
    let A = g.L.Levels.model in
    let L = g.met.L.Levels.lawful in
    let s = c.args.self.now in
    let n = s.factors in
    let good = g.P.Preference.good s.preference.now in
    let laws = g.met.P.Preference.lawful s.preference.now in
    let base = s.base.words.now in
    let known = basis_rows s.known in
    let shared = shared_rows s in
    let word = c.args.word in
    let before = words_of c.args.progress.now in
    let least = least_alias A L n shared (shared_echelon A n known s.alike s.echelon) word c.requires.word in
    let alone = subst (λ (x : ℕ). OfferedTo A g.P.Preference.good s (λ (y : ℕ). y ≡ x) before c.enter.new.progress) c.ready.ensures.word c.enter.ensures in (
      offered_alias A L good laws n s.room base shared (shared_base A L n base known s.spans s.alike) (shared_law A L good laws n base known s.spans s.alike c.requires.kept.2)
          word word c.requires.word.word least before (words_of c.enter.new.progress) alone.0,
      c.enter.ensures.1,
    )
