use Rattle.std.proofs.Common.{◌≡◌, ℕ, ◌++◌, ◌⊎◌, ◌≤◌, take, sym, ◌∙◌, subst, inl, inr, arith}
use Rattle.std.proofs.lemmas.Bool.{OnTrue_at}
use Rattle.levels.specs.Generated.{Generates}
use Rattle.choice.specs.Search.{Offered}
use Rattle.choice.specs.Judged.{words_of, order_of}
use Rattle.choice.proofs.Greedy.{judged_order}
use Rattle.choice.proofs.Sieve.{offered_at, offered_stays}
use Rattle.choice.proofs.judge.Judge.enter.Goals.{else-place-self-via-then-place-self+else-not-generated, else-place-self-via-else-place-self}
use Rattle.choice.proofs.judge.Judge.enter.Goals as goal

-- the word is put in at its place
pub returns-then-not-generated : goal.returns-then-not-generated
returns-then-not-generated g c =
    let s = c.args.self.now in
    let A = g.L.Levels.model in
    let good = g.P.Preference.good s.preference.now in
    let base = s.base.words.now in
    let at_least = order_of A g.P.Preference.good s in
    let order = judged_order A good (g.met.P.Preference.lawful s.preference.now) s.factors base in
    let ours = words_of c.args.progress.now in
    let p = c.place-place.ensures in
    let made = c.remember.ensures.words ∙ c.put.ensures.words in (
      subst (Offered A s.factors at_least s.room base (λ (y : ℕ). y ≡ c.args.candidate.now.word) ours) (sym made)
          (offered_at A g.met.L.Levels.lawful s.factors at_least order s.room base ours c.place-place.result c.args.candidate.now.word p.within c.requires.kept.0 c.requires.candidate.0
          p.before p.behind),
      c.remember.ensures.beside,
    )

-- as many as there is room for stand before the word, or they generate it
pub returns-else-place-self : goal.returns-else-place-self
returns-else-place-self g c =
    let s = c.args.self.now in
    let A = g.L.Levels.model in
    let good = g.P.Preference.good s.preference.now in
    let base = s.base.words.now in
    let at_least = order_of A g.P.Preference.good s in
    let order = judged_order A good (g.met.P.Preference.lawful s.preference.now) s.factors base in
    let ours = words_of c.args.progress.now in
    let p = c.place-place.ensures in
    let known : Generates A s.factors (base ++ take c.place-place.result ours) c.args.candidate.now.word ⊎ (s.room ≤ c.place-place.result) = elim c.else-place-self.branch [
      | else-place-self-via-then-place-self+else-not-generated w ↦ inl (OnTrue_at w.if-not-generated.false w.generated.ensures)
      | else-place-self-via-else-place-self w ↦ inr (omega (arith, w.if-place-self.false))
    ] in (
      offered_stays A g.met.L.Levels.lawful s.factors at_least order s.room base ours c.args.candidate.now.word c.place-place.result c.requires.kept.0 p.within
          p.before known,
      c.requires.kept.1,
    )
