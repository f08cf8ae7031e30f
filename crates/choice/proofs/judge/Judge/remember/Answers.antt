use Rattle.std.proofs.Common.{◌≡◌, [], ◌∷◌, ◌++◌, take, drop, sym, subst, arith}
use Rattle.std.specs.List.{All}
use Rattle.std.proofs.lemmas.List.Elements.{All-take, All-drop, All-append}
use Rattle.bounded.specs.Items.{items_of}
use Rattle.preferences.specs.declared.candidate.Candidate.{Candidate}
use Rattle.choice.specs.Judged.{Beside, ReadyFor}
use Rattle.choice.proofs.judge.Judge.remember.Goals.{then-len-eq-MOST, else-len-eq-MOST}
use Rattle.choice.proofs.judge.Judge.remember.Goals as goal

-- all are ready, and one more is
pub returns-after-len-eq-MOST-clause-beside : goal.returns-after-len-eq-MOST-clause-beside
returns-after-len-eq-MOST-clause-beside g c =
    let A = g.L.Levels.model in
    let s = c.args.self.now in
    let P : Candidate → Type 0 = ReadyFor A s in
    let old = items_of c.args.progress.now.candidates in
    let h = c.requires.beside.1 in
    let beside : Beside A s c.if-len-eq-MOST.progress = elim c.if-len-eq-MOST.branch [
      | then-len-eq-MOST w ↦ subst (Beside A s) (sym w.progress-is) (
        c.requires.beside.0,
        subst (All P) (sym w.remove.ensures) (All-append P (take 0 old) (drop 1 old) (All-take P 0 old h) (All-drop P 1 old h)),
      )
      | else-len-eq-MOST w ↦ subst (Beside A s) (sym w.progress-is) c.requires.beside
    ] in
    let one : All P (c.args.candidate.now ∷ []) = λ k d l. let z : k ≡ 0 = omega arith in rw z c.requires.ready in
    let now = items_of c.if-len-eq-MOST.progress.candidates in (
      beside.0,
      subst (All P) (sym c.push.ensures) (All-take P 16 (now ++ c.args.candidate.now ∷ []) (All-append P now (c.args.candidate.now ∷ []) beside.1 one)),
    )
