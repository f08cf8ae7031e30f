-- One word more is admitted, or refused, of those that are left.
use Rattle.std.proofs.Common.{◌≡◌, ℕ, ◌+◌, List, ◌∷◌, drop, map, Ok, Err, sym, ap, ◌∙◌, arith}
use Rattle.std.proofs.lemmas.Result.{err_from_is_err_and}
use Rattle.contents.specs.Content.{admitted, admitted_all}
use Rattle.planfile.specs.File.{number}
use Rattle.contents.specs.Held.{ended}
use Rattle.contents.proofs.Outcomes.{acts_refused, acts_done, all_refused, all_onward}
use Rattle.planfile.proofs.Files.{next_word}
use Rattle.planfile.proofs.reading.admit_words.Goals as goal

pub returns-in_err-admit : goal.returns-in_err-admit
returns-in_err-admit g c =
    let A = g.L.Levels.model in
    let side = c.args.side in
    let i = c.loop-word.word-index in
    let all = c.args.words.now in
    let w = c.from_le_bytes.result in
    let p = c.loop-word.draft in
    let e = c.in_err-admit.field-0.0 in
    let rest : List ℕ = map number (drop (i + 1) all) in
    let x = err_from_is_err_and c.from_residual.result c.from_residual.ensures.1 in
    let refused : admitted A side w p ≡ Err e = acts_refused (admitted A side w p) p c.admit.new.self c.admit.result e c.admit.ensures c.in_err-admit.was in
    let onward : admitted_all A side (map number (drop i all)) p ≡ admitted_all A side (w ∷ rest) p =
    next_word A side all i w p c.loop-word-test.true (omega arith) c.from_le_bytes.ensures in
    ap (λ v. ended v c.admit.new.self) (x.1 ∙ ap Err x.2) ∙ sym (onward ∙ all_refused A side w rest p e refused) ∙ c.loop-word.invariant

pub loop-word-preserved : goal.loop-word-preserved
loop-word-preserved g c =
    let A = g.L.Levels.model in
    let side = c.args.side in
    let i = c.loop-word.word-index in
    let all = c.args.words.now in
    let w = c.from_le_bytes.result in
    let p = c.loop-word.draft in
    let q = c.admit.new.self in
    let rest : List ℕ = map number (drop (i + 1) all) in
    let done : admitted A side w p ≡ Ok q = acts_done (admitted A side w p) p q c.admit.result c.admit.ensures c.in_ok-admit.was in
    let onward : admitted_all A side (map number (drop i all)) p ≡ admitted_all A side rest q =
    next_word A side all i w p c.loop-word-test.true (omega arith) c.from_le_bytes.ensures ∙ all_onward A side w rest p q done in
    sym onward ∙ c.loop-word.invariant
