-- The words of the defining list are admitted, and then those of the block list.
use Rattle.std.proofs.Common.{map, Ok, Err, sym, ap, ◌∙◌}
use Rattle.std.proofs.lemmas.List.{take_rest}
use Rattle.std.proofs.lemmas.Result.{err_from_is_err_and}
use Rattle.contents.specs.declared.side.Side.TheVariants.{Block}
use Rattle.contents.specs.Content.{admitted_all}
use Rattle.contents.specs.Held.{ended, result_of}
use Rattle.contents.proofs.Outcomes.{and_then}
use Rattle.planfile.specs.File.{number}
use Rattle.planfile.proofs.Files.{read_chunks}
use Rattle.planfile.proofs.reading.read.Goals as goal

-- a word of the defining list is refused
pub returns-in_err-admit_words : goal.returns-in_err-admit_words
returns-in_err-admit_words g c =
    let A = g.L.Levels.model in
    let f = c.args.file.now in
    let back = c.split_at.result.1.now in
    let x = err_from_is_err_and c.from_residual-in_err-admit_words.result c.from_residual-in_err-admit_words.ensures.1 in
    let first = sym c.admit_words.ensures ∙ ap (λ v. ended v c.admit_words.new.draft) c.in_err-admit_words.was in
    ap result_of (x.1 ∙ ap Err x.2)
    ∙ sym (read_chunks A f _ _ _ _ _ _ _ (take_rest f 9) c.as_chunks.ensures.front c.from.ensures c.split_at.ensures.front c.split_at.ensures.back
    (sym c.read.ensures ∙ c.in_ok-head.was) (sym c.started.ensures ∙ c.in_ok-draft.was) (sym c.check_size.ensures ∙ c.in_ok-check_size.was)
    ∙ ap (λ r. and_then r (admitted_all A Block (map number back))) first)

-- a word of the block list is refused
pub returns-in_err-admit_words-2 : goal.returns-in_err-admit_words-2
returns-in_err-admit_words-2 g c =
    let A = g.L.Levels.model in
    let f = c.args.file.now in
    let back = c.split_at.result.1.now in
    let x = err_from_is_err_and c.from_residual-in_err-admit_words-2.result c.from_residual-in_err-admit_words-2.ensures.1 in
    let first = sym c.admit_words.ensures ∙ ap (λ v. ended v c.admit_words.new.draft) c.in_ok-admit_words.was in
    let others = sym c.admit_words-2.ensures ∙ ap (λ v. ended v c.admit_words-2.new.draft) c.in_err-admit_words-2.was in
    ap result_of (x.1 ∙ ap Err x.2)
    ∙ sym (read_chunks A f _ _ _ _ _ _ _ (take_rest f 9) c.as_chunks.ensures.front c.from.ensures c.split_at.ensures.front c.split_at.ensures.back
    (sym c.read.ensures ∙ c.in_ok-head.was) (sym c.started.ensures ∙ c.in_ok-draft.was) (sym c.check_size.ensures ∙ c.in_ok-check_size.was)
    ∙ ap (λ r. and_then r (admitted_all A Block (map number back))) first ∙ others)

-- all words are admitted
pub returns : goal.returns
returns g c =
    let A = g.L.Levels.model in
    let f = c.args.file.now in
    let back = c.split_at.result.1.now in
    let first = sym c.admit_words.ensures ∙ ap (λ v. ended v c.admit_words.new.draft) c.in_ok-admit_words.was in
    let others = sym c.admit_words-2.ensures ∙ ap (λ v. ended v c.admit_words-2.new.draft) c.in_ok-admit_words-2.was in
    ap Ok c.finish.ensures
    ∙ sym (read_chunks A f _ _ _ _ _ _ _ (take_rest f 9) c.as_chunks.ensures.front c.from.ensures c.split_at.ensures.front c.split_at.ensures.back
    (sym c.read.ensures ∙ c.in_ok-head.was) (sym c.started.ensures ∙ c.in_ok-draft.was) (sym c.check_size.ensures ∙ c.in_ok-check_size.was)
    ∙ ap (λ r. and_then r (admitted_all A Block (map number back))) first ∙ others)
