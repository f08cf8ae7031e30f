-- The digit stands behind its letter.
use Rattle.std.proofs.Common.{[], ◌∷◌, ◌++◌, take, decimal, ap, ◌∙◌}
use Rattle.std.proofs.lemmas.List.{append_assoc}
use Rattle.page.specs.Page.{letter_of, letters}
use Rattle.page.specs.Written.{written}
use Rattle.page.proofs.Lines.{cut_more, mark_above, nothing_more}
use Rattle.page.proofs.sheet.Sheet.digit.Goals as goal

pub returns-then-digit-ne-PLAIN : goal.returns-then-digit-ne-PLAIN
returns-then-digit-ne-PLAIN c =
    let i = c.args.i in
    let d = c.args.digit in
    let start = written c.args.self.now in
    rw (c.decimal.ensures, c.from.ensures, c.byte.ensures, c.letter.ensures, mark_above i d c.if-digit-ne0.true c.if-digit-ne-PLAIN.true)
    (cut_more 1024 (start ++ letter_of i ∷ []) (decimal d) ∙ ap (take 1024) (append_assoc start (letter_of i ∷ []) (decimal d)))

pub returns-else-digit-ne0 : goal.returns-else-digit-ne0
returns-else-digit-ne0 c = nothing_more c.args.self.now (letters c.args.i (c.args.digit ∷ [])) (ap (λ d. letters c.args.i (d ∷ [])) c.if-digit-ne0.false)
