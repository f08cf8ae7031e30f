-- With other levels nothing is printed.
use Rattle.std.proofs.Common.{[], eqb, ◌∙◌}
use Rattle.std.proofs.lemmas.Bool.{cond-false, ne_eqb}
use Rattle.page.specs.Parts.{clear_line}
use Rattle.page.proofs.Lines.{nothing_more}
use Rattle.page.proofs.sheet.Sheet.print_clear.Goals as goal

pub returns-else-LEVELS-eq2 : goal.returns-else-LEVELS-eq2
returns-else-LEVELS-eq2 g c =
    let A = g.L.Levels.model in
    let p = c.args.plan.now in
    nothing_more c.args.self.now (clear_line A p) (cond-false (eqb A.s 2) _ [] (ne_eqb A.s 2 (λ e. c.if-LEVELS-eq2.false (c.LEVELS.ensures ∙ g.met.L.Levels.levels ∙ e))))
