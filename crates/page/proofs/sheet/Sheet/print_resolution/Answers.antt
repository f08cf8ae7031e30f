-- The resolution that is there is printed.
use Rattle.std.proofs.Common.{◌++◌, take, codes, ap, ◌∙◌}
use Rattle.page.specs.Page.{line, resolution_fields}
use Rattle.page.specs.Written.{written}
use Rattle.page.proofs.sheet.Sheet.print_resolution.Goals as goal

pub returns-in-Some : goal.returns-in-Some
returns-in-Some g c =
    c.numbers.ensures
    ∙ ap (λ o. take 1024 (written c.args.self.now ++ line (codes "resolution") (resolution_fields o))) c.in-Some.ensures.value
