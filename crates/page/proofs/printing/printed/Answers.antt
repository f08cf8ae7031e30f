-- No line is cut off, since the page fits a sheet.
use Rattle.std.proofs.Common.{◌≡◌, ◌++◌, take, codes, refl, sym, ◌∙◌}
use Rattle.std.proofs.lemmas.List.{take_all}
use Rattle.preferences.specs.Built.{shortest, least_aberration}
use Rattle.contents.specs.declared.side.Side.TheVariants.{Defining, Block}
use Rattle.page.specs.Page.{page}
use Rattle.page.specs.Parts.{clear_line, generators_line, head_line, pattern_line, resolution_line}
use Rattle.page.specs.Written.{written}
use Rattle.page.proofs.Bounds.{page_short}
use Rattle.page.proofs.Lines.{then_more}
use Rattle.page.proofs.printing.printed.Goals as goal

pub returns : goal.returns
returns g c =
    let A = g.L.Levels.model in
    let p = c.args.plan.now in
    let one = head_line A p in
    let two = one ++ resolution_line A p in
    let three = two ++ pattern_line A p in
    let four = three ++ generators_line A (codes "defining") (shortest A) Defining p in
    let five = four ++ generators_line A (codes "blocks") (least_aberration A) Block p in
    let fits = page_short A g.met.L.Levels.lawful p c.counts-defining.ensures.kept in
    let head : written c.print_head.new.self ≡ take 1024 one =
    rw (sym c.factors.ensures.value, sym c.counts-defining.ensures.defining, sym c.counts-defining.ensures.block)
    (rw (c.print_head.ensures, c.new-sheet.ensures) refl) in
    let resolution = then_more 1024 one (resolution_line A p) (written c.print_head.new.self) (written c.print_resolution.new.self) head c.print_resolution.ensures in
    let pattern = then_more 1024 two (pattern_line A p) (written c.print_resolution.new.self) (written c.print_pattern.new.self) resolution c.print_pattern.ensures in
    let defining = then_more 1024 three (generators_line A (codes "defining") (shortest A) Defining p) (written c.print_pattern.new.self) (written c.print_generators.new.self) pattern c.print_generators.ensures in
    let blocks = then_more 1024 four (generators_line A (codes "blocks") (least_aberration A) Block p) (written c.print_generators.new.self) (written c.print_generators-2.new.self) defining c.print_generators-2.ensures in
    then_more 1024 five (clear_line A p) (written c.print_generators-2.new.self) (written c.print_clear.new.self) blocks c.print_clear.ensures
    ∙ take_all 1024 (page A p) fits
