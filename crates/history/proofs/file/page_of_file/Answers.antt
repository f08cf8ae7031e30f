use Rattle.std.proofs.Common.{rules}
use Rattle.planfile.specs.File.{read_file}
use Rattle.history.proofs.Filed.{page_read}
use Rattle.history.proofs.file.page_of_file.Goals as goal

pub returns : goal.returns
returns g c =
    let A = g.L.Levels.model in
    page_read A g.met.L.Levels.lawful (read_file A c.args.file.now) c.new-plan.result c.settle.result _ _ _
    (search rules) c.settle.ensures.kept c.page.ensures.stored c.page.ensures.count
