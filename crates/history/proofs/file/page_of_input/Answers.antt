use Rattle.std.proofs.Common.{rules}
use Rattle.bounded.specs.Items.{items_of}
use Rattle.history.proofs.Filed.{page_decided}
use Rattle.history.proofs.file.page_of_input.Goals as goal

pub returns-clause-page : goal.returns-clause-page
returns-clause-page g c =
    page_decided _ (items_of c.in_ok-file.file) c.args.memory.now _ _ c.in_ok-file.ensures.first c.in_ok-file.ensures.decide (search rules)

pub returns-clause-some_page : goal.returns-clause-some_page
returns-clause-some_page g c = (items_of c.in_ok-file.file, search rules)
