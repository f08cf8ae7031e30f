use Rattle.std.proofs.Common.{◌≡◌, eqb, filter, length, take, ◌∙◌, arith, rules}
use borrow.Author.Tests.{tests}
use Rattle.std.proofs.lemmas.Iterator.{YieldsList-from_slice}
use Rattle.std.proofs.lemmas.Iterator.Consumers.{count_from_yields_List, YieldsList-from_filter}
use Rattle.aliasing.proofs.Chosen.{empty_count}
use Rattle.aliasing.proofs.runs.Table.free_factors.Goals as goal

-- the empty places are counted
pub returns-clause-count : goal.returns-clause-count
returns-clause-count c =
    let table = c.args.self.now in
    let counted : c.count.result ≡ length (filter (λ r. eqb r 0) (take table.factors table.rows)) =
    count_from_yields_List _ _ c.count.ensures.ran (YieldsList-from_filter _ (λ r. eqb r 0) (YieldsList-from_slice (take table.factors table.rows) cc) c.filter.ensures.closure (λ x r q k. search (rules, tests))) in
    counted ∙ empty_count table.rows table.factors (omega arith)
