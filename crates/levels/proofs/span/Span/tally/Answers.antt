use Rattle.std.proofs.Common.{◌≡◌, ◌^◌, ◌<◌, get_or, replicate, drop, length, sym, ◌∙◌, subst, arith}
use Rattle.std.proofs.lemmas.List.{get_or-replicate}
use Rattle.levels.specs.Alias.{Adds}
use Rattle.levels.specs.Leaves.{leaf_words}
use Rattle.levels.proofs.Leaves.{all_aliases, sums_words, no_tally, tally_from}
use Rattle.levels.proofs.span.Span.tally.Goals as goal

-- all sums are words
pub count-requires-clause-legal : goal.count-requires-clause-legal
count-requires-clause-legal g c =
    let span = c.args.self.now in
    sums_words g.L.Levels.model g.met.L.Levels.lawful span.factors (drop (length span.before.now) span.words.now) (leaf_words span.leaves) c.args.start
    span.listed (sym c.if-legal.ensures)

-- all counts are 0
pub count-requires-clause-fit : goal.count-requires-clause-fit
count-requires-clause-fit g c i l =
    let z : get_or (replicate 33 0) i 0 ≡ 0 = get_or-replicate 33 i 0 0 l in
    subst (λ k. k < 2 ^ 64) (sym z) (omega arith)

-- all aliases are counted
pub returns-then-legal : goal.returns-then-legal
returns-then-legal g c =
    let A = g.L.Levels.model in
    let L = g.met.L.Levels.lawful in
    let span = c.args.self.now in
    let all = all_aliases A L span.factors span.words.now span.before.now (leaf_words span.leaves) c.args.start span.whole span.listed in
    tally_from A L span.factors span.words.now c.args.start c.count.new.counts (sym c.if-legal.ensures)
    (subst (λ xs. Adds A xs (replicate 33 0) c.count.new.counts) all c.count.ensures)

-- nothing is counted for an illegal start
pub returns-else-legal : goal.returns-else-legal
returns-else-legal g c i l =
    get_or-replicate 33 i 0 0 l ∙ no_tally g.L.Levels.model g.met.L.Levels.lawful c.args.self.now.factors c.args.self.now.words.now c.args.start i (sym c.if-legal.ensures)
