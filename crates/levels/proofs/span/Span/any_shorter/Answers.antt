use Rattle.std.proofs.Common.{◌∙◌, ap, sym, ◌&&◌, drop, length}
use Rattle.levels.specs.Alias.{aliases, any_shorter}
use Rattle.levels.specs.Leaves.{leaf_words}
use Rattle.levels.proofs.Leaves.{all_aliases, sums_words}
use Rattle.levels.proofs.span.Span.any_shorter.Goals as goal

-- all sums are words
pub shorter-requires-clause-legal : goal.shorter-requires-clause-legal
shorter-requires-clause-legal g c =
    let span = c.args.self.now in
    sums_words g.L.Levels.model g.met.L.Levels.lawful span.factors (drop (length span.before.now) span.words.now) (leaf_words span.leaves) c.args.start
    span.listed (sym c.legal.ensures ∙ c.if-legal.true)

-- all aliases are looked at
pub returns-then-legal : goal.returns-then-legal
returns-then-legal g c =
    let A = g.L.Levels.model in
    let span = c.args.self.now in
    let legal = sym c.legal.ensures ∙ c.if-legal.true in
    let all = all_aliases A g.met.L.Levels.lawful span.factors span.words.now span.before.now (leaf_words span.leaves) c.args.start span.whole span.listed in
    c.shorter.ensures ∙ ap (any_shorter A c.args.bound) all
    ∙ sym (ap (λ b. b && any_shorter A c.args.bound (aliases A span.factors span.words.now c.args.start)) legal)
