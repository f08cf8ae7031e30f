use Rattle.std.proofs.Common.{ℕ, List, ap, ◌∙◌, sym, arith}
use Rattle.preferences.specs.Built.{no_more}
use Rattle.preferences.specs.Verdicts.{verdict_of}
use Rattle.preferences.proofs.Tallies.{shorter_worse, tally_same}
use Rattle.preferences.proofs.aberration.fewer_than.Goals as goal

-- one of the aliases is shorter
pub returns-then-any_shorter : goal.returns-then-any_shorter
returns-then-any_shorter g c fair word second tally =
    let base = c.args.base.now in
    shorter_worse g.L.Levels.model g.met.L.Levels.lawful base.factors base.words.now c.args.word c.args.first.now second c.shortest_length.result fair word tally c.told-first c.shortest_length.ensures.few c.shortest_length.ensures.none
    (sym c.any_shorter.ensures ∙ c.if-any_shorter.true)

-- none is
pub returns-else-any_shorter : goal.returns-else-any_shorter
returns-else-any_shorter g c fair word second tally =
    let base = c.args.base.now in
    c.fewer.ensures
    ∙ ap (λ (ys : List ℕ). verdict_of (no_more c.args.first.now ys) (no_more ys c.args.first.now)) (tally_same g.L.Levels.model base.factors base.words.now c.args.word c.tally.result second (omega arith, c.tally.ensures) tally)
