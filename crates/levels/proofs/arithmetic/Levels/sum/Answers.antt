use Rattle.std.proofs.Common.{◌≡◌, true, sym, ◌∙◌}
use Rattle.levels.specs.Words.{legal}
use Rattle.levels.proofs.Lengths.{sum_code}
use Rattle.levels.proofs.arithmetic.Levels.sum.Goals as goal

-- the sum of two legal codes is that of the words
pub returns-then-legal-2 : goal.returns-then-legal-2
returns-then-legal-2 g c =
    let A = g.Self.Levels.model in
    let one : legal A c.args.n c.args.a ≡ true = cc in
    let other : legal A c.args.n c.args.b ≡ true = cc in
    c.add.ensures ∙ sym (sum_code A g.met.Self.Levels.lawful c.args.n c.args.a c.args.b one other)
