use Rattle.std.proofs.Common.{length, drop, sym}
use Rattle.levels.proofs.Leaves.{combinations_words}
use Rattle.levels.proofs.span.list_sums.Goals as goal

-- all sums of multiples are words
pub spread-requires-clause-legal : goal.spread-requires-clause-legal
spread-requires-clause-legal g c =
    rw c.loop-before.invariant.sums
    (combinations_words g.L.Levels.model g.met.L.Levels.lawful c.args.n (drop (length c.loop-before.before.now) c.args.words.now) 0 (sym c.if-legal.ensures))
