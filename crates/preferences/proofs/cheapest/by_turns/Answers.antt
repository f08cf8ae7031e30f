use Rattle.std.proofs.Common.{arith}
use Rattle.preferences.proofs.Masks.{turns}
use Rattle.preferences.proofs.cheapest.by_turns.Goals as goal

pub returns : goal.returns
returns c = turns c.args.costs.now c.loop-i.turned (omega arith) c.loop-i.invariant.size (λ k l. c.loop-i.invariant.stand k (omega arith))
