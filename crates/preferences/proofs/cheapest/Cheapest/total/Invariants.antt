use Rattle.std.proofs.Common.{◌≡◌, ◌+◌, ◌*◌, ◌/◌, ◌^◌}
use Rattle.levels.specs.Words.{digits}
use Rattle.preferences.specs.Built.{cost}
use Rattle.preferences.specs.Sums.{AreSums, mask_order}
use Rattle.preferences.proofs.Tables.{cost_from}
use Rattle.preferences.proofs.cheapest.Cheapest.total.Given as goal

-- the total and the cost of the parts that are left are the cost
abbrev pub invariant-loop-k : goal.invariant-loop-k
invariant-loop-k g l = record {
  sums : AreSums (mask_order g.L.Levels.model.bits l.self.costs) l.sums;
  total : l.total + cost_from (mask_order g.L.Levels.model.bits l.self.costs) l.k (l.mask / 2 ^ (6 * l.k)) ≡ cost l.self.costs (digits g.L.Levels.model 32 l.word);
}
