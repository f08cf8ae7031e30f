use Rattle.std.proofs.Common.{◌≡◌, ◌+◌, ◌*◌, ◌^◌, get_or}
use Rattle.preferences.proofs.Tables.{SumsUpto}
use Rattle.preferences.proofs.cheapest.sums_of.Given as goal

-- the sums of the parts before this one stand
abbrev pub invariant-loop-part : goal.invariant-loop-part
invariant-loop-part l = SumsUpto (64 * l.part) l.costs l.sums

-- and those without this bit and higher ones
abbrev pub invariant-loop-bit : goal.invariant-loop-bit
invariant-loop-bit l = SumsUpto (64 * l.part + 2 ^ l.bit) l.costs l.sums

-- and those with this bit and less than the rest
abbrev pub invariant-loop-rest : goal.invariant-loop-rest
invariant-loop-rest l = record {
  more : l.more ≡ 2 ^ l.bit;
  cost : l.cost ≡ get_or l.costs (6 * l.part + l.bit) 0;
  sums : SumsUpto (64 * l.part + 2 ^ l.bit + l.rest) l.costs l.sums;
}
