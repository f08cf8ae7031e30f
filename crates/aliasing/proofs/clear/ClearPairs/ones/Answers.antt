use Rattle.std.proofs.Common.{◌≤◌, length, ap, arith, length-take}
use borrow.Author.Tests.{tests}
use Rattle.std.proofs.lemmas.Iterator.{YieldsList-from_slice}
use Rattle.std.proofs.lemmas.Iterator.Adapters.{fits_from_length, at_most_from_yields_List}
use Rattle.std.proofs.Common.{rules}
use Rattle.aliasing.proofs.clear.ClearPairs.ones.Goals as goal

-- at most 496 bytes are added
pub sum-requires-clause-fits : goal.sum-requires-clause-fits
sum-requires-clause-fits c =
    let few : length c.bytes.result.now ≤ 496 = let b = c.args.self.now.bytes in omega (arith, ap length c.bytes.ensures, length-take b.len b.places, b.few) in
    fits_from_length _ _ 496 _ (at_most_from_yields_List (YieldsList-from_slice c.bytes.result.now cc) few) c.map.ensures.closure (omega arith) (λ x r q k. search (rules, tests))
