use Rattle.std.proofs.Common.{inl, inr, arith}
use Rattle.preferences.proofs.Tables.{few_bits}
use Rattle.preferences.proofs.Masks.{mask_of_one, mask_of_two}
use Rattle.preferences.proofs.cheapest.mask_of.Goals as goal

pub returns-then-BITS-eq1 : goal.returns-then-BITS-eq1
returns-then-BITS-eq1 g c = mask_of_one g.L.Levels.model c.args.word (omega (arith, c.if-BITS-eq1.true, c.BITS.ensures, g.met.L.Levels.bits))

pub returns-else-BITS-eq1 : goal.returns-else-BITS-eq1
returns-else-BITS-eq1 g c =
    let A = g.L.Levels.model in
    mask_of_two A c.args.word (elim (few_bits A g.met.L.Levels.lawful) [
      | inl e ↦ absurd (omega (arith, e, c.if-BITS-eq1.false, c.BITS.ensures, g.met.L.Levels.bits))
      | inr e ↦ e
    ])
