use Rattle.std.proofs.Common.{ℕ, ◌/◌, arith}
use lib.Bits.{bit_and, bit_or, and_le_r}
use Rattle.levels.proofs.Masks.{whole_code, code_sum_below}
use Rattle.levels.proofs.three.ThreeLevelsLevels.add.Goals as goal

-- the sum as numbers, less what it exceeds the sum of digits by
pub returns : goal.returns
returns c =
    let a = c.args.a in
    let b = c.args.b in
    let low : ℕ = 0x5555_5555_5555_5555 in
    omega (
      arith,
      whole_code a b c.ranges.a.fits c.ranges.b.fits,
      code_sum_below a b c.ranges.a.fits c.ranges.b.fits,
      and_le_r (bit_or (bit_and a b / 2) (bit_and (bit_or a b) (bit_or a b / 2))) low,
    )
