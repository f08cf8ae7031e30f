use Rattle.std.proofs.Common.{◌-◌, ◌≤◌, sym, ◌∙◌, arith}
use Rattle.std.proofs.lemmas.Nat.{one_shl}
use Rattle.aliasing.proofs.Factors.{letter_one}
use Rattle.aliasing.proofs.clear.letter.Goals as goal

-- the letter of a factor from 1
pub returns-else-factor-eq0 : goal.returns-else-factor-eq0
returns-else-factor-eq0 c =
    let some : 1 ≤ c.args.factor = omega (arith, c.if-factor-eq0.false) in
    one_shl (c.args.factor - 1) 64 (omega (arith, c.requires)) ∙ sym (letter_one c.args.factor some)
