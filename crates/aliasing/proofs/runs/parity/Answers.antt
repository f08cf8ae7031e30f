use Rattle.std.proofs.Common.{◌%◌, eqb, sym, refl, ap}
use Rattle.aliasing.proofs.Parity.{letters_ones}
use Rattle.aliasing.proofs.Evens.{word_below}
use Rattle.aliasing.proofs.runs.parity.Goals as goal

-- letters at level 1 are bits that both codes have
pub returns : goal.returns
returns c = record {
  letters = λ n hr hw. ap (λ k. eqb (k % 2) 1) (sym (letters_ones n c.args.run c.args.word (word_below n c.args.run hr)));
  bits = refl;
}
