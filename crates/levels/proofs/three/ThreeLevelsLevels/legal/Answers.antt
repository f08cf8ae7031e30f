use Rattle.std.proofs.Common.{◌*◌, ◌^◌, ◌&&◌, ltb, leb, sym, ◌∙◌}
use Rattle.std.proofs.lemmas.Bool.{and_parts, leb-true, ltb-true}
use Rattle.levels.specs.Arithmetic.{three}
use Rattle.levels.proofs.Digits.{legal_test}
use Rattle.levels.proofs.Masks.{both_legal}
use Rattle.levels.proofs.three.ThreeLevelsLevels.legal.Goals as goal

-- each digit is a level where none has both bits
pub returns-then-within : goal.returns-then-within
returns-then-within c =
    let n = c.args.n in
    let word = c.args.word in
    let h = and_parts (leb 1 n && leb n 32) (ltb word (2 ^ (2 * n))) (sym c.if-within.ensures) in
    let range = and_parts (leb 1 n) (leb n 32) h.0 in
    let low = leb-true 1 n range.0 in
    let high = leb-true n 32 range.1 in
    both_legal n word high (ltb-true word (2 ^ (2 * n)) h.1) ∙ sym (rw (legal_test three n word low high, h.1))
