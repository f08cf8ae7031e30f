use Rattle.std.proofs.Common.{◌≡◌, true, ◌∙◌}
use mathlib.Core.Bool.{and-true}
use Rattle.levels.specs.Arithmetic.{two}
use Rattle.levels.specs.Words.{digits, all_levels}
use Rattle.levels.proofs.Digits.{digits_fit, levels_decide}
use Rattle.levels.proofs.two.TwoLevelsLevels.legal.Goals as goal

-- each digit of one bit is a level
pub returns : goal.returns
returns c =
    let n = c.args.n in
    let word = c.args.word in
    let levels : all_levels two (digits two n word) ≡ true = (levels_decide two (digits two n word)).1 (digits_fit two n word) in
    c.within.ensures ∙ rw (levels, and-true)
