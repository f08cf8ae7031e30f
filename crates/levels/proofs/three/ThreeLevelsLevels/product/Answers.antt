use Rattle.std.proofs.Common.{◌≡◌, sym, ap, ◌∙◌, inl, inr, arith}
use Rattle.std.proofs.lemmas.Bool.{cases_lt}
use Rattle.levels.specs.Arithmetic.{three}
use Rattle.levels.specs.Words.{word_multiple}
use Rattle.levels.specs.Lawful.{lawful_three}
use Rattle.levels.proofs.Lengths.{sum_code}
use Rattle.levels.proofs.Space.{multiple_one, multiple_double, no_level_multiple, zero_times}
use Rattle.levels.proofs.three.ThreeLevelsLevels.product.Goals as goal

-- once a word is the word
pub returns-in-1 : goal.returns-in-1
returns-in-1 c =
    let h = sym c.if-not-legal.ensures in
    sym (multiple_one three lawful_three c.args.n c.args.word h) ∙ ap (λ l. word_multiple three c.args.n l c.args.word) (sym c.in-1.is)

-- twice a word is its sum with itself
pub returns-in-2 : goal.returns-in-2
returns-in-2 c =
    let h = sym c.if-not-legal.ensures in
    let sum = sum_code three lawful_three c.args.n c.args.word c.args.word h h in
    let double = multiple_double three lawful_three c.args.n c.args.word h in
    let level = ap (λ l. word_multiple three c.args.n l c.args.word) (sym c.in-2.is) in
    cc

-- 0 times a word is 0, and so is what no level gives
pub returns-in_default : goal.returns-in_default
returns-in_default c =
    elim (cases_lt c.args.level 3) [
      | inl l ↦
          let z : 0 ≡ c.args.level = omega arith in
          sym (zero_times three lawful_three c.args.n c.args.word) ∙ ap (λ l. word_multiple three c.args.n l c.args.word) z
      | inr g ↦ sym (no_level_multiple three c.args.n c.args.level c.args.word g)
    ]
