use Rattle.std.proofs.Common.{◌≡◌, sym, ap, ◌∙◌, inl, inr, arith}
use Rattle.std.proofs.lemmas.Bool.{cases_lt}
use Rattle.levels.specs.Arithmetic.{two}
use Rattle.levels.specs.Words.{word_multiple}
use Rattle.levels.specs.Lawful.{lawful_two}
use Rattle.levels.proofs.Space.{multiple_one, illegal_multiple, no_level_multiple, zero_times}
use Rattle.levels.proofs.two.TwoLevelsLevels.product.Goals as goal
use Rattle.levels.proofs.two.TwoLevelsLevels.product.Goals.{else-level-eq1-via-then-level-eq1+else-legal, else-level-eq1-via-else-level-eq1}

-- once a word is the word
pub returns-then-legal : goal.returns-then-legal
returns-then-legal c =
    let h = sym c.if-legal.ensures in
    sym (multiple_one two lawful_two c.args.n c.args.word h) ∙ ap (λ l. word_multiple two c.args.n l c.args.word) (sym c.if-level-eq1.true)

-- an illegal word, 0 times a word, and what no level gives are 0
pub returns-else-level-eq1 : goal.returns-else-level-eq1
returns-else-level-eq1 c =
    elim c.else-level-eq1.branch [
      | else-level-eq1-via-then-level-eq1+else-legal w ↦ sym (illegal_multiple two c.args.n c.args.level c.args.word (sym w.if-legal.ensures))
      | else-level-eq1-via-else-level-eq1 w ↦
          elim (cases_lt c.args.level 2) [
            | inl l ↦
                let z : 0 ≡ c.args.level = omega arith in
                sym (zero_times two lawful_two c.args.n c.args.word) ∙ ap (λ l. word_multiple two c.args.n l c.args.word) z
            | inr g ↦ sym (no_level_multiple two c.args.n c.args.level c.args.word g)
          ]
    ]
