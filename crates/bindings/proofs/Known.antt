-- The generators once the numbers of a side and a preference are known.
use Rattle.std.proofs.Common.{◌≡◌, ℕ, List, Ok, Result, ap, sym, ◌∙◌}
use Rattle.levels.specs.Arithmetic.{Arithmetic}
use Rattle.contents.specs.declared.side.Side.{Side}
use Rattle.planfile.specs.File.{read_file}
use Rattle.plan.specs.Answers.{chosen}
use Rattle.bindings.specs.declared.numbers.Rule.{Rule}
use Rattle.bindings.specs.declared.refused.Refused.{Refused}
use Rattle.bindings.specs.Asked.{and_then, seen}
use Rattle.bindings.specs.Numbers.{relation, rule_by, side_by}
use Rattle.bindings.specs.Questions.{generators_in}

-- where both numbers stand for something, an answer is that for what they stand for
both_known : {X : Type 0} (answer : Side → Rule → Result X Refused) (side : Side) (rule : Rule) (sides : Result Side Refused) (rules : Result Rule Refused) → Ok side ≡ sides → Ok rule ≡ rules
    → answer side rule ≡ and_then sides (λ s. and_then rules (answer s))
both_known answer side rule sides rules is-side is-rule =
    ap (λ r. and_then r (answer side)) is-rule ∙ ap (λ r. and_then r (λ s. and_then rules (answer s))) is-side

-- so the generators are those of the side and the rule
pub generators_known : (A : Arithmetic) (costs file : List ℕ) (x y : ℕ) (side : Side) (rule named : Rule) → Ok side ≡ side_by x → Ok rule ≡ rule_by y → rule ≡ named
    → seen (read_file A file) (chosen A (relation A costs named) side) ≡ generators_in A file x y costs
generators_known A costs file x y side rule named is-side is-rule is =
    ap (λ r. seen (read_file A file) (chosen A (relation A costs r) side)) (sym is)
    ∙ both_known (λ s r. seen (read_file A file) (chosen A (relation A costs r) s)) side rule (side_by x) (rule_by y) is-side is-rule
