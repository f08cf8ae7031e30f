-- The lines so far stand beside their answers.
use Rattle.std.proofs.Common.{◌≡◌, map, take, length}
use Rattle.trialplan.proofs.answered.with_answers.Given as goal

abbrev pub invariant-loop-line : goal.invariant-loop-line
invariant-loop-line l =
    (map (λ a. a.line.now) l.all.items ≡ take l.line-index l.lines) × (length l.all.items ≡ l.line-index)
