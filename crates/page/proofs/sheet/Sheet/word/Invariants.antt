-- What is written and the digits that are left make the word.
use Rattle.std.proofs.Common.{◌≡◌, ◌-◌, ◌++◌, take}
use Rattle.levels.specs.Words.{digits}
use Rattle.page.specs.Page.{letters, shown}
use Rattle.page.specs.Written.{written}
use Rattle.page.proofs.sheet.Sheet.word.Given as goal

abbrev pub invariant-loop-i : goal.invariant-loop-i
invariant-loop-i g l =
    take 1024 (written l.self ++ letters l.i (digits g.L.Levels.model (l.plan.factors - l.i) l.rest))
    ≡ take 1024 (written l.initial.self ++ shown g.L.Levels.model l.plan.factors l.code)
