-- What is written and the words that are left make the line.
use Rattle.std.proofs.Common.{◌≡◌, ◌++◌, take, drop}
use Rattle.page.specs.Page.{fields, shown}
use Rattle.page.specs.Written.{written}
use Rattle.page.proofs.sheet.Sheet.words.Given as goal

abbrev pub invariant-loop-word : goal.invariant-loop-word
invariant-loop-word g l =
    take 1024 (written l.self ++ fields (shown g.L.Levels.model l.plan.factors) (drop l.word-index l.words))
    ≡ take 1024 (written l.initial.self ++ fields (shown g.L.Levels.model l.plan.factors) l.words)
