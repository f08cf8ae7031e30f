-- What is written and the numbers that are left make the line.
use Rattle.std.proofs.Common.{◌≡◌, ◌++◌, take, drop, decimal}
use Rattle.page.specs.Page.{fields}
use Rattle.page.specs.Written.{written}
use Rattle.page.proofs.sheet.Sheet.numbers.Given as goal

abbrev pub invariant-loop-number : goal.invariant-loop-number
invariant-loop-number l =
    take 1024 (written l.self ++ fields decimal (drop l.number-index l.numbers)) ≡ take 1024 (written l.initial.self ++ fields decimal l.numbers)
