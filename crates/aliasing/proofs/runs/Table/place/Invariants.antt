use Rattle.std.proofs.Common.{◌≡◌, ◌-◌}
use Rattle.aliasing.specs.Table.{placed}
use Rattle.aliasing.proofs.runs.Table.place.Given as goal

-- what is left, put into the table from this place on, gives the table
abbrev pub invariant-loop-p : goal.invariant-loop-p
invariant-loop-p l =
    (l.self ≡ l.initial.self)
    × (placed (l.self.factors - l.p) l.p l.self.rows l.left ≡ placed l.initial.self.factors 0 l.initial.self.rows l.word)
