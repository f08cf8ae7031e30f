use Rattle.std.proofs.Common.{◌≡◌, drop}
use Rattle.aliasing.specs.Table.{empty_table, all_placed}
use Rattle.aliasing.proofs.runs.Table.new.Given as goal

-- the table with the words that are left is the whole table
abbrev pub invariant-loop-word : goal.invariant-loop-word
invariant-loop-word l = (l.table.factors ≡ l.n) × (all_placed l.n l.table.rows (drop l.word-index l.words) ≡ all_placed l.n empty_table l.words)
