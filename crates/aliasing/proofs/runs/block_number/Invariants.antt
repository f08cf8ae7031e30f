use Rattle.std.proofs.Common.{◌≡◌, ◌+◌, ◌*◌, ◌^◌, ◌<◌, length, drop}
use Rattle.aliasing.specs.Table.{block_bits}
use Rattle.aliasing.proofs.runs.block_number.Given as goal

-- the digits so far and those of the words that are left make up the block number
abbrev pub invariant-loop-i : goal.invariant-loop-i
invariant-loop-i l =
    (l.number < 2 ^ length l.yielded)
    × (l.number + block_bits l.run (drop (length l.yielded) l.words) * 2 ^ length l.yielded ≡ block_bits l.run l.words)
