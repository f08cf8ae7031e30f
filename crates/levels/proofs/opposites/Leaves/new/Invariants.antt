use Rattle.std.proofs.Common.{◌≡◌, ℕ, ◌<◌, length, slice_index}
use Rattle.bounded.specs.Items.{items_of}
use Rattle.levels.proofs.Beside.{Beside}
use Rattle.levels.proofs.opposites.Leaves.new.Given as goal

-- the opposites of the words so far
abbrev pub invariant-loop-word : goal.invariant-loop-word
invariant-loop-word g l = record {
  size : length (items_of l.opposites) ≡ l.word-index;
  each : (i : ℕ) → i < l.word-index → Beside g.L.Levels.model l.n (slice_index l.word-items i) (slice_index (items_of l.opposites) i);
}
