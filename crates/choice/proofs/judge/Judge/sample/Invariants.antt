use Rattle.std.proofs.Common.{ℕ, ◌<◌, length, slice_index}
use Rattle.levels.specs.Generated.{Generates}
use Rattle.levels.specs.Rows.{basis_rows}
use Rattle.levels.specs.Basis.{Smallest}
use Rattle.choice.specs.Judged.{AllGenerated, KeptBy, shared_rows, words_of}
use Rattle.choice.proofs.judge.Judge.sample.Given as goal

-- the start and the words so far are generated, and no multiple of a shared row makes the start smaller
abbrev pub invariant-loop-row : goal.invariant-loop-row
invariant-loop-row g l = record {
  smallest : (i : ℕ) → i < length (shared_rows l.self) → Smallest g.L.Levels.model l.self.factors (slice_index (shared_rows l.self) i) l.start;
  start : Generates g.L.Levels.model l.self.factors (basis_rows l.self.whole) l.start;
  kept : KeptBy g.L.Levels.model g.P.Preference.good l.self l.progress;
  generated : AllGenerated g.L.Levels.model l.self (words_of l.progress);
}
