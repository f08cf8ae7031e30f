use Rattle.std.proofs.Common.{◌<◌, length, slice_index}
use Rattle.choice.specs.Search.{Below, Coset}
use Rattle.choice.specs.Judged.{OfferedTo, shared_rows, words_of}
use Rattle.choice.proofs.judge.Judge.offer_all.Given as goal

-- the words so far were offered
abbrev pub invariant-loop-word : goal.invariant-loop-word
invariant-loop-word g l =
    OfferedTo g.L.Levels.model g.P.Preference.good l.self (Below l.word-index (λ i w. (i < length l.words) × Coset g.L.Levels.model l.self.factors (shared_rows l.self) (slice_index l.words i) w)) (words_of l.initial.progress) l.progress
