use Rattle.std.proofs.Common.{length}
use Rattle.levels.specs.Words.{word_sum, word_multiple}
use Rattle.choice.specs.Search.{Below, Spread}
use Rattle.choice.specs.Judged.{OfferedTo, shared_rows, words_of}
use Rattle.levels.specs.Leaves.{leaf_words}
use Rattle.choice.proofs.judge.Judge.+offer_over_leaves.Given as goal

abbrev pub decreases-offer_over_leaves : goal.decreases-offer_over_leaves
decreases-offer_over_leaves g l = length l.words.now

-- the sums by the levels so far were offered
abbrev pub invariant-loop-level : goal.invariant-loop-level
invariant-loop-level g l =
    OfferedTo g.L.Levels.model g.P.Preference.good l.self
    (Below l.level (λ c. Spread g.L.Levels.model l.self.factors (shared_rows l.self) l.rest (leaf_words l.leaves) (word_sum g.L.Levels.model l.self.factors l.start (word_multiple g.L.Levels.model l.self.factors c l.word))))
    (words_of l.initial.progress) l.progress
