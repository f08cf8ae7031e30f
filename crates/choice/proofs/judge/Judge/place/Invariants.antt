use Rattle.std.proofs.Common.{◌≡◌, ℕ, ◌<◌, ◌≤◌, length, take, slice_index}
use Rattle.choice.specs.Search.{NoLater}
use Rattle.choice.specs.Judged.{order_of, words_of}
use Rattle.choice.proofs.judge.Judge.place.Given as goal

-- the words behind the front may stand behind the word
abbrev pub invariant-loop-front : goal.invariant-loop-front
invariant-loop-front g l = record {
  front : l.front ≡ take (length l.front) (words_of l.progress);
  within : length l.front ≤ length (words_of l.progress);
  behind : (j : ℕ) → length l.front ≤ j → j < length (words_of l.progress) → NoLater (order_of g.L.Levels.model g.P.Preference.good l.self) l.candidate.word (slice_index (words_of l.progress) j);
}

abbrev pub decreases-loop-front : goal.decreases-loop-front
decreases-loop-front g l = length l.front
