use Rattle.std.proofs.Common.{◌≡◌, drop}
use Rattle.levels.specs.Rows.{basis_rows}
use Rattle.choice.specs.Chosen.{chosen_words}
use Rattle.choice.specs.Search.{Fits, sieve}
use Rattle.choice.proofs.judge.Judge.keep_all.Given as goal

-- what is left of the list is put behind the words kept so far
abbrev pub invariant-loop-word : goal.invariant-loop-word
invariant-loop-word g l = record {
  fits : Fits g.L.Levels.model l.self.factors (basis_rows l.self.known) l.self.base.words.now (basis_rows l.kept.rows) (chosen_words l.kept.words);
  words : sieve g.L.Levels.model l.self.factors l.self.room l.self.base.words.now (chosen_words l.kept.words) (drop l.word-index l.words)
      ≡ sieve g.L.Levels.model l.self.factors l.self.room l.self.base.words.now (chosen_words l.initial.kept.words) l.words;
}
