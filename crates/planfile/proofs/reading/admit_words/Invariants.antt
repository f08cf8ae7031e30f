-- What is left to admit gives what all gave at the start.
use Rattle.std.proofs.Common.{◌≡◌, drop, map}
use Rattle.contents.specs.Content.{admitted_all}
use Rattle.planfile.specs.File.{number}
use Rattle.planfile.proofs.reading.admit_words.Given as goal

abbrev pub invariant-loop-word : goal.invariant-loop-word
invariant-loop-word g l =
    admitted_all g.L.Levels.model l.side (map number (drop l.word-index l.words)) l.draft
    ≡ admitted_all g.L.Levels.model l.side (map number l.words) l.initial.draft
