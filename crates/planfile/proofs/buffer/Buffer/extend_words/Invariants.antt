-- The bytes of the words so far.
use Rattle.std.proofs.Common.{◌≡◌, ◌++◌, take}
use Rattle.planfile.specs.File.{word_bytes}
use Rattle.planfile.specs.Written.{written}
use Rattle.planfile.proofs.buffer.Buffer.extend_words.Given as goal

abbrev pub invariant-loop-word : goal.invariant-loop-word
invariant-loop-word l = written l.self ≡ written l.initial.self ++ word_bytes (take l.word-index l.words)
