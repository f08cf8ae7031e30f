-- At most 16 words fit the longest file.
use Rattle.std.proofs.Common.{length, ap, arith}
use Rattle.std.proofs.lemmas.List.{length-append}
use Rattle.planfile.specs.File.{word_bytes}
use Rattle.planfile.specs.Written.{written}
use Rattle.planfile.proofs.Coding.{length_word_bytes}
use Rattle.planfile.proofs.writing.file.Goals as goal

pub extend_words-requires-2 : goal.extend_words-requires-2
extend_words-requires-2 g c =
    omega (
      arith,
      c.args.held.now.few,
      ap length c.new-file.ensures,
      ap length c.extend.ensures,
      length-append (written c.new-file.result) c.head.result,
      ap length c.head.ensures,
      ap length c.extend_words.ensures,
      length-append (written c.extend.new.self) (word_bytes c.as_slice.result.now),
      length_word_bytes c.as_slice.result.now,
      ap length c.as_slice.ensures,
      ap length c.as_slice-2.ensures,
      ap length c.list.ensures,
      ap length c.list-2.ensures,
    )
