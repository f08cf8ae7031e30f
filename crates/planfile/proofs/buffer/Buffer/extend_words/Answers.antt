-- Each word stands behind those before it, in 8 bytes.
use Rattle.std.proofs.Common.{◌++◌, length, get_or, take, sym, ap, ◌∙◌, arith}
use Rattle.std.proofs.lemmas.List.{append_assoc, length-append, length-take}
use Rattle.planfile.specs.File.{bytes, word_bytes}
use Rattle.planfile.specs.Written.{written}
use Rattle.planfile.proofs.Coding.{eight_bytes, length_word_bytes, word_bytes_more}
use Rattle.planfile.proofs.buffer.Buffer.extend_words.Goals as goal

pub extend-requires : goal.extend-requires
extend-requires c =
    let i = c.loop-word.word-index in
    let ws = c.args.words.now in
    omega (
      arith,
      c.requires,
      ap length c.loop-word.invariant,
      length-append (written c.args.self.now) (word_bytes (take i ws)),
      length_word_bytes (take i ws),
      length-take i ws,
      ap length c.to_le_bytes.ensures,
      c.loop-word-test.true,
    )

pub loop-word-preserved : goal.loop-word-preserved
loop-word-preserved c =
    let i = c.loop-word.word-index in
    let ws = c.args.words.now in
    let start = written c.args.self.now in
    c.extend.ensures ∙ ap (λ zs. written c.loop-word.self ++ zs) (c.to_le_bytes.ensures ∙ sym (eight_bytes (get_or ws i 0)))
    ∙ ap (λ zs. zs ++ bytes 8 (get_or ws i 0)) c.loop-word.invariant
    ∙ append_assoc start (word_bytes (take i ws)) (bytes 8 (get_or ws i 0))
    ∙ ap (λ zs. start ++ zs) (sym (word_bytes_more ws i c.loop-word-test.true))
