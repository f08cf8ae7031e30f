use Rattle.std.proofs.Common.{◌≡◌, ℕ, ◌+◌, ◌-◌, ◌%◌, ◌^◌, ◌<◌, List, map, length, get_or, take, drop, sym, refl, ap, ◌∙◌, subst, arith, rules}
use Rattle.std.proofs.lemmas.List.{length-set}
use Rattle.std.specs.Prelude.{bit_xor}
use Rattle.levels.specs.Words.{word_length, word_sum, word_multiple, code_sum}
use Rattle.levels.specs.Leaves.{leaf_words}
use Rattle.levels.proofs.Apart.{leaf_apart}
use Rattle.levels.specs.Space.{Word}
use Rattle.levels.specs.Alias.{multiples_below, with_all_multiples}
use Rattle.levels.proofs.Leaves.{leaf_length, one_leaf_more, adds_fit, code_legal, sum_legal, all_multiples_words, one_level_counted}
use Rattle.levels.proofs.span.+count.Goals as goal

-- a sum has one of 33 lengths
pub bounds-counts-length : goal.bounds-counts-length
bounds-counts-length g t c =
    let A = g.L.Levels.model in
    let L = g.met.L.Levels.lawful in
    let n = c.args.n in
    let start = c.args.start in
    let leaves = c.args.leaves.now in
    let words = leaf_words leaves in
    let k = c.loop-opposite.opposite-index in
    let inside : k < length words = omega (arith, c.loop-opposite-test.true, ap length c.opposites-opposite-items.ensures, c.requires.opposites.0) in
    let here = ap (λ (us : List ℕ). word_length A (bit_xor start (get_or us k 0))) c.opposites-opposite-items.ensures in
    let size : c.from-length.result ≡ word_length A (code_sum A start (get_or words k 0)) =
    c.from-length.ensures ∙ c.length.ensures ∙ here ∙ leaf_apart A L n start c.requires.start leaves c.requires.opposites c.requires.legal k inside in
    leaf_length A L n start words k (code_sum A start (get_or words k 0)) c.from-length.result c.requires.start c.requires.legal inside refl size

-- the same at the write
pub bounds-counts-length-in-loop-opposite : goal.bounds-counts-length-in-loop-opposite
bounds-counts-length-in-loop-opposite g t c =
    let A = g.L.Levels.model in
    let L = g.met.L.Levels.lawful in
    let n = c.args.n in
    let start = c.args.start in
    let leaves = c.args.leaves.now in
    let words = leaf_words leaves in
    let k = c.loop-opposite.opposite-index in
    let inside : k < length words = omega (arith, c.loop-opposite-test.true, ap length c.opposites-opposite-items.ensures, c.requires.opposites.0) in
    let here = ap (λ (us : List ℕ). word_length A (bit_xor start (get_or us k 0))) c.opposites-opposite-items.ensures in
    let size : c.from-length.result ≡ word_length A (code_sum A start (get_or words k 0)) =
    c.from-length.ensures ∙ c.length.ensures ∙ here ∙ leaf_apart A L n start c.requires.start leaves c.requires.opposites c.requires.legal k inside in
    leaf_length A L n start words k (code_sum A start (get_or words k 0)) c.from-length.result c.requires.start c.requires.legal inside refl size

-- one more leaf is counted
pub loop-opposite-preserved : goal.loop-opposite-preserved
loop-opposite-preserved g t c =
    let A = g.L.Levels.model in
    let L = g.met.L.Levels.lawful in
    let n = c.args.n in
    let start = c.args.start in
    let leaves = c.args.leaves.now in
    let words = leaf_words leaves in
    let k = c.loop-opposite.opposite-index in
    let inside : k < length words = omega (arith, c.loop-opposite-test.true, ap length c.opposites-opposite-items.ensures, c.requires.opposites.0) in
    let here = ap (λ (us : List ℕ). word_length A (bit_xor start (get_or us k 0))) c.opposites-opposite-items.ensures in
    let size : c.from-length.result ≡ word_length A (code_sum A start (get_or words k 0)) =
    c.from-length.ensures ∙ c.length.ensures ∙ here ∙ leaf_apart A L n start c.requires.start leaves c.requires.opposites c.requires.legal k inside in
    let counts = c.loop-opposite.counts in
    let length_at = c.from-length.result in (
      one_leaf_more A L n start words k (code_sum A start (get_or words k 0)) length_at c.args.counts.now counts c.requires.start c.requires.legal inside refl size
          c.loop-opposite.invariant.1 c.loop-opposite.invariant.0,
      length-set counts length_at ((get_or counts length_at 0 + 1) % 2 ^ 64) ∙ c.loop-opposite.invariant.1,
    )

-- what the words behind the first are counted with
pub count-requires : goal.count-requires
count-requires g t c κs within =
    let A = g.L.Levels.model in
    let n = c.args.n in
    let start = c.args.start in
    let w = get_or c.args.words.now 0 0 in
    let m = word_multiple A n c.loop-level.level w in
    let value : c.add.result ≡ word_sum A n start m =
    c.add.ensures ∙ ap (code_sum A start) c.product.ensures ∙ code_legal A g.met.L.Levels.lawful n c.loop-level.level w start c.requires.start in
    let legal : Word A n c.add.result =
    subst (Word A n) (sym value) (sum_legal A g.met.L.Levels.lawful n c.loop-level.level w start c.requires.start) in
    let fit : (i : ℕ) → i < 33 → get_or c.loop-level.counts i 0 < 2 ^ 64 =
    adds_fit A (map (word_sum A n start) (multiples_below A n c.loop-level.level w (with_all_multiples A n (take (length c.args.words.now - 1) (drop 1 c.args.words.now)) (leaf_words c.args.leaves.now)))) c.args.counts.now c.loop-level.counts c.loop-level.invariant.0 in
    search rules

-- the words with one more multiple are counted
pub loop-level-preserved : goal.loop-level-preserved
loop-level-preserved g t c =
    let A = g.L.Levels.model in
    let L = g.met.L.Levels.lawful in
    let n = c.args.n in
    let start = c.args.start in
    let w = get_or c.args.words.now 0 0 in
    let rest = take (length c.args.words.now - 1) (drop 1 c.args.words.now) in
    let level = c.loop-level.level in (
      one_level_counted A L n start level w c.add.result (with_all_multiples A n rest (leaf_words c.args.leaves.now)) c.args.counts.now c.loop-level.counts c.count.new.counts
          c.requires.start (all_multiples_words A L n rest (leaf_words c.args.leaves.now) c.requires.legal)
          (c.add.ensures ∙ ap (code_sum A start) c.product.ensures ∙ code_legal A L n level w start c.requires.start)
          c.loop-level.invariant.0 c.count.ensures,
      search rules,
    )
