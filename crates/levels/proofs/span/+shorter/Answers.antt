use Rattle.std.proofs.Common.{◌≡◌, ℕ, suc, ◌+◌, ◌-◌, ◌<◌, true, false, List, [], map, length, get_or, take, drop, sym, refl, ap, ◌∙◌, subst, arith, rules}
use Rattle.std.proofs.lemmas.List.{nil_from_length, take_all}
use Rattle.levels.specs.Words.{word_length, word_sum, word_multiple, code_sum}
use Rattle.std.specs.Prelude.{bit_xor}
use Rattle.levels.specs.Leaves.{leaf_words}
use Rattle.levels.proofs.Apart.{leaf_apart}
use Rattle.levels.specs.Space.{Word}
use Rattle.levels.specs.Alias.{any_shorter, multiples_below, with_all_multiples}
use Rattle.levels.proofs.Leaves.{code_legal, sum_legal, all_multiples_words}
use Rattle.levels.proofs.Shorter.{leaf_shorter, leaf_not_shorter, level_shorter, level_not_shorter, levels_kept, sums_by, words_head}
use Rattle.levels.proofs.span.+shorter.Goals as goal

-- the leaf that is shorter
pub returns-then-length-bound : goal.returns-then-length-bound
returns-then-length-bound g t c =
    let A = g.L.Levels.model in
    let L = g.met.L.Levels.lawful in
    let n = c.args.n in
    let start = c.args.start in
    let leaves = c.args.leaves.now in
    let words = leaf_words leaves in
    let k = c.loop-opposite.opposite-index in
    let inside : k < length words = omega (arith, c.loop-opposite-test.true, ap length c.opposites-opposite-items.ensures, c.requires.opposites.0) in
    let here = ap (λ (us : List ℕ). word_length A (bit_xor start (get_or us k 0))) c.opposites-opposite-items.ensures in
    let sum = code_sum A start (get_or words k 0) in
    let size : c.length.result ≡ word_length A sum = c.length.ensures ∙ here ∙ leaf_apart A L n start c.requires.start leaves c.requires.opposites c.requires.legal k inside in
    let none : c.args.words.now ≡ [] = nil_from_length c.args.words.now (let l = c.in-empty.len_below in omega arith) in
    sym (ap (λ (ws : List ℕ). any_shorter A c.args.bound (map (word_sum A n start) (with_all_multiples A n ws words))) none
    ∙ leaf_shorter A c.args.bound L n start c.requires.start words c.requires.legal k sum inside refl (omega (arith, size, c.if-length-bound.true)))

-- one leaf more that is not
pub loop-opposite-preserved : goal.loop-opposite-preserved
loop-opposite-preserved g t c =
    let A = g.L.Levels.model in
    let L = g.met.L.Levels.lawful in
    let n = c.args.n in
    let start = c.args.start in
    let leaves = c.args.leaves.now in
    let words = leaf_words leaves in
    let k = c.loop-opposite.opposite-index in
    let inside : k < length words = omega (arith, c.loop-opposite-test.true, ap length c.opposites-opposite-items.ensures, c.requires.opposites.0) in
    let here = ap (λ (us : List ℕ). word_length A (bit_xor start (get_or us k 0))) c.opposites-opposite-items.ensures in
    let sum = code_sum A start (get_or words k 0) in
    let size : c.length.result ≡ word_length A sum = c.length.ensures ∙ here ∙ leaf_apart A L n start c.requires.start leaves c.requires.opposites c.requires.legal k inside in
    leaf_not_shorter A c.args.bound L n start c.requires.start words c.requires.legal k sum inside refl (omega (arith, size, c.if-length-bound.false)) c.loop-opposite.invariant

-- the next start is a word
pub shorter-requires : goal.shorter-requires
shorter-requires g t c κs within =
    let A = g.L.Levels.model in
    let n = c.args.n in
    let start = c.args.start in
    let w = get_or c.args.words.now 0 0 in
    let m = word_multiple A n c.loop-level.level w in
    let value : c.add-next.result ≡ word_sum A n start m =
    c.add-next.ensures ∙ ap (code_sum A start) c.product.ensures ∙ code_legal A g.met.L.Levels.lawful n c.loop-level.level w start c.requires.start in
    let legal : Word A n c.add-next.result =
    subst (Word A n) (sym value) (sum_legal A g.met.L.Levels.lawful n c.loop-level.level w start c.requires.start) in
    search rules

-- the level by which one is shorter
pub returns-then-shorter : goal.returns-then-shorter
returns-then-shorter g t c =
    let A = g.L.Levels.model in
    let L = g.met.L.Levels.lawful in
    let n = c.args.n in
    let start = c.args.start in
    let words = c.args.words.now in
    let w = get_or words 0 0 in
    let rest = take (length words - 1) (drop 1 words) in
    let level = c.loop-level.level in
    let xs = with_all_multiples A n rest (leaf_words c.args.leaves.now) in
    let legal = all_multiples_words A L n rest (leaf_words c.args.leaves.now) c.requires.legal in
    let value : c.add-next.result ≡ word_sum A n start (word_multiple A n level w) =
    c.add-next.ensures ∙ ap (code_sum A start) c.product.ensures ∙ code_legal A L n level w start c.requires.start in
    let here = level_shorter A c.args.bound L n start c.requires.start w xs legal level c.add-next.result value (sym c.shorter.ensures ∙ c.if-shorter.true) in
    let all : A.s - (level + 1) + (level + 1) ≡ A.s = omega (arith, c.loop-level-test.true, c.LEVELS-level-end.ensures, g.met.L.Levels.levels) in
    let one : suc level ≡ level + 1 = omega arith in
    let kept = levels_kept A c.args.bound L n start c.requires.start w xs legal (level + 1) (A.s - (level + 1)) (subst (λ (k : ℕ). any_shorter A c.args.bound (sums_by A c.args.bound L n start c.requires.start w xs legal k) ≡ true) one here) in
    sym (subst (λ (ws : List ℕ). any_shorter A c.args.bound (map (word_sum A n start) (with_all_multiples A n ws (leaf_words c.args.leaves.now))) ≡ true) (words_head words c.in-len1-up.len_at_least)
    (subst (λ (k : ℕ). any_shorter A c.args.bound (sums_by A c.args.bound L n start c.requires.start w xs legal k) ≡ true) all kept))

-- one level more by which none is
pub loop-level-preserved : goal.loop-level-preserved
loop-level-preserved g t c =
    let A = g.L.Levels.model in
    let L = g.met.L.Levels.lawful in
    let n = c.args.n in
    let start = c.args.start in
    let words = c.args.words.now in
    let w = get_or words 0 0 in
    let rest = take (length words - 1) (drop 1 words) in
    let level = c.loop-level.level in
    let value : c.add-next.result ≡ word_sum A n start (word_multiple A n level w) =
    c.add-next.ensures ∙ ap (code_sum A start) c.product.ensures ∙ code_legal A L n level w start c.requires.start in
    level_not_shorter A c.args.bound L n start c.requires.start w (with_all_multiples A n rest (leaf_words c.args.leaves.now)) (all_multiples_words A L n rest (leaf_words c.args.leaves.now) c.requires.legal) level c.add-next.result value
    c.loop-level.invariant (sym c.shorter.ensures ∙ c.if-shorter.false)

-- none of all leaves
pub returns-after-loop-opposite : goal.returns-after-loop-opposite
returns-after-loop-opposite g t c =
    let A = g.L.Levels.model in
    let leaves = leaf_words c.args.leaves.now in
    let none : c.args.words.now ≡ [] = nil_from_length c.args.words.now (let l = c.in-empty.len_below in omega arith) in
    sym (ap (λ (ws : List ℕ). any_shorter A c.args.bound (map (word_sum A c.args.n c.args.start) (with_all_multiples A c.args.n ws leaves))) none
    ∙ subst (λ (us : List ℕ). any_shorter A c.args.bound (map (word_sum A c.args.n c.args.start) us) ≡ false) (take_all c.loop-opposite.opposite-index leaves (omega (arith, c.loop-opposite-test.false, ap length c.opposites-opposite-items.ensures, c.requires.opposites.0))) c.loop-opposite.invariant)

-- none by all levels
pub returns-after-loop-level : goal.returns-after-loop-level
returns-after-loop-level g t c =
    let A = g.L.Levels.model in
    let words = c.args.words.now in
    let rest = take (length words - 1) (drop 1 words) in
    let all : c.loop-level.level ≡ A.s = omega (arith, c.loop-level.auto.level-end, c.loop-level-test.false, c.LEVELS-level-end.ensures, g.met.L.Levels.levels) in
    sym (subst (λ (ws : List ℕ). any_shorter A c.args.bound (map (word_sum A c.args.n c.args.start) (with_all_multiples A c.args.n ws (leaf_words c.args.leaves.now))) ≡ false) (words_head words c.in-len1-up.len_at_least)
    (subst (λ (k : ℕ). any_shorter A c.args.bound (map (word_sum A c.args.n c.args.start) (multiples_below A c.args.n k (get_or words 0 0) (with_all_multiples A c.args.n rest (leaf_words c.args.leaves.now)))) ≡ false) all c.loop-level.invariant))
