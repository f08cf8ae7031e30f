use Rattle.std.proofs.Common.{◌≡◌, ℕ, ◌-◌, ◌<◌, List, [], length, get_or, take, drop, sym, subst, arith, rules}
use Rattle.std.proofs.lemmas.List.{nil_from_length}
use Rattle.levels.specs.Words.{word_sum, word_multiple}
use Rattle.levels.specs.Rows.{basis_rows}
use Rattle.choice.specs.Search.{Below, Spread}
use Rattle.choice.specs.Judged.{OfferedTo, shared_rows, words_of}
use Rattle.choice.specs.Search.{Least}
use Rattle.choice.proofs.Least.{least_sum, least_multiple, rest_least, shared_echelon}
use Rattle.choice.proofs.Sums.{next_start}
use Rattle.choice.proofs.Offers.{none_below, spread_more, words_head}
use Rattle.levels.specs.Leaves.{leaf_words}
use Rattle.choice.proofs.judge.Judge.+offer_over_leaves.Goals as goal

-- at first, none
pub loop-level-init : goal.loop-level-init
loop-level-init g t c =
    let A = g.L.Levels.model in
    let s = c.args.self.now in
    let words = c.args.words.now in (
      none_below A g.met.L.Levels.lawful (g.P.Preference.good s.preference.now) (g.met.P.Preference.lawful s.preference.now) s.factors s.room s.base.words.now
          (λ l. Spread A s.factors (shared_rows s) (take (length words - 1) (drop 1 words)) (leaf_words c.args.leaves.now) (word_sum A s.factors c.args.start (word_multiple A s.factors l (get_or words 0 0)))) (words_of c.args.progress.now) c.requires.kept.0,
      c.requires.kept.1,
    )

-- the next start is the smallest code of those that are alike, the other words are, and the kept words are kept
pub offer_over_leaves-requires : goal.offer_over_leaves-requires
offer_over_leaves-requires g t c κs within =
    let A = g.L.Levels.model in
    let L = g.met.L.Levels.lawful in
    let s = c.args.self.now in
    let n = s.factors in
    let start = c.args.start in
    let words = c.args.words.now in
    let w = get_or words 0 0 in
    let level = c.loop-level.level in
    let shared = shared_rows s in
    let echelon = shared_echelon A n (basis_rows s.known) s.alike s.echelon in
    let value : c.add-next.result ≡ word_sum A n start (word_multiple A n level w) =
    next_start A L n level w start c.product.result c.add-next.result c.requires.start.word c.product.ensures c.add-next.ensures in
    let first : Least A n shared w = c.requires.words 0 (omega (arith, c.in-len1-up.len_at_least)) in
    let below : level < A.s = omega (arith, c.loop-level-test.true, g.met.L.Levels.levels) in
    let least : Least A n shared c.add-next.result = subst (Least A n shared) (sym value)
    (least_sum A L n shared echelon start (word_multiple A n level w) c.requires.start (least_multiple A L n shared echelon level w below first)) in
    let rest : (i : ℕ) → i < length (take (length words - 1) (drop 1 words)) → Least A n shared (get_or (take (length words - 1) (drop 1 words)) i 0) =
    rest_least A L n shared echelon words c.requires.words in
    let kept = c.loop-level.invariant.0.kept in
    let fits = c.loop-level.invariant.1 in
    let law = c.requires.kept.2 in
    let leaves = c.requires.leaves.least in
    search (rules, least, rest, leaves)

-- one level more
pub loop-level-preserved : goal.loop-level-preserved
loop-level-preserved g t c =
    let A = g.L.Levels.model in
    let L = g.met.L.Levels.lawful in
    let s = c.args.self.now in
    let n = s.factors in
    let words = c.args.words.now in
    let start = c.args.start in
    let w = get_or words 0 0 in
    let level = c.loop-level.level in
    let value : c.add-next.result ≡ word_sum A n start (word_multiple A n level w) =
    next_start A L n level w start c.product.result c.add-next.result c.requires.start.word c.product.ensures c.add-next.ensures in (
      spread_more A L (g.P.Preference.good s.preference.now) (g.met.P.Preference.lawful s.preference.now) n s.room s.base.words.now (shared_rows s) (leaf_words c.args.leaves.now) start c.requires.start.word (λ i l. (c.requires.leaves.least i l).word)
          level w c.add-next.result value (take (length words - 1) (drop 1 words)) (words_of c.args.progress.now) (words_of c.loop-level.progress) (words_of c.offer_over_leaves.new.progress) c.loop-level.invariant.0 c.offer_over_leaves.ensures.0,
      c.offer_over_leaves.ensures.1,
    )

-- with no word, the leaves
pub returns-in-empty : goal.returns-in-empty
returns-in-empty g t c =
    let s = c.args.self.now in
    let none : c.args.words.now ≡ [] = nil_from_length c.args.words.now (let l = c.in-empty.len_below in omega arith) in
    subst (λ (ws : List ℕ). OfferedTo g.L.Levels.model g.P.Preference.good s (Spread g.L.Levels.model s.factors (shared_rows s) ws (leaf_words c.args.leaves.now) c.args.start) (words_of c.args.progress.now) c.offer_leaves.new.progress) (sym none) c.offer_leaves.ensures

-- in the end, all levels
pub returns-after-loop-level : goal.returns-after-loop-level
returns-after-loop-level g t c =
    let A = g.L.Levels.model in
    let s = c.args.self.now in
    let words = c.args.words.now in
    let all : c.loop-level.level ≡ A.s = omega (arith, c.loop-level.auto.level-end, g.met.L.Levels.levels) in
    let whole = words_head words c.in-len1-up.len_at_least in
    subst (λ (ws : List ℕ). OfferedTo A g.P.Preference.good s (Spread A s.factors (shared_rows s) ws (leaf_words c.args.leaves.now) c.args.start) (words_of c.args.progress.now) c.loop-level.progress) whole
    (subst (λ (k : ℕ). OfferedTo A g.P.Preference.good s (Below k (λ l. Spread A s.factors (shared_rows s) (take (length words - 1) (drop 1 words)) (leaf_words c.args.leaves.now) (word_sum A s.factors c.args.start (word_multiple A s.factors l (get_or words 0 0))))) (words_of c.args.progress.now) c.loop-level.progress) all
    c.loop-level.invariant)
