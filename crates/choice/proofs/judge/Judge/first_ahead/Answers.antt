use Rattle.std.proofs.Common.{ℕ, ◌<◌, length, get_or, sym, ap, ap₂, ◌∙◌, subst, inl, inr, arith}
use Rattle.std.proofs.lemmas.Bool.{cases_eq, OnTrue_at}
use Rattle.levels.specs.Words.{word_sum}
use Rattle.levels.specs.Space.{Word}
use Rattle.choice.specs.Search.{NoLater}
use Rattle.choice.specs.Judged.{order_of}
use Rattle.bounded.specs.Items.{items_of}
use Rattle.levels.specs.Leaves.{AreOpposite, leaf_words}
use Rattle.choice.proofs.judge.Judge.first_ahead.Goals as goal

-- the sum is one of two words, with the opposite of the second
pub precedes_next_sum-requires-clause-sum : goal.precedes_next_sum-requires-clause-sum
precedes_next_sum-requires-clause-sum g c =
    let A = g.L.Levels.model in
    let n = c.args.self.now.factors in
    let leaves = c.args.leaves.now in
    let k = c.loop-place.place in
    let sum = c.sum_at.ensures in
    let inside : k < length (leaf_words leaves) = omega (arith, c.loop-place-test.true, ap length c.words-place-end.ensures) in
    let w = get_or (leaf_words leaves) k 0 in
    let o = OnTrue_at {P = AreOpposite A n w (get_or (items_of leaves.opposites) k 0)} (c.requires.leaves.least k inside).word (c.requires.leaves.opposites.1 k inside).0 in
    record {
      first = subst (Word A n) (sym sum.first) c.requires.start.word;
      second = subst (Word A n) (sym sum.second) (c.requires.leaves.least k inside).word;
      opposite = subst (Word A n) (sym sum.opposite) o.0;
      none = ap₂ (word_sum A n) sum.second sum.opposite ∙ o.1;
    }

-- one sum more that stands behind
pub loop-place-preserved : goal.loop-place-preserved
loop-place-preserved g c j l m =
    let s = c.args.self.now in
    let A = g.L.Levels.model in
    let leaves = leaf_words c.args.leaves.now in
    let start = c.args.start in
    let k = c.loop-place.place in
    let order = order_of A g.P.Preference.good s in
    let later = OnTrue_at c.if-not-precedes_next_sum.false c.precedes_next_sum.ensures.yes in
    elim (cases_eq j k) [
      | inr d ↦ c.loop-place.invariant j l (omega (arith, d))
      | inl e ↦ subst (λ (x : ℕ). NoLater order c.args.last.now.word x) (ap₂ (word_sum A s.factors) c.sum_at.ensures.first c.sum_at.ensures.second ∙ ap (λ (i : ℕ). word_sum A s.factors start (get_or leaves i 0)) (sym e)) later
    ]

-- at first, none
pub loop-place-init : goal.loop-place-init
loop-place-init g c j l m = absurd (omega arith)

-- in the end, all
pub returns-clause-none : goal.returns-clause-none
returns-clause-none g c k l m = c.loop-place.invariant k l (omega (arith, c.loop-place-test.false, ap length c.words-place-end.ensures))
