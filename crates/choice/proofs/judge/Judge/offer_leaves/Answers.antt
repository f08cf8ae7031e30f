use Rattle.std.proofs.Common.{◌≡◌, ℕ, Option, length, ap, ap₂, sym, ◌∙◌, subst, arith}
use Rattle.std.specs.Prelude.{IfSome, IfNone}
use Rattle.levels.specs.Rows.{basis_rows}
use Rattle.levels.specs.Space.{AllWords}
use Rattle.levels.specs.Words.{code_sum}
use Rattle.choice.specs.Search.{Below, Coset, Leaf}
use Rattle.choice.specs.Judged.{Found, NoneAhead, OfferedTo, shared_rows, words_of}
use Rattle.choice.proofs.Least.{least_leaf, shared_echelon}
use Rattle.choice.proofs.Offers.{none_below, leaf_next, leaf_value, leaves_behind}
use Rattle.levels.specs.Leaves.{leaf_words}
use Rattle.choice.proofs.judge.Judge.offer_leaves.Goals as goal

-- at first, none
pub loop-next-init : goal.loop-next-init
loop-next-init g c =
    let s = c.args.self.now in
    record {
      within = omega arith;
      offered = (
        none_below g.L.Levels.model g.met.L.Levels.lawful (g.P.Preference.good s.preference.now) (g.met.P.Preference.lawful s.preference.now) s.factors s.room s.base.words.now
            (Leaf g.L.Levels.model s.factors (shared_rows s) (leaf_words c.args.leaves.now) c.args.start) (words_of c.args.progress.now) c.requires.kept.0,
        c.requires.kept.1,
      );
    }

-- the place is one of a leaf
pub sum_at-requires-clause-place : goal.sum_at-requires-clause-place
sum_at-requires-clause-place g c =
    (subst (λ (r : Option ℕ). IfSome r (Found g.L.Levels.model g.P.Preference.good c.args.self.now c.loop-next.progress (leaf_words c.args.leaves.now) c.args.start c.loop-next.next)) c.in-Some.is c.next_ahead.ensures.some).1

-- the sum is the smallest code of those that are alike
pub offer-requires-clause-word : goal.offer-requires-clause-word
offer-requires-clause-word g c =
    let s = c.args.self.now in
    let A = g.L.Levels.model in
    let found = subst (λ (r : Option ℕ). IfSome r (Found A g.P.Preference.good s c.loop-next.progress (leaf_words c.args.leaves.now) c.args.start c.loop-next.next)) c.in-Some.is c.next_ahead.ensures.some in
    least_leaf A g.met.L.Levels.lawful s.factors (shared_rows s) (shared_echelon A s.factors (basis_rows s.known) s.alike s.echelon) (leaf_words c.args.leaves.now) c.args.start c.requires.start c.requires.leaves.least
    c.in-Some.place c.word.result found.1 (c.word.ensures ∙ ap₂ (code_sum A) c.sum_at.ensures.first c.sum_at.ensures.second)

-- the leaves that change nothing, and one more
pub loop-next-preserved-in-Some : goal.loop-next-preserved-in-Some
loop-next-preserved-in-Some g c =
    let s = c.args.self.now in
    let A = g.L.Levels.model in
    let L = g.met.L.Levels.lawful in
    let n = s.factors in
    let good = g.P.Preference.good s.preference.now in
    let laws = g.met.P.Preference.lawful s.preference.now in
    let base = s.base.words.now in
    let shared = shared_rows s in
    let leaves = leaf_words c.args.leaves.now in
    let start = c.args.start in
    let words : AllWords A n leaves = λ i l. (c.requires.leaves.least i l).word in
    let before = words_of c.args.progress.now in
    let mid = words_of c.loop-next.progress in
    let after = words_of c.offer.new.progress in
    let place = c.in-Some.place in
    let found = subst (λ (r : Option ℕ). IfSome r (Found A g.P.Preference.good s c.loop-next.progress leaves start c.loop-next.next)) c.in-Some.is c.next_ahead.ensures.some in
    let value = leaf_value A L n leaves start c.requires.start.word words place c.word.result found.1 (c.word.ensures ∙ ap₂ (code_sum A) c.sum_at.ensures.first c.sum_at.ensures.second) in
    let passed = leaves_behind A L good laws n s.room base shared leaves start c.requires.start.word words c.loop-next.next place found.0 before mid c.loop-next.invariant.offered.0
    (λ k l m. (found.2 k l m).0) in
    let one = subst (λ (x : ℕ). OfferedTo A g.P.Preference.good s (Coset A n shared x) mid c.offer.new.progress) value c.offer.ensures in
    record {
      within = omega (arith, found.1);
      offered = (leaf_next A L good laws n s.room base shared leaves start c.requires.start.word words place before mid after passed one.0, one.1);
    }

-- all leaves that are left change nothing
pub loop-next-preserved : goal.loop-next-preserved
loop-next-preserved g c =
    let s = c.args.self.now in
    let A = g.L.Levels.model in
    let leaves = leaf_words c.args.leaves.now in
    let start = c.args.start in
    let progress = c.loop-next.progress in
    let none = subst (λ (r : Option ℕ). IfNone r (NoneAhead A g.P.Preference.good s progress leaves start c.loop-next.next (length leaves))) c.in-None.is c.next_ahead.ensures.none in
    record {
      within = omega (arith, ap length c.words-next.ensures);
      offered = subst (λ (k : ℕ). OfferedTo A g.P.Preference.good s (Below k (Leaf A s.factors (shared_rows s) leaves start)) (words_of c.args.progress.now) progress) (sym (ap length c.words-next.ensures)) (
        leaves_behind A g.met.L.Levels.lawful (g.P.Preference.good s.preference.now) (g.met.P.Preference.lawful s.preference.now) s.factors s.room s.base.words.now (shared_rows s) leaves start c.requires.start.word (λ i l. (c.requires.leaves.least i l).word)
            c.loop-next.next (length leaves) c.loop-next.invariant.within (words_of c.args.progress.now) (words_of progress) c.loop-next.invariant.offered.0 (λ k l m. (none k l m).0),
        c.loop-next.invariant.offered.1,
      );
    }

-- in the end, all
pub returns : goal.returns
returns g c =
    let s = c.args.self.now in
    let all : c.loop-next.next ≡ length (leaf_words c.args.leaves.now) = omega (arith, c.loop-next.invariant.within, c.loop-next-test.false, ap length c.words.ensures) in
    subst (λ (k : ℕ). OfferedTo g.L.Levels.model g.P.Preference.good s (Below k (Leaf g.L.Levels.model s.factors (shared_rows s) (leaf_words c.args.leaves.now) c.args.start)) (words_of c.args.progress.now) c.loop-next.progress) all c.loop-next.invariant.offered
