use Rattle.std.proofs.Common.{◌≡◌, ℕ, ◌≤◌, ◌+◌, ◌++◌, ◌∷◌, [], List, length, get_or, sym, ap, ◌∙◌, subst, inl, inr, arith}
use Rattle.std.proofs.lemmas.Bool.{cases_lt}
use Rattle.std.proofs.lemmas.List.{take_all, length_push, get_or_push, get_or_append_left, length-take}
use Rattle.bounded.specs.Items.{items_of}
use Rattle.levels.proofs.Beside.{Beside}
use Rattle.levels.proofs.opposites.Leaves.new.Goals as goal

-- at first, none
pub loop-word-init : goal.loop-word-init
loop-word-init g c = record { size = ap length c.new-opposites.ensures; each = λ i l. absurd (omega arith) }

-- one opposite more
pub loop-word-preserved : goal.loop-word-preserved
loop-word-preserved g c =
    let A = g.L.Levels.model in
    let n = c.args.n in
    let words = c.as_slice-word-items.result.now in
    let before = items_of c.loop-word.opposites in
    let o = c.opposite.result in
    let size = c.loop-word.invariant.size in
    let many : length words ≤ 81 = omega (arith, ap length c.as_slice-word-items.ensures, length-take c.args.words.len c.args.words.places, c.args.words.few) in
    let all : items_of c.push.new.self ≡ before ++ o ∷ [] = c.push.ensures ∙ take_all 81 (before ++ o ∷ []) (omega (arith, length_push before o, size, many, c.loop-word-test.true)) in
    record {
      size = ap length all ∙ length_push before o ∙ ap (λ (k : ℕ). k + 1) size;
      each = λ i l. subst (λ (us : List ℕ). Beside A n (get_or words i 0) (get_or us i 0)) (sym all) (elim (cases_lt i (length before)) [
        | inl m ↦ subst (Beside A n (get_or words i 0)) (sym (get_or_append_left before (o ∷ []) 0 i m)) (c.loop-word.invariant.each i (omega (arith, m, size)))
        | inr m ↦
            let last : length before ≡ i = omega (arith, l, m, size) in
            let here : c.loop-word.word-index ≡ i = omega (arith, last, size) in
            subst (Beside A n (get_or words i 0)) (sym (get_or_push before o 0 i last)) (subst (λ (k : ℕ). Beside A n (get_or words k 0) o) here (c.opposite.ensures.yes, c.opposite.ensures.no))
      ]);
    }

-- in the end, all
pub returns-clause-opposites : goal.returns-clause-opposites
returns-clause-opposites g c =
    let words = c.as_slice-word-items.ensures in
    let end : c.loop-word.word-index ≡ length c.as_slice-word-items.result.now = omega (arith, c.loop-word-test.false, c.loop-word.auto.word-index-end) in (
      c.loop-word.invariant.size ∙ end ∙ ap length words,
      λ i l. subst (λ (us : List ℕ). Beside g.L.Levels.model c.args.n (get_or us i 0) (get_or (items_of c.loop-word.opposites) i 0)) words (c.loop-word.invariant.each i (omega (arith, l, end, ap length words))),
    )
