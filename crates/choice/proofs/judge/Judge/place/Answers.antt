use Rattle.std.proofs.Common.{◌≡◌, ◌-◌, length, get_or, take, sym, ap, ◌∙◌, subst, inl, inr, arith}
use Rattle.std.proofs.lemmas.Bool.{cases_eq, OnTrue_at, OnFalse_at}
use Rattle.std.proofs.lemmas.List.{length-take-le, take-take, get_or-take}
use Rattle.choice.specs.Search.{NoLater}
use Rattle.choice.specs.Judged.{order_of, words_of}
use Rattle.choice.proofs.Greedy.{judged_order}
use Rattle.choice.proofs.Sieve.{no_later_trans}
use Rattle.choice.proofs.judge.Judge.place.Goals as goal

-- the candidate stands before one word more
pub loop-front-preserved : goal.loop-front-preserved
loop-front-preserved g c =
    let words = words_of c.args.progress.now in
    let front = c.loop-front.front.now in
    let i = length front - 1 in
    let order = order_of g.L.Levels.model g.P.Preference.good c.args.self.now in
    let size : length (take i front) ≡ i = length-take-le i front (omega arith) in
    let at : get_or front i 0 ≡ get_or words i 0 = ap (λ us. get_or us i 0) c.loop-front.invariant.front ∙ get_or-take (length front) words i 0 (omega (arith, c.in-len1-up.len_at_least)) in
    let later = subst (NoLater order c.args.candidate.now.word) at (OnTrue_at c.if-not-precedes_kept.false c.precedes_kept.ensures.yes) in
    record {
      front = ap (take i) c.loop-front.invariant.front ∙ take-take i (length front) words (omega arith) ∙ sym (ap (λ k. take k words) size);
      within = omega (arith, size, c.loop-front.invariant.within);
      behind = λ j l m. elim (cases_eq j i) [
        | inl e ↦ subst (λ k. NoLater order c.args.candidate.now.word (get_or words k 0)) (sym e) later
        | inr d ↦ c.loop-front.invariant.behind j (omega (arith, size, d)) m
      ];
    }

-- a word that stands before the candidate, and the words before that
pub returns-then-not-precedes_kept-clause-before : goal.returns-then-not-precedes_kept-clause-before
returns-then-not-precedes_kept-clause-before g c j l =
    let s = c.args.self.now in
    let A = g.L.Levels.model in
    let words = words_of c.args.progress.now in
    let front = c.loop-front.front.now in
    let i = length front - 1 in
    let kept = c.requires.kept.0 in
    let order = order_of A g.P.Preference.good s in
    let inside = c.loop-front.invariant.within in
    let at : get_or front i 0 ≡ get_or words i 0 = ap (λ us. get_or us i 0) c.loop-front.invariant.front ∙ get_or-take (length front) words i 0 (omega (arith, c.in-len1-up.len_at_least)) in
    let earlier = subst (λ x. NoLater order x c.args.candidate.now.word) at (OnFalse_at c.if-not-precedes_kept.true c.precedes_kept.ensures.no) in
    elim (cases_eq j i) [
      | inl e ↦ subst (λ k. NoLater order (get_or words k 0) c.args.candidate.now.word) (sym e) earlier
      | inr d ↦
          no_later_trans A s.factors order (judged_order A (g.P.Preference.good s.preference.now) (g.met.P.Preference.lawful s.preference.now) s.factors s.base.words.now)
          (get_or words j 0) (get_or words i 0) c.args.candidate.now.word (kept.words j (omega arith)) (kept.words i (omega arith)) c.requires.candidate.0 (kept.sorted j i (omega (arith, d)) (omega arith)) earlier
    ]
