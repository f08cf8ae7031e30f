-- Best generators and equal answers, of what any list of calls leaves settled.
use Rattle.std.proofs.Common.{◌≡◌, ℕ, true, List, slice_index, IfSome, Some, None, Option, refl, sym, ap, ◌∙◌, subst, arith}
use Rattle.std.proofs.lemmas.Bool.{eqb-true}
use Rattle.levels.specs.Arithmetic.{Arithmetic, Lawful}
use Rattle.preferences.specs.Relation.{Relation, PreferenceLaws, fair, judged, better}
use Rattle.contents.specs.declared.side.Side.{Side}
use Rattle.contents.specs.declared.side.Side.TheVariants.{Defining, Block}
use Rattle.contents.specs.Content.{Content, Kept}
use Rattle.contents.proofs.Keeps.{kept_defining}
use Rattle.plan.specs.Answers.{base_of, chosen}
use Rattle.plan.proofs.Choosing.{side_best, side_independent, side_as_many}
use Rattle.history.specs.declared.question.Question.TheVariants.{Factors, Counts, Word, List as WordList, File, Generators, ScoredGenerators, Pattern, Resolution, AliasMember, AliasSet, Page, ClearPairs, Run, Runs, BlockNumber}
use Rattle.history.specs.Questions.{in_bytes}
use Rattle.history.specs.States.{State, settled_state}
use Rattle.history.specs.Calls.{StatedCall, new, plan_after}
use Rattle.history.specs.BestAndEqual.{Settles, AreBest, ShowsBest, AnswerAlike, BestGeneratorsAndEqualAnswers}
use Rattle.history.proofs.Alike.{EqualParts, fair_of, equal_parts}
use Rattle.history.proofs.Kept.{KeptIfLeft, called_kept, settles_kept}

-- over a base list that a preference judges by, what it judges is the preference itself
judged_itself : (A : Arithmetic) (good : Relation) (n : ℕ) (base : List ℕ) → fair A n base ≡ true → (a b : ℕ) → better (judged A good) n base a b ≡ better good n base a b
judged_itself A good n base f a b = rw f refl

module _ (A : Arithmetic) (L : Lawful A) where
  -- the base list of a side of a kept plan
  fair_base : (side : Side) (p : Content) → Kept A p → fair A p.factors (base_of side p) ≡ true
  fair_base Defining p k = fair_of A p.factors (base_of Defining p) (omega arith) (λ i l. absurd (omega arith))
  fair_base Block p k = let d = kept_defining A L p k in fair_of A p.factors p.defining d.few d.words

  -- the generators of a kept plan are best
  best_of : (good : Relation) → PreferenceLaws A good → (side : Side) (p : Content) → Kept A p → AreBest A good side p (chosen A good side p)
  best_of good laws side p k =
      let b = side_best A L good laws side p in
      let f = fair_base side p k in
      let many = side_as_many A L good laws side p k in
      record {
        as_many = many;
        independent = side_independent A L good laws side p k;
        exact = b.exact;
        no_rival_is_better = λ theirs r i l.
            sym (judged_itself A good p.factors (base_of side p) f (slice_index theirs i) (slice_index (chosen A good side p) i))
            ∙ b.no_rival_is_better theirs (record {
              as_many = r.as_many ∙ sym many;
              wanted = r.wanted;
              all_wanted = r.all_wanted;
              best_first = λ i j ij jl. judged_itself A good p.factors (base_of side p) f (slice_index theirs j) (slice_index theirs i) ∙ r.best_first i j ij jl;
            }) i l;
      }

  -- and the questions for them show them
  shows_best : (good : Relation) → PreferenceLaws A good → (side : Side) (p : Content) → Kept A p → ShowsBest A good side p
  shows_best good laws side p k = record {
    ours = chosen A good side p;
    best = best_of good laws side p k;
    shown = λ m. refl;
    shown_scored = λ points m. refl;
  }

  -- plans with equal parts answer alike
  answers_alike : (p q : Content) → EqualParts A p q → AnswerAlike A p q
  answers_alike p q e Factors there places laws m = rw e.factors refl
  answers_alike p q e Counts there places laws m = rw (e.defining_count, e.block_count) refl
  answers_alike p q e (Word side place) there places laws m = cc
  answers_alike p q e (WordList side) there places laws m = cc
  answers_alike p q e File there places laws m = cc
  answers_alike p q e (Generators side good) there places laws m = rw (e.generators good laws side) refl
  answers_alike p q e (ScoredGenerators side s) there places laws m = rw (e.scores s.good laws s.points side, e.generators s.good laws side) refl
  answers_alike p q e Pattern there places laws m = rw e.patterns refl
  answers_alike p q e Resolution there places laws m = rw e.resolutions refl
  answers_alike p q e (AliasMember w k) there places laws m = rw (e.members w k) refl
  answers_alike p q e (AliasSet w) there places laws m = rw (e.alias_sets w) refl
  answers_alike p q e Page there places laws m = ap (λ bytes. in_bytes bytes m) e.pages
  answers_alike p q e ClearPairs there places laws m = rw (e.clear (eqb-true A.s 2 there)) refl
  answers_alike p q e (Run k) there places laws m = rw (e.run (eqb-true A.s 2 there) k) refl
  answers_alike p q e (Runs first count) there places laws m = rw (e.runs (eqb-true A.s 2 there) first count) refl
  answers_alike p q e (BlockNumber run ws) there places laws m = rw (e.blocks run ws) refl

  -- so it is of every content whose words are legal, independent and within the limit
  pub of_kept : (p : Content) → Kept A p → BestGeneratorsAndEqualAnswers A p
  of_kept p k = record {
    kept = k;
    best_generators = λ good laws side. shows_best good laws side p k;
    equal_answers = λ others q s same. answers_alike p q (equal_parts A L p q k (settles_kept A L others q s) same);
  }

  -- of every content that calls leave settled
  pub of_calls : (calls : List StatedCall) (p : Content) → Settles A calls p → BestGeneratorsAndEqualAnswers A p
  of_calls calls p s = of_kept p (settles_kept A L calls p s)

  -- and of the plan that came out, if it is settled
  of_state : (o : Option State) → KeptIfLeft A L o → IfSome o (λ w. w.settled ≡ true → BestGeneratorsAndEqualAnswers A w.content)
  of_state None k = tt
  of_state (Some w) k = λ _. of_kept w.content k

  pub of_plan : (calls : List StatedCall) (o : Option State) → o ≡ plan_after A calls new → IfSome o (λ w. w.settled ≡ true → BestGeneratorsAndEqualAnswers A w.content)
  of_plan calls o e = of_state o (subst (KeptIfLeft A L) (sym e) (called_kept A L calls))
