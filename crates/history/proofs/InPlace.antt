-- A question in a list of calls is answered of the content that the calls before it settled.
use Rattle.std.proofs.Common.{◌≡◌, suc, true, List, [], ◌∷◌, ◌++◌, length, Some, None, Option, refl, sym, ap, ◌∙◌, subst}
use Rattle.std.specs.Prelude.{slice_get}
use Rattle.std.specs.Option.{option_and_then, option_map_or}
use Rattle.levels.specs.Arithmetic.{Arithmetic}
use Rattle.contents.specs.Content.{Content}
use Rattle.history.specs.declared.call.Call.TheVariants.{Ask}
use Rattle.history.specs.declared.question.Reply.{Reply}
use Rattle.history.specs.Lent.{Lent}
use Rattle.history.specs.Questions.{StatedQuestion, answer, exists}
use Rattle.history.specs.States.{State, settled_state}
use Rattle.history.specs.Calls.{StatedCall, answer_to, answers, memory_after, new, plan_after, state_after}
use Rattle.history.specs.BestAndEqual.{AnswersInPlace}

module _ (A : Arithmetic) (rest : List StatedCall) (q : StatedQuestion) (p : Content) (there : exists A q ≡ true) where
  -- of calls that leave some state and memory settled with a content
  in_place : (before : List StatedCall) (w : State) (m : Lent) → plan_after A before w ≡ Some (settled_state p) →
      slice_get (answers A (before ++ Ask q ∷ rest) w m) (length before) ≡ Some (answer A q p (memory_after A before w m))
  in_place [] w m e =
      let at : w ≡ settled_state p = cc in
      subst (λ (v : State). slice_get (answers A (Ask q ∷ rest) v m) 0 ≡ Some (answer A q p m)) (sym at) (rw there refl)
  in_place (call ∷ before) w m e = going_on (λ v n f. in_place before v n f) (state_after A call w) e
    where
      going_on : ((v : State) (n : Lent) → plan_after A before v ≡ Some (settled_state p) → slice_get (answers A (before ++ Ask q ∷ rest) v n) (length before) ≡ Some (answer A q p (memory_after A before v n))) →
          (o : Option State) → option_and_then (plan_after A before) o ≡ Some (settled_state p) →
          let a = answer_to A call w.content m in
          slice_get (option_map_or (λ v. a ∷ answers A (before ++ Ask q ∷ rest) v a.1) o []) (suc (length before))
          ≡ Some (answer A q p (option_map_or (λ v. memory_after A before v a.1) o m))
      going_on next None f = cc
      going_on next (Some v) f = next v (answer_to A call w.content m).1 f

-- so of the answers to a list of calls on a new plan
pub answers_in_place : (A : Arithmetic) (calls : List StatedCall) (m : Lent) (told : List (Reply × Lent)) → told ≡ answers A calls new m → AnswersInPlace A calls m told
answers_in_place A calls m told e before rest q p split settles there =
    ap (λ (xs : List (Reply × Lent)). slice_get xs (length before)) (e ∙ ap (λ (cs : List StatedCall). answers A cs new m) split)
    ∙ in_place A rest q p there before new m settles
