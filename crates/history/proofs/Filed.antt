-- The page of a file that was read without a refusal.
use Rattle.std.proofs.Common.{◌≡◌, ℕ, List, [], ◌∷◌, length, take, get_or, cond, ◌&&◌, eqb, ltb, Option, None, Some, IfSome, Ok, Err, Result, sym, refl, ap, ◌∙◌, subst, inl, inr, arith}
use Rattle.std.proofs.lemmas.Bool.{cases_Bool, cond-true, cond-false, lt-ltb}
use Rattle.levels.specs.Arithmetic.{Arithmetic, Lawful, two, three}
use Rattle.levels.specs.Lawful.{lawful_two, lawful_three}
use Rattle.contents.specs.declared.refusal.Refusal.{Refusal}
use Rattle.contents.specs.Content.{Content, Acts, Kept}
use Rattle.contents.specs.Memory.{holding, wrote}
use Rattle.contents.proofs.Outcomes.{err_not_ok}
use Rattle.planfile.specs.File.{ReadsAlike}
use Rattle.page.specs.Page.{page}
use Rattle.history.specs.BestAndEqual.{BestGeneratorsAndEqualAnswers}
use Rattle.history.specs.Files.{IsPaged, IsPageOfFile, levels_of}
use Rattle.history.proofs.ShownBest.{of_kept}

-- the page of the kept plan that was read
pub page_read : (A : Arithmetic) → Lawful A → (o : Result Content Refusal) (p q : Content) (before now : List ℕ) (r : Result ℕ Refusal) → Acts o p q (Ok tt) → Kept A q → now ≡ holding (page A q) before → r ≡ wrote (page A q) before → IsPaged A o before now r
page_read A L (Ok c) p q before now r h kept stored count = (
  count ∙ ap (λ (m : Content). wrote (page A m) before) h.1,
  stored ∙ ap (λ (m : Content). holding (page A m) before) h.1,
  subst (BestGeneratorsAndEqualAnswers A) h.1 (of_kept A L q kept),
)
page_read A L (Err e) p q before now r h kept stored count = absurd (err_not_ok e tt (sym h.0))

-- each arithmetic that a file is read with is lawful
lawful_levels : (f : List ℕ) → Lawful (levels_of f)
lawful_levels f = elim (cases_Bool (ltb 5 (length f) && eqb (get_or f 5 0) 3)) [
  | inl t ↦ subst Lawful (sym (cond-true (ltb 5 (length f) && eqb (get_or f 5 0) 3) three two t)) lawful_three
  | inr e ↦ subst Lawful (sym (cond-false (ltb 5 (length f) && eqb (get_or f 5 0) 3) three two e)) lawful_two
]

-- the first 138 bytes of an input are read with the same levels
same_levels : (input : List ℕ) → levels_of (take 138 input) ≡ levels_of input
same_levels (a ∷ b ∷ c ∷ d ∷ e ∷ f ∷ bs) =
    ap (λ v. cond (v && eqb f 3) three two)
    (lt-ltb 5 (length (take 138 (a ∷ b ∷ c ∷ d ∷ e ∷ f ∷ bs))) (omega arith) ∙ sym (lt-ltb 5 (length (a ∷ b ∷ c ∷ d ∷ e ∷ f ∷ bs)) (omega arith)))
same_levels (a ∷ b ∷ c ∷ d ∷ e ∷ []) = refl
same_levels (a ∷ b ∷ c ∷ d ∷ []) = refl
same_levels (a ∷ b ∷ c ∷ []) = refl
same_levels (a ∷ b ∷ []) = refl
same_levels (a ∷ []) = refl
same_levels [] = refl

-- the page of an input is that of its first bytes
pub page_decided : (a : Option (List ℕ)) (bs before now : List ℕ) (r : Result ℕ Refusal) → IfSome a (λ input. bs ≡ take 138 input) → IfSome a (ReadsAlike bs) → IsPageOfFile (levels_of bs) bs before now r → IfSome a (λ input. IsPageOfFile (levels_of input) input before now r)
page_decided None bs before now r first alike paged = tt
page_decided (Some input) bs before now r first alike paged =
    let A = levels_of input in
    let same : levels_of bs ≡ A = ap levels_of first ∙ same_levels input in
    subst (λ o. IsPaged A o before now r) (alike A (lawful_levels input)) (subst (λ B. IsPageOfFile B bs before now r) same paged)
