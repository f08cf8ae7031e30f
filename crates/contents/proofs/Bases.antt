-- A basis of the words of a plan, from no words to one word more.
use Rattle.std.proofs.Common.{◌≡◌, ℕ, eqb, List, [], ◌∷◌, ◌++◌, sym, subst}
use Rattle.std.proofs.lemmas.Bool.{eq-eqb, eqb-true}
use Rattle.std.proofs.lemmas.Bool.Decides.{same_from_decides}
use Rattle.std.proofs.lemmas.List.{append-nil, append_assoc}
use Rattle.levels.specs.Arithmetic.{Arithmetic, Lawful}
use Rattle.levels.specs.Space.{Word}
use Rattle.levels.specs.Generated.{Generates, SameWords, generated, holds}
use Rattle.levels.specs.Basis.{LeastAlias}
use Rattle.levels.specs.Rows.{Admitted}
use Rattle.levels.proofs.Any.{any_front, any_inside}
use Rattle.levels.proofs.Growth.{same_push}
use Rattle.levels.proofs.Reduced.{space_at, alias_zero}
use Rattle.levels.proofs.Space.{vector_space}
use Rattle.contents.specs.declared.side.Side.{Side}
use Rattle.contents.specs.declared.side.Side.TheVariants.{Defining, Block}
use Rattle.contents.specs.Content.{Content, both, side_of, with_side}
use Rattle.contents.specs.Drafts.{BasisOf}
use Rattle.contents.proofs.Membership.{holds_decides}

module _ (A : Arithmetic) (L : Lawful A) where
  -- by a basis 0 is left of a word exactly if both lists together generate it
  pub left_generated : (p : Content) (rows : List ℕ) (w r : ℕ) → BasisOf A p rows → Word A p.factors w → LeastAlias A p.factors rows w r → eqb r 0 ≡ holds (generated A p.factors (both p)) w
  left_generated p rows w r b hw least =
      let exact = alias_zero A L p.factors (space_at A L p.factors w hw) rows w r hw least in
      same_from_decides (eqb r 0) (holds (generated A p.factors (both p)) w)
      ((λ t. (b.same w).0 (exact.0 (eqb-true r 0 t))), (λ G. eq-eqb r 0 (exact.1 ((b.same w).1 G))))
      (holds_decides A L p.factors (both p) w)

  -- a word generates as much at the end of all words as at the end of one list
  pushed_same : (side : Side) (w : ℕ) (p : Content) → SameWords A p.factors (both p ++ w ∷ []) (both (with_side side (side_of side p ++ w ∷ []) p))
  pushed_same Defining w p x =
      let V = vector_space A L p.factors in
      let ends = append-nil (both p) in
      let joined = append_assoc p.defining (w ∷ []) p.block in (
        (λ g. subst (λ zs. Generates A p.factors zs x) (sym joined)
            (any_inside A L p.factors V p.defining w p.block x
            (subst (λ zs. Generates A p.factors (w ∷ zs) x) ends (any_front A L p.factors V (both p) w [] x g)))),
        (λ g. any_inside A L p.factors V (both p) w [] x
            (subst (λ zs. Generates A p.factors (w ∷ zs) x) (sym ends)
            (any_front A L p.factors V p.defining w p.block x (subst (λ zs. Generates A p.factors zs x) joined g)))),
      )
  pushed_same Block w p x =
      let joined = append_assoc p.defining p.block (w ∷ []) in
      ((λ g. subst (λ zs. Generates A p.factors zs x) joined g), (λ g. subst (λ zs. Generates A p.factors zs x) (sym joined) g))

  -- rows to which a word was admitted are a basis of a plan with the word at the end of one list
  pub basis_admitted : (side : Side) (w : ℕ) (p q : Content) (rows more : List ℕ) → BasisOf A p rows → Admitted A p.factors rows w more → q ≡ with_side side (side_of side p ++ w ∷ []) p → BasisOf A q more
  basis_admitted side w p q rows more b a e = subst (λ z. BasisOf A z more) (sym e) (on side)
    where
      same : (side : Side) → SameWords A p.factors more (both (with_side side (side_of side p ++ w ∷ []) p))
      same side x =
          let grown = a.extended.same b.echelon x in
          let pushed = same_push A L p.factors rows (both p) w b.same x in
          let moved = pushed_same side w p x in
          ((λ g. moved.0 (pushed.0 (grown.0 g))), (λ g. grown.1 (pushed.1 (moved.1 g))))

      on : (side : Side) → BasisOf A (with_side side (side_of side p ++ w ∷ []) p) more
      on Defining = record { echelon = a.extended.echelon b.echelon; same = same Defining }
      on Block = record { echelon = a.extended.echelon b.echelon; same = same Block }
