-- Rows beside kept words: they are known to generate a word exactly if base and the kept words do.
use Rattle.std.proofs.Common.{◌≡◌, ℕ, ◌+◌, ◌<◌, ◌≤◌, List, [], ◌∷◌, ◌++◌, length, take, sym, refl, ap, ◌∙◌, subst, inl, inr, arith}
use Rattle.std.proofs.lemmas.Bool.{cases_lt, both_ways}
use Rattle.std.proofs.lemmas.List.{append-nil, append_assoc, take-append-le, length-append, length_push, take_all, nil_from_length}
use Rattle.levels.specs.Arithmetic.{Arithmetic, Lawful}
use Rattle.levels.specs.Words.{legal}
use Rattle.levels.specs.Space.{Word}
use Rattle.levels.specs.Generated.{Generates, SameWords, generated}
use Rattle.levels.specs.Basis.{Echelon, LeastAlias}
use Rattle.levels.proofs.Reduced.{echelon_take, alias_zero, space_at}
use Rattle.levels.specs.Rows.{Admitted, Extended}
use Rattle.levels.proofs.Growth.{from_none}
use Rattle.levels.proofs.Sets.{generated_holds, generated_same}
use Rattle.std.proofs.lemmas.List.{take_at}
use Rattle.std.proofs.Common.{true}
use Rattle.levels.specs.Generated.{holds}
use Rattle.choice.specs.Search.{keep, sieve, Fits}
use Rattle.choice.proofs.Greedy.{same_push}
use Rattle.choice.proofs.Sieve.{keep_cases}

module _ (A : Arithmetic) (L : Lawful A) (n : ℕ) where
  -- one list of generated words is of lists that generate the same
  pub same_from_generated : (us vs : List ℕ) → generated A n us ≡ generated A n vs → SameWords A n us vs
  same_from_generated us vs e w = (
    (λ g. (generated_holds A L n vs w).0 (subst (λ made. holds_it made) e ((generated_holds A L n us w).1 g))),
    (λ g. (generated_holds A L n us w).0 (subst (λ made. holds_it made) (sym e) ((generated_holds A L n vs w).1 g))),
  )
    where
      holds_it : List ℕ → Type 0
      holds_it made = holds made w ≡ true

  -- the rows of the base list fit no kept words
  pub fits_none : (base known none : List ℕ) → none ≡ [] → Echelon A n known → generated A n known ≡ generated A n base → Fits A n known base known none
  fits_none base known none z e g = subst (Fits A n known base known) (sym z) (record {
    echelon = e;
    size = omega arith;
    fronts = λ p l.
        let zero_p : p ≡ 0 = omega arith in
        rw (zero_p, take_all (length known + 0) known (omega arith), append-nil) (same_from_generated known base g);
  })

  -- all rows generate what base and all kept words do
  pub fits_same : (known base rows kept : List ℕ) → Fits A n known base rows kept → SameWords A n rows (base ++ kept)
  fits_same known base rows kept f =
      subst (λ us. SameWords A n us (base ++ kept)) (take_all (length known + length kept) rows (omega (arith, f.size)))
      (subst (λ us. SameWords A n (take (length known + length kept) rows) (base ++ us)) (take_all (length kept) kept (omega arith)) (f.fronts (length kept) (omega arith)))

  module _ (room : ℕ) (known base rows kept after : List ℕ) (w : ℕ) (hw : Word A n w) (f : Fits A n known base rows kept) (a : Admitted A n rows w after) where
    -- with no row more, the word was known
    no_more : length after ≤ length rows → (after ≡ rows) × Generates A n (base ++ kept) w
    no_more l =
        let more = a.extended.grows.0 in
        let none : more ≡ [] = nil_from_length more (omega (arith, ap length a.extended.grows.1, length-append rows more)) in
        let same : after ≡ rows = a.extended.grows.1 ∙ ap (◌++◌ rows) none ∙ append-nil rows in (
          same,
          elim ((a.unchanged f.echelon).0 same) [ inl z ↦ absurd (both_ways (legal A n w) z hw) | inr g ↦ (fits_same known base rows kept f w).0 g ],
        )

    -- so the kept words stay
    pub kept_known : length after ≤ length rows → (kept ≡ keep A n room base kept w) × Fits A n known base after kept
    kept_known l =
        let p = no_more l in (
          elim (keep_cases A L n room base kept w) [ inl s ↦ sym s.1 | inr s ↦ absurd (s.1 p.1) ],
          subst (λ us. Fits A n known base us kept) (sym p.0) f,
        )

    -- with a row more, the rows fit the kept words with this one
    fits_more : length rows < length after → Fits A n known base after (kept ++ w ∷ [])
    fits_more l = record {
      echelon = a.extended.echelon f.echelon;
      size = omega (arith, f.size, a.at_most_one, length_push kept w);
      fronts = λ p m. elim (cases_lt p (length kept + 1)) [
        | inl less ↦
            let rows_front : take (length known + p) after ≡ take (length known + p) rows =
            ap (take (length known + p)) a.extended.grows.1 ∙ take-append-le (length known + p) rows a.extended.grows.0 (omega (arith, f.size)) in
            rw (rows_front, take-append-le p kept (w ∷ []) (omega arith)) (f.fronts p (omega arith))
        | inr all ↦
            rw (take_all (length known + p) after (omega (arith, f.size, a.at_most_one)), take_all p (kept ++ w ∷ []) (omega (arith, length_push kept w)))
            whole
      ];
    }
      where
        whole : SameWords A n after (base ++ (kept ++ w ∷ []))
        whole v =
            let push = same_push A L n rows (base ++ kept) (w ∷ []) (fits_same known base rows kept f) in
            let both = a.extended.same f.echelon in
            subst (λ us. (Generates A n after v → Generates A n us v) × (Generates A n us v → Generates A n after v)) (append_assoc base kept (w ∷ []))
            ((λ g. (push v).0 ((both v).0 g)), (λ g. (both v).1 ((push v).1 g)))

    -- with a row more, the word is kept where there is room
    pub kept_new : length rows < length after → length kept < room → room ≤ 16 → (more : List ℕ) → more ≡ take 16 (kept ++ w ∷ []) → (more ≡ keep A n room base kept w) × Fits A n known base after more
    kept_new l free few more e =
        let all : more ≡ kept ++ w ∷ [] = e ∙ take_all 16 (kept ++ w ∷ []) (omega (arith, length_push kept w)) in (
          all ∙ elim (keep_cases A L n room base kept w) [
            | inl s ↦ absurd (elim s.0 [
              | inl full ↦ omega arith
              | inr g ↦ omega (arith, ap length ((a.unchanged f.echelon).1 (inr ((fits_same known base rows kept f w).1 g))))
            ])
            | inr s ↦ sym s.2
          ],
          subst (Fits A n known base after) (sym all) (fits_more l),
        )

  -- a word of which the first rows leave 0 is generated by base and the first kept words
  pub fits_generates : (known base rows kept : List ℕ) → Fits A n known base rows kept → (p : ℕ) → p ≤ length kept → (front : List ℕ) → front ≡ take (length known + p) rows → (w r : ℕ) → Word A n w → (Echelon A n front → Word A n w → LeastAlias A n front w r) → r ≡ 0 → Generates A n (base ++ take p kept) w
  fits_generates known base rows kept f p l front e w r hw least z =
      let here = subst (Echelon A n) (sym e) (echelon_take A n (length known + p) rows f.echelon) in
      (f.fronts p l w).0 (subst (λ us. Generates A n us w) e ((alias_zero A L n (space_at A L n w hw) front w r hw (least here hw)).0 z))

  -- without room, the kept words stay
  pub kept_full : (room : ℕ) (base kept : List ℕ) (w : ℕ) → room ≤ length kept → kept ≡ keep A n room base kept w
  kept_full room base kept w full = elim (keep_cases A L n room base kept w) [ inl s ↦ sym s.1 | inr s ↦ absurd (omega (arith, s.0)) ]

  -- one list after the other
  pub sieve_append : (room : ℕ) (base us vs kept : List ℕ) → sieve A n room base kept (us ++ vs) ≡ sieve A n room base (sieve A n room base kept us) vs
  sieve_append room base [] vs kept = refl
  sieve_append room base (u ∷ us) vs kept = sieve_append room base us vs (keep A n room base kept u)

-- what is made of the words of two lists that are admitted one after the other
module _ (A : Arithmetic) (L : Lawful A) (n : ℕ) (base further none known whole : List ℕ) (z : none ≡ []) (p : Extended A n none base known) (q : Extended A n known further whole) where
  first : Echelon A n known × SameWords A n known base
  first = from_none A L n base known (subst (λ us. Extended A n us base known) z p)

  pub known_echelon : Echelon A n known
  known_echelon = first.0

  pub known_spans : generated A n known ≡ generated A n base
  known_spans = generated_same A L n known base first.1

  pub whole_echelon : Echelon A n whole
  whole_echelon = q.echelon first.0

  pub whole_front : take (length known) whole ≡ known
  whole_front = ap (take (length known)) q.grows.1 ∙ take_at known q.grows.0 (length known) refl

  pub whole_longer : length known ≤ length whole
  whole_longer = omega (arith, ap length q.grows.1, length-append known q.grows.0)

  pub whole_spans : generated A n whole ≡ generated A n (base ++ further)
  whole_spans =
      let push = same_push A L n known base further first.1 in
      let all = q.same first.0 in
      generated_same A L n whole (base ++ further) (λ w. ((λ g. (push w).0 ((all w).0 g)), (λ g. (all w).1 ((push w).1 g))))
