-- The law of a resolution decides it, and there is none exactly where code 0 alone is generated.
use Rattle.std.proofs.Common.{◌≡◌, ℕ, zero, suc, ◌+◌, ◌-◌, ◌*◌, ◌/◌, ◌<◌, ◌≤◌, ◌↔◌, Bool, true, true≢false, eqb, List, [], ◌∷◌, get_or, Some, None, Option, IsNone, is_some, sym, refl, ap, ◌∙◌, subst, inl, inr, mul-zero, add-one, arith}
use native.Mathlib.Nat.{zero-div}
use Rattle.std.proofs.lemmas.Bool.{cases_eq, cases_lt, cases_order, cond-true, cond-false, cond_both, eq-eqb, eqb-true, eqb-false, ne_eqb}
use Rattle.levels.specs.Arithmetic.{Arithmetic, Lawful}
use Rattle.levels.specs.Words.{word_length}
use Rattle.levels.specs.Generated.{generated}
use Rattle.levels.specs.Alias.{how_many}
use Rattle.levels.proofs.Space.{vector_space}
use Rattle.levels.proofs.Lengths.{zero_length}
use Rattle.levels.proofs.Places.{In}
use Rattle.levels.proofs.Any.{in_range_or_none, any_zero}
use Rattle.levels.proofs.Ascending.{in_here, in_cons, in_none, ascends_same}
use Rattle.levels.proofs.Multiplicity.{generated_length_zero, in_generated, in_generated_from, generated_ascends}
use Rattle.aliasing.specs.Pattern.{count, counts_from, first_positive, resolution, ResolutionLaw}
use Rattle.aliasing.proofs.Counts.{count_past, count_none}
use Rattle.aliasing.proofs.Exact.{generated_divides}

-- a test that one number of a list passes
how_many_some : (p : ℕ → Bool) (x : ℕ) (xs : List ℕ) → In x xs → p x ≡ true → 0 < how_many p xs
how_many_some p x [] i t = absurd (in_none x i)
how_many_some p x (y ∷ ys) i t = elim (in_cons y x ys i) [
  | inl e ↦ omega (arith, cond-true {A = ℕ} (p y) 1 0 (ap p e ∙ t))
  | inr q ↦ let h = how_many_some p x ys q t in omega arith
]

-- the first positive count from i on obeys the law, if the counts before i and past n are 0
first_law : (A : Arithmetic) (n : ℕ) (set : List ℕ) (i k : ℕ) → 1 ≤ i → i + k ≡ suc n → ((j : ℕ) → 1 ≤ j → j < i → count A set j ≡ 0) → ((j : ℕ) → n < j → count A set j ≡ 0) →
    ResolutionLaw A n set (first_positive i (counts_from A set i k))
first_law A n set i zero low e before past = λ j l. elim (cases_lt j i) [ inl h ↦ before j l h | inr h ↦ past j (omega arith) ]
first_law A n set i (suc k) low e before past =
    cond_both (eqb (count A set i) 0) (first_positive (suc i) (counts_from A set (suc i) k)) (Some (i, count A set i)) (ResolutionLaw A n set)
    (λ t. first_law A n set (suc i) k (omega arith) (omega arith)
    (λ j l h. elim (cases_eq j i) [ inl q ↦ ap (count A set) q ∙ eqb-true (count A set i) 0 t | inr d ↦ before j l (omega (arith, d)) ])
    past)
    (λ f. record { low = low; high = omega arith; counted = refl; positive = omega (arith, eqb-false (count A set i) 0 f); none_before = before })

-- two results that obey the law are equal
law_unique : (A : Arithmetic) (n : ℕ) (set : List ℕ) (r t : Option (ℕ × ℕ)) → ResolutionLaw A n set r → ResolutionLaw A n set t → r ≡ t
law_unique A n set None None h k = refl
law_unique A n set None (Some q) h k = absurd (omega (arith, h q.0 k.low, k.counted, k.positive))
law_unique A n set (Some p) None h k = absurd (omega (arith, k p.0 h.low, h.counted, h.positive))
law_unique A n set (Some p) (Some q) h k = elim (cases_order p.0 q.0) [
  | inl e ↦ ap (λ l. Some (l, p.1)) e ∙ ap (λ c. Some (q.0, c)) (h.counted ∙ ap (count A set) e ∙ sym k.counted)
  | inr d ↦ elim d [
    | inl l ↦ absurd (omega (arith, k.none_before p.0 h.low l, h.counted, h.positive))
    | inr l ↦ absurd (omega (arith, h.none_before q.0 k.low l, k.counted, k.positive))
  ]
]

-- code 0 alone has no length with a positive count
zero_alone : (A : Arithmetic) (n : ℕ) (r : Option (ℕ × ℕ)) → ResolutionLaw A n (0 ∷ []) r → r ≡ None
zero_alone A n None h = refl
zero_alone A n (Some p) h =
    let no : eqb (word_length A 0) p.0 ≡ _ = ne_eqb (word_length A 0) p.0 (λ e. omega (arith, zero_length A, h.low)) in
    let z : count A (0 ∷ []) p.0 ≡ 0 = ap (λ k. (k + 0) / (A.s - 1)) (cond-false {A = ℕ} (eqb (word_length A 0) p.0) 1 0 no) ∙ zero-div (A.s - 1) in
    absurd (omega (arith, h.counted, h.positive))

module _ (A : Arithmetic) (L : Lawful A) (n : ℕ) (ws : List ℕ) where
  -- the resolution obeys its law
  pub resolution_law : ResolutionLaw A n (generated A n ws) (resolution A n (generated A n ws))
  resolution_law = first_law A n (generated A n ws) 1 n (omega arith) (omega arith) (λ j l h. absurd (omega arith)) (count_past A L n ws)

  -- and nothing else does
  pub law_resolution : (r : Option (ℕ × ℕ)) → ResolutionLaw A n (generated A n ws) r → r ≡ resolution A n (generated A n ws)
  law_resolution r h = law_unique A n (generated A n ws) r (resolution A n (generated A n ws)) h resolution_law

  -- where code 0 alone is in the list, the list is 0
  only_zero : ((w : ℕ) → In w (generated A n ws) → w ≡ 0) → generated A n ws ≡ 0 ∷ []
  only_zero h =
      ascends_same (generated A n ws) (0 ∷ []) (generated_ascends A L n ws) (λ i l. absurd (omega arith))
      (λ z q. subst (λ v. In v (0 ∷ [])) (sym (h z q)) (in_here 0 []))
      (λ z q. elim (in_cons 0 z [] q) [
        | inl e ↦ subst (λ v. In v (generated A n ws)) e (in_generated A L n ws 0 (any_zero A L n (vector_space A L n) ws))
        | inr t ↦ absurd (in_none z t)
      ])

  -- where every count is 0, code 0 alone is generated
  counts_none : ((i : ℕ) → 1 ≤ i → count A (generated A n ws) i ≡ 0) → generated A n ws ≡ 0 ∷ []
  counts_none h = only_zero (λ w q. elim (cases_eq (word_length A w) 0) [
    | inl e ↦ generated_length_zero A L n ws w (in_generated_from A L n ws w q) e
    | inr d ↦
        let i = word_length A w in
        let l : 1 ≤ i = omega (arith, d) in
        let some = how_many_some (λ v. eqb (word_length A v) i) w (generated A n ws) q (eq-eqb i i refl) in
        let none = generated_divides A L n ws i l ∙ ap (λ k. (A.s - 1) * k) (h i l) ∙ mul-zero (A.s - 1) in
        absurd (omega arith)
  ])

  -- there is no resolution exactly where code 0 alone is generated
  pub law_absent : (r : Option (ℕ × ℕ)) → ResolutionLaw A n (generated A n ws) r → (IsNone r ↔ (generated A n ws ≡ 0 ∷ []))
  law_absent None h = ((λ e. counts_none h), (λ e. refl))
  law_absent (Some p) h = (
    (λ e. absurd (true≢false e)),
    (λ e. ap is_some (zero_alone A n (Some p) (subst (λ set. ResolutionLaw A n set (Some p)) e h))),
  )

  -- xs has the counts of lengths 1 to 32
  abbrev Counts : List ℕ → Type 0
  Counts xs = (i : ℕ) → i < 32 → get_or xs i 0 ≡ count A (generated A n ws) (suc i)

  -- the counts before a place are 0 where xs is
  counts_before : (xs : List ℕ) → Counts xs → (i : ℕ) → i ≤ 32 → ((k : ℕ) → k < i → get_or xs k 0 ≡ 0) → (j : ℕ) → 1 ≤ j → j < suc i → count A (generated A n ws) j ≡ 0
  counts_before xs c i l z zero low h = absurd (omega arith)
  counts_before xs c i l z (suc j) low h = sym (c j (omega arith)) ∙ z j (omega arith)

  -- the first positive one of 32 counts obeys the law
  pub found_law : (xs : List ℕ) → Counts xs → (i : ℕ) → i < 32 → 0 < get_or xs i 0 → ((k : ℕ) → k < i → get_or xs k 0 ≡ 0) → ResolutionLaw A n (generated A n ws) (Some (i + 1, get_or xs i 0))
  found_law xs c i l p z = record {
    low = omega arith;
    high = elim (cases_lt i n) [ inl h ↦ omega arith | inr h ↦ absurd (omega (arith, c i l, count_past A L n ws (suc i) (omega arith))) ];
    counted = c i l ∙ ap (count A (generated A n ws)) (sym (add-one i));
    positive = p;
    none_before = λ j low h. counts_before xs c i (omega arith) z j low (omega arith);
  }

  -- so does none, where all 32 are 0
  pub none_law : (xs : List ℕ) → Counts xs → ((k : ℕ) → k < 32 → get_or xs k 0 ≡ 0) → ResolutionLaw A n (generated A n ws) None
  none_law xs c z j low = elim (cases_lt j 33) [
    | inl h ↦ counts_before xs c 32 (omega arith) z j low h
    | inr h ↦ elim (in_range_or_none A n) [
      | inl r ↦ count_past A L n ws j (omega (arith, r.1))
      | inr none ↦ count_none A L n ws none j low
    ]
  ]
