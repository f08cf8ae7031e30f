-- Words kept in their order: what one word more makes of them, and when nothing more is needed.
use Rattle.std.proofs.Common.{◌≡◌, ℕ, zero, suc, ◌+◌, ◌-◌, ◌<◌, ◌≤◌, Bool, true, ◌||◌, leb, ◌⊎◌, List, [], ◌∷◌, ◌++◌, length, get_or, take, drop, min, sym, refl, ap, ◌∙◌, subst, inl, inr, arith}
use Rattle.std.proofs.lemmas.Bool.{cases_Bool, cases_lt, cases_eq, cond-true, cond-false, or_cases, or_parts, leb-true, leb-false, both_ways}
use Rattle.std.proofs.lemmas.List.{append_assoc, get_or_append_left, get_or-append_right, get_or-take, length-append, length-take, length-take-le, take_all, take-take, take-append-le, take_at, take-append-drop, get_or_push, length_push}
use Rattle.levels.specs.Arithmetic.{Arithmetic, Lawful}
use Rattle.levels.specs.Space.{Word, AllWords}
use Rattle.levels.specs.Generated.{Generates, SameWords, generated, holds}
use Rattle.levels.proofs.Any.{any_left, any_right, any_place, any_or_not}
use Rattle.levels.proofs.Space.{vector_space}
use Rattle.levels.proofs.Sets.{generated_holds, holds_at, holds_in}
use Rattle.choice.specs.Search.{Below, NoLater, keep, sieve, Kept, Covered, Offered}
use Rattle.choice.proofs.Greedy.{Order, New, Stepped, Run, chosen_bound, join_within, all_within, next_is, next_none, stepped_bound, stepped_steps, stepped_done}

-- a level below k + 1 is below k or is k
pub below_split : (k : ℕ) (Of : ℕ → ℕ → Type 0) (y : ℕ) → Below (k + 1) Of y → Below k Of y ⊎ Of k y
below_split k Of y m = elim (cases_eq m.0 k) [
  | inl e ↦ inr (subst (λ c. Of c y) e m.2)
  | inr d ↦ inl (m.0, (let l = m.1 in omega (arith, d)), m.2)
]

-- and back
pub below_join : (k : ℕ) (Of : ℕ → ℕ → Type 0) (y : ℕ) → Below k Of y ⊎ Of k y → Below (k + 1) Of y
below_join k Of y m = elim m [
  | inl p ↦ (p.0, (let l = p.1 in omega arith), p.2)
  | inr p ↦ (k, omega arith, p)
]

-- what holds of each kept word and of one more holds of each
pub each_push : (P : ℕ → Type 0) (us : List ℕ) (x : ℕ) → ((i : ℕ) → i < length us → P (get_or us i 0)) → P x → (i : ℕ) → i < length (us ++ x ∷ []) → P (get_or (us ++ x ∷ []) i 0)
each_push P us x h hx i l = elim (cases_lt i (length us)) [
  | inl k ↦ subst P (sym (get_or_append_left us (x ∷ []) 0 i k)) (h i k)
  | inr k ↦ let e : length us ≡ i = omega (arith, length-append us (x ∷ [])) in subst P (sym (get_or_push us x 0 i e)) hx
]

-- one more kept word, or the kept words as they are
pub keep_cases : (A : Arithmetic) → Lawful A → (n room : ℕ) (base kept : List ℕ) (x : ℕ) →
    (((room ≤ length kept) ⊎ Generates A n (base ++ kept) x) × (keep A n room base kept x ≡ kept)) ⊎
    ((length kept < room) × (Generates A n (base ++ kept) x → ⊥) × (keep A n room base kept x ≡ kept ++ x ∷ []))
keep_cases A L n room base kept x =
    let full = leb room (length kept) in
    let made = holds (generated A n (base ++ kept)) x in
    let d = generated_holds A L n (base ++ kept) x in
    elim (cases_Bool (full || made)) [
      | inl t ↦ inl (
        elim (or_cases full made t) [ inl f ↦ inl (leb-true room (length kept) f) | inr g ↦ inr (d.0 g) ],
        cond-true (full || made) kept (kept ++ x ∷ []) t,
      )
      | inr f ↦
          let p = or_parts full made f in
          inr (leb-false room (length kept) p.0, (λ g. both_ways made p.1 (d.1 g)), cond-false (full || made) kept (kept ++ x ∷ []) f)
    ]

-- what holds of kept words and of the words put behind them holds of all that are kept
pub sieve_each : (A : Arithmetic) → Lawful A → (n room : ℕ) (base : List ℕ) (P : ℕ → Type 0) (ws kept : List ℕ) →
    ((i : ℕ) → i < length kept → P (get_or kept i 0)) → ((i : ℕ) → i < length ws → P (get_or ws i 0)) → (i : ℕ) → i < length (sieve A n room base kept ws) → P (get_or (sieve A n room base kept ws) i 0)
sieve_each A L n room base P [] kept h k = h
sieve_each A L n room base P (w ∷ ws) kept h k =
    sieve_each A L n room base P ws (keep A n room base kept w)
    (elim (keep_cases A L n room base kept w) [
      | inl s ↦ subst (λ us. (i : ℕ) → i < length us → P (get_or us i 0)) (sym s.1) h
      | inr s ↦ subst (λ us. (i : ℕ) → i < length us → P (get_or us i 0)) (sym s.2) (each_push P kept w h (k 0 (omega arith)))
    ])
    (λ i l. k (suc i) (omega arith))

module _ (A : Arithmetic) (n : ℕ) (at_least : ℕ → ℕ → Bool) (order : Order A n at_least) where
  -- a word may stand before itself
  pub no_later_self : (a : ℕ) → Word A n a → NoLater at_least a a
  no_later_self a wa = (elim (order.total a a wa wa) [ inl t ↦ t | inr t ↦ t ], λ t. omega arith)

  -- and before what those may stand before that it may stand before
  pub no_later_trans : (a b c : ℕ) → Word A n a → Word A n b → Word A n c → NoLater at_least a b → NoLater at_least b c → NoLater at_least a c
  no_later_trans a b c wa wb wc p q = (
    order.transitive a b c wa wb wc p.0 q.0,
    λ ca.
        let l = p.1 (order.transitive b c a wb wc wa q.0 ca) in
        let m = q.1 (order.transitive c a b wc wa wb ca p.0) in
        omega arith,
  )

module _ (A : Arithmetic) (L : Lawful A) (n : ℕ) (at_least : ℕ → ℕ → Bool) (order : Order A n at_least) (room : ℕ) (base : List ℕ) where
  -- each of the words may stand before z
  abbrev pub AllBefore : List ℕ → ℕ → Type 0
  AllBefore us z = (i : ℕ) → i < length us → NoLater at_least (get_or us i 0) z

  -- a word of a list that ends a list is generated by base and that list
  generates_last : (us : List ℕ) (x : ℕ) → Word A n x → Generates A n (base ++ (us ++ x ∷ [])) x
  generates_last us x wx =
      any_right A L n (vector_space A L n) base (us ++ x ∷ []) x
      (any_right A L n (vector_space A L n) us (x ∷ []) x (any_place A L n (vector_space A L n) (x ∷ []) 0 wx))

  -- no words are kept
  pub kept_none : Kept A n at_least room base []
  kept_none = record { words = λ i l. absurd (omega arith); sorted = λ i j l m. absurd (omega arith); new = λ i l g. absurd (omega arith); few = omega arith }

  -- one more word is kept
  kept_push : (kept : List ℕ) (x : ℕ) → Kept A n at_least room base kept → Word A n x → AllBefore kept x → length kept < room → (Generates A n (base ++ kept) x → ⊥) → Kept A n at_least room base (kept ++ x ∷ [])
  kept_push kept x k wx before l new = record {
    words = each_push (Word A n) kept x k.words wx;
    sorted = λ i j lt m.
        let li : i < length kept = omega (arith, length_push kept x) in
        rw (get_or_append_left kept (x ∷ []) 0 i li) (elim (cases_lt j (length kept)) [
          | inl lj ↦ rw (get_or_append_left kept (x ∷ []) 0 j lj) (k.sorted i j lt lj)
          | inr gj ↦ let e : length kept ≡ j = omega (arith, length_push kept x) in rw (get_or_push kept x 0 j e) (before i li)
        ]);
    new = λ i m. elim (cases_lt i (length kept)) [
      | inl li ↦ rw (take-append-le i kept (x ∷ []) (omega arith), get_or_append_left kept (x ∷ []) 0 i li) (k.new i li)
      | inr gi ↦ let e : length kept ≡ i = omega (arith, length_push kept x) in rw (take_at kept (x ∷ []) i e, get_or_push kept x 0 i e) new
    ];
    few = omega (arith, length_push kept x);
  }

  -- what was covered stays so when a word is put behind
  covered_push : (kept : List ℕ) (x y : ℕ) → Covered A n at_least room base kept y → Covered A n at_least room base (kept ++ x ∷ []) y
  covered_push kept x y c = record {
    many = c.many;
    within = omega (arith, length_push kept x, c.within);
    before = λ j l. rw (get_or_append_left kept (x ∷ []) 0 j (omega (arith, c.within))) (c.before j l);
    known = rw (take-append-le c.many kept (x ∷ []) c.within) c.known;
  }

  -- the word put behind is covered
  covered_last : (kept : List ℕ) (x : ℕ) → Word A n x → AllBefore kept x → Covered A n at_least room base (kept ++ x ∷ []) x
  covered_last kept x wx before = record {
    many = length (kept ++ x ∷ []);
    within = omega arith;
    before = each_push (λ z. NoLater at_least z x) kept x before (no_later_self A n at_least order x wx);
    known = rw (take_all (length (kept ++ x ∷ [])) (kept ++ x ∷ []) (omega arith)) (inl (generates_last kept x wx));
  }

  -- what is made of kept words by a word, or by some, that are put behind
  pub record Step (before after : List ℕ) : Type 0 where
    pub kept : Kept A n at_least room base after
    pub still : (y : ℕ) → Covered A n at_least room base before y → Covered A n at_least room base after y

  -- one word more
  keep_step : (kept : List ℕ) (x : ℕ) → Kept A n at_least room base kept → Word A n x → AllBefore kept x →
      Step kept (keep A n room base kept x) × Covered A n at_least room base (keep A n room base kept x) x
  keep_step kept x k wx before = elim (keep_cases A L n room base kept x) [
    | inl s ↦ subst (λ after. Step kept after × Covered A n at_least room base after x) (sym s.1) (
      record { kept = k; still = λ y c. c },
      record {
        many = length kept;
        within = omega arith;
        before = before;
        known = rw (take_all (length kept) kept (omega arith)) (elim s.0 [ inl full ↦ inr full | inr g ↦ inl g ]);
      },
    )
    | inr s ↦ subst (λ after. Step kept after × Covered A n at_least room base after x) (sym s.2) (
      record { kept = kept_push kept x k wx before s.0 s.1; still = λ y c. covered_push kept x y c },
      covered_last kept x wx before,
    )
  ]

  -- words in their order, each of which what is kept may stand before: all are covered in the end
  pub sieve_step : (ws kept : List ℕ) → Kept A n at_least room base kept → AllWords A n ws → ((i j : ℕ) → i < j → j < length ws → NoLater at_least (get_or ws i 0) (get_or ws j 0)) →
      ((i : ℕ) → i < length ws → AllBefore kept (get_or ws i 0)) →
      Step kept (sieve A n room base kept ws) × ((i : ℕ) → i < length ws → Covered A n at_least room base (sieve A n room base kept ws) (get_or ws i 0))
  sieve_step [] kept k words sorted before = (record { kept = k; still = λ y c. c }, λ i l. absurd (omega arith))
  sieve_step (w ∷ ws) kept k words sorted before =
      let one = keep_step kept w k (words 0 (omega arith)) (before 0 (omega arith)) in
      let more = sieve_step ws (keep A n room base kept w) one.0.kept (λ i l. words (suc i) (omega arith)) (λ i j l m. sorted (suc i) (suc j) (omega arith) (omega arith)) (next k) in (
        record { kept = more.0.kept; still = λ y c. more.0.still y (one.0.still y c) },
        at one.1 more,
      )
    where
      next : Kept A n at_least room base kept → (i : ℕ) → i < length ws → AllBefore (keep A n room base kept w) (get_or ws i 0)
      next k i l = elim (keep_cases A L n room base kept w) [
        | inl s ↦ subst (λ us. AllBefore us (get_or ws i 0)) (sym s.1) (before (suc i) (omega arith))
        | inr s ↦ subst (λ us. AllBefore us (get_or ws i 0)) (sym s.2) (each_push (λ z. NoLater at_least z (get_or ws i 0)) kept w (before (suc i) (omega arith)) (sorted 0 (suc i) (omega arith) (omega arith)))
      ]

      at : Covered A n at_least room base (keep A n room base kept w) w → Step (keep A n room base kept w) (sieve A n room base (keep A n room base kept w) ws) × ((i : ℕ) → i < length ws → Covered A n at_least room base (sieve A n room base (keep A n room base kept w) ws) (get_or ws i 0)) →
          (i : ℕ) → i < length (w ∷ ws) → Covered A n at_least room base (sieve A n room base (keep A n room base kept w) ws) (get_or (w ∷ ws) i 0)
      at c more zero l = more.0.still w c
      at c more (suc i) l = more.1 i (omega arith)

  -- more of the words generate as much
  pub take_more_generates : (vs : List ℕ) (i j : ℕ) → i ≤ j → (w : ℕ) → Generates A n (base ++ take i vs) w → Generates A n (base ++ take j vs) w
  take_more_generates vs i j l w g =
      let front : take i (take j vs) ≡ take i vs = take-take i j vs l in
      let all : (base ++ take i (take j vs)) ++ drop i (take j vs) ≡ base ++ take j vs = append_assoc base (take i (take j vs)) (drop i (take j vs)) ∙ ap (◌++◌ base) (take-append-drop i (take j vs)) in
      subst (λ us. Generates A n us w) all
      (any_left A L n (vector_space A L n) (base ++ take i (take j vs)) (drop i (take j vs)) w (subst (λ us. Generates A n (base ++ us) w) (sym front) g))

  -- the first words of a list that may all stand before y are generated by base and words of another list that may all stand
  -- before y, or those leave no room
  pub record Upto (ours vs : List ℕ) (y i : ℕ) : Type 0 where
    pub many : ℕ
    pub within : many ≤ length vs
    pub before : (j : ℕ) → j < many → NoLater at_least (get_or vs j 0) y
    pub known : ((j : ℕ) → j < i → Generates A n (base ++ take many vs) (get_or ours j 0)) ⊎ (room ≤ many)

  module _ (ours vs : List ℕ) (words : AllWords A n ours) (words' : AllWords A n vs) (covers : (i : ℕ) → i < length ours → Covered A n at_least room base vs (get_or ours i 0)) (y : ℕ) (wy : Word A n y) where
    -- one more
    upto_more : (i : ℕ) → i < length ours → NoLater at_least (get_or ours i 0) y → Upto ours vs y i → Covered A n at_least room base vs (get_or ours i 0) → Upto ours vs y (suc i)
    upto_more i l no_later u c = elim (cases_lt u.many c.many) [
      | inl lt ↦ record {
        many = c.many;
        within = c.within;
        before = λ j m. no_later_trans A n at_least order (get_or vs j 0) (get_or ours i 0) y (words' j (omega (arith, c.within))) (words i l) wy (c.before j m) no_later;
        known = elim u.known [
          | inr full ↦ inr (omega arith)
          | inl g ↦ elim c.known [
            | inr full ↦ inr full
            | inl h ↦ inl (λ j m. elim (cases_eq j i) [
              | inl e ↦ rw e h
              | inr d ↦ take_more_generates vs u.many c.many (omega arith) (get_or ours j 0) (g j (omega (arith, d)))
            ])
          ]
        ];
      }
      | inr ge ↦ record {
        many = u.many;
        within = u.within;
        before = u.before;
        known = elim u.known [
          | inr full ↦ inr full
          | inl g ↦ elim c.known [
            | inr full ↦ inr (omega arith)
            | inl h ↦ inl (λ j m. elim (cases_eq j i) [
              | inl e ↦ rw e (take_more_generates vs c.many u.many ge (get_or ours i 0) h)
              | inr d ↦ g j (omega (arith, d))
            ])
          ]
        ];
      }
    ]

    upto : (i : ℕ) → i ≤ length ours → ((j : ℕ) → j < i → NoLater at_least (get_or ours j 0) y) → Upto ours vs y i
    upto zero l before = record { many = 0; within = omega arith; before = λ j m. absurd (omega arith); known = inl (λ j m. absurd (omega arith)) }
    upto (suc i) l before =
        upto_more i (omega arith) (before i (omega arith)) (upto i (omega arith) (λ j m. before j (omega arith))) (covers i (omega arith))

    -- what kept words cover is covered by words that cover each of them
    pub chain : Kept A n at_least room base ours → Covered A n at_least room base ours y → Covered A n at_least room base vs y
    chain k c =
        let u = upto c.many c.within c.before in
        record {
          many = u.many;
          within = u.within;
          before = u.before;
          known = elim u.known [
            | inr full ↦ inr full
            | inl each ↦ elim c.known [
              | inl g ↦ inl (join_within A L n base (take c.many ours) (base ++ take u.many vs) (any_left A L n (vector_space A L n) base (take u.many vs))
                  (all_within A L n (take c.many ours) (base ++ take u.many vs) (λ i l. let li : i < c.many = omega (arith, length-take c.many ours) in rw (get_or-take c.many ours i 0 li) (each i li))) y g)
              | inr full ↦
                  let b = chosen_bound A L n base ours (take u.many vs) k.new (λ i l. each i (omega (arith, k.few))) in
                  inr (omega (arith, length-take u.many vs, c.within))
            ]
          ];
        }

-- a place of a list with one word put in: before it, of it, or behind it
pub put_place : (front : List ℕ) (w : ℕ) (back : List ℕ) (i : ℕ) → i < length (front ++ w ∷ back) →
    ((i < length front) × (get_or (front ++ w ∷ back) i 0 ≡ get_or (front ++ back) i 0)) ⊎
    (((i ≡ length front) × (get_or (front ++ w ∷ back) i 0 ≡ w)) ⊎
    ((length front < i) × (i - 1 < length (front ++ back)) × (get_or (front ++ w ∷ back) i 0 ≡ get_or (front ++ back) (i - 1) 0)))
put_place front w back i l = elim (cases_lt i (length front)) [
  | inl k ↦ inl (k, get_or_append_left front (w ∷ back) 0 i k ∙ sym (get_or_append_left front back 0 i k))
  | inr ge ↦ inr (elim (cases_eq i (length front)) [
    | inl e ↦ inl (e, ap (λ k. get_or (front ++ w ∷ back) k 0) e ∙ get_or-append_right front (w ∷ back) (length front) (length front) 0 refl (omega arith) ∙ ap (λ k. get_or (w ∷ back) k 0) (the_zero (length front)))
    | inr d ↦
        let more : length front < i = omega (arith, d) in
        let step : i - length front ≡ suc (i - 1 - length front) = omega arith in (
        inr (
          more,
          omega (arith, length-append front (w ∷ back), length-append front back),
          get_or-append_right front (w ∷ back) (length front) i 0 refl ge
              ∙ ap (λ k. get_or (w ∷ back) k 0) step
              ∙ sym (get_or-append_right front back (length front) (i - 1) 0 refl (omega arith)),
        )
        )
  ])
]
  where
    the_zero : (k : ℕ) → k - k ≡ 0
    the_zero k = omega arith

module _ (A : Arithmetic) (L : Lawful A) (n : ℕ) (at_least : ℕ → ℕ → Bool) (order : Order A n at_least) (room : ℕ) (base : List ℕ) where
  module _ (front : List ℕ) (w : ℕ) (back : List ℕ) (k : Kept A n at_least room base (front ++ back)) (ww : Word A n w)
      (early : (j : ℕ) → j < length front → NoLater at_least (get_or (front ++ back) j 0) w) (late : (j : ℕ) → length front ≤ j → j < length (front ++ back) → NoLater at_least w (get_or (front ++ back) j 0)) where
    put_words : AllWords A n (front ++ w ∷ back)
    put_words i l = elim (put_place front w back i l) [
      | inl p ↦ subst (Word A n) (sym p.1) (k.words i (omega (arith, p.0, length-append front back)))
      | inr q ↦ elim q [
        | inl p ↦ subst (Word A n) (sym p.1) ww
        | inr p ↦ subst (Word A n) (sym p.2) (k.words (i - 1) p.1)
      ]
    ]

    put_sorted : (i j : ℕ) → i < j → j < length (front ++ w ∷ back) → NoLater at_least (get_or (front ++ w ∷ back) i 0) (get_or (front ++ w ∷ back) j 0)
    put_sorted i j l m = elim (put_place front w back i (omega arith)) [
      | inl p ↦ subst (λ x. NoLater at_least x (get_or (front ++ w ∷ back) j 0)) (sym p.1) (elim (put_place front w back j m) [
        | inl q ↦ subst (NoLater at_least (get_or (front ++ back) i 0)) (sym q.1) (k.sorted i j l (omega (arith, q.0, length-append front back)))
        | inr r ↦ elim r [
          | inl q ↦ subst (NoLater at_least (get_or (front ++ back) i 0)) (sym q.1) (early i p.0)
          | inr q ↦ subst (NoLater at_least (get_or (front ++ back) i 0)) (sym q.2) (k.sorted i (j - 1) (omega (arith, p.0, q.0)) q.1)
        ]
      ])
      | inr s ↦ elim s [
        | inl p ↦ subst (λ x. NoLater at_least x (get_or (front ++ w ∷ back) j 0)) (sym p.1) (elim (put_place front w back j m) [
          | inl q ↦ absurd (omega (arith, p.0, q.0))
          | inr r ↦ elim r [
            | inl q ↦ absurd (omega (arith, p.0, q.0))
            | inr q ↦ subst (NoLater at_least w) (sym q.2) (late (j - 1) (omega (arith, q.0)) q.1)
          ]
        ])
        | inr p ↦ subst (λ x. NoLater at_least x (get_or (front ++ w ∷ back) j 0)) (sym p.2) (elim (put_place front w back j m) [
          | inl q ↦ absurd (omega (arith, p.0, q.0))
          | inr r ↦ elim r [
            | inl q ↦ absurd (omega (arith, p.0, q.0))
            | inr q ↦ subst (NoLater at_least (get_or (front ++ back) (i - 1) 0)) (sym q.2) (k.sorted (i - 1) (j - 1) (omega (arith, p.0)) q.1)
          ]
        ])
      ]
    ]

    -- of the words with one more put at its place, the sieve leaves what offering it is to leave
    pub offered : Offered A n at_least room base (λ y. y ≡ w) (front ++ back) (sieve A n room base [] (front ++ w ∷ back))
    offered =
        let s = sieve_step A L n at_least order room base (front ++ w ∷ back) [] (kept_none A L n at_least order room base) put_words put_sorted (λ i l j m. absurd (omega arith)) in
        record {
          kept = s.0.kept;
          covered = λ y e. subst (Covered A n at_least room base (sieve A n room base [] (front ++ w ∷ back))) (get_or_here ∙ sym e) (s.1 (length front) (omega (arith, length-append front (w ∷ back))));
          still = λ y wy c. chain A L n at_least order room base (front ++ back) (sieve A n room base [] (front ++ w ∷ back)) k.words s.0.kept.words (each s.1) y wy k c;
          from = sieve_each A L n room base (λ z. (z ≡ w) ⊎ (holds (front ++ back) z ≡ true)) (front ++ w ∷ back) [] (λ i l. absurd (omega arith)) source;
        }
      where
        less : (i : ℕ) → suc i - 1 ≡ i
        less i = omega arith

        get_or_here : get_or (front ++ w ∷ back) (length front) 0 ≡ w
        get_or_here = elim (put_place front w back (length front) (omega (arith, length-append front (w ∷ back)))) [
          | inl p ↦ absurd (omega (arith, p.0))
          | inr q ↦ elim q [ inl p ↦ p.1 | inr p ↦ absurd (omega (arith, p.0)) ]
        ]

        each : ((i : ℕ) → i < length (front ++ w ∷ back) → Covered A n at_least room base (sieve A n room base [] (front ++ w ∷ back)) (get_or (front ++ w ∷ back) i 0)) →
            (i : ℕ) → i < length (front ++ back) → Covered A n at_least room base (sieve A n room base [] (front ++ w ∷ back)) (get_or (front ++ back) i 0)
        each all i l = elim (cases_lt i (length front)) [
          | inl lt ↦ subst (Covered A n at_least room base (sieve A n room base [] (front ++ w ∷ back)))
              (get_or_append_left front (w ∷ back) 0 i lt ∙ sym (get_or_append_left front back 0 i lt)) (all i (omega (arith, length-append front (w ∷ back))))
          | inr ge ↦ subst (Covered A n at_least room base (sieve A n room base [] (front ++ w ∷ back)))
              (elim (put_place front w back (suc i) (omega (arith, length-append front (w ∷ back), length-append front back))) [
                | inl p ↦ absurd (omega (arith, p.0))
                | inr q ↦ elim q [ inl p ↦ absurd (omega (arith, p.0)) | inr p ↦ p.2 ∙ ap (λ j. get_or (front ++ back) j 0) (less i) ]
              ]) (all (suc i) (omega (arith, length-append front (w ∷ back), length-append front back)))
        ]

        source : (i : ℕ) → i < length (front ++ w ∷ back) → (get_or (front ++ w ∷ back) i 0 ≡ w) ⊎ (holds (front ++ back) (get_or (front ++ w ∷ back) i 0) ≡ true)
        source i l = elim (put_place front w back i l) [
          | inl p ↦ inr (subst (λ z. holds (front ++ back) z ≡ true) (sym p.1) (holds_at (front ++ back) i (omega (arith, p.0, length-append front back))))
          | inr q ↦ elim q [
            | inl p ↦ inl p.1
            | inr p ↦ inr (subst (λ z. holds (front ++ back) z ≡ true) (sym p.2) (holds_at (front ++ back) (i - 1) p.1))
          ]
        ]

  -- the same of a word put in at a place
  pub offered_at : (ours : List ℕ) (place w : ℕ) → place ≤ length ours → Kept A n at_least room base ours → Word A n w →
      ((j : ℕ) → j < place → NoLater at_least (get_or ours j 0) w) → ((j : ℕ) → place ≤ j → j < length ours → NoLater at_least w (get_or ours j 0)) →
      Offered A n at_least room base (λ y. y ≡ w) ours (sieve A n room base [] (take place ours ++ w ∷ drop place ours))
  offered_at ours place w l k ww early late =
      let e = take-append-drop place ours in
      let size : length (take place ours) ≡ place = length-take-le place ours l in
      subst (λ us. Offered A n at_least room base (λ y. y ≡ w) us (sieve A n room base [] (take place ours ++ w ∷ drop place ours))) e
      (offered (take place ours) w (drop place ours) (subst (Kept A n at_least room base) (sym e) k) ww
      (subst (λ us. (j : ℕ) → j < length (take place ours) → NoLater at_least (get_or us j 0) w) (sym e) (λ j m. early j (omega arith)))
      (subst (λ us. (j : ℕ) → length (take place ours) ≤ j → j < length us → NoLater at_least w (get_or us j 0)) (sym e) (λ j m. late j (omega arith))))

  -- a word that base and words that may stand before it generate, or behind as many as there is room for, needs no change
  pub offered_stays : (ours : List ℕ) (w place : ℕ) → Kept A n at_least room base ours → place ≤ length ours → ((j : ℕ) → j < place → NoLater at_least (get_or ours j 0) w) →
      Generates A n (base ++ take place ours) w ⊎ (room ≤ place) → Offered A n at_least room base (λ y. y ≡ w) ours ours
  offered_stays ours w place k l before known = record {
    kept = k;
    covered = λ y e. subst (Covered A n at_least room base ours) (sym e) (record { many = place; within = l; before = before; known = known });
    still = λ y wy c. c;
    from = λ i l. inr (holds_at ours i l);
  }

  -- some words and then some more
  pub offered_both : (M N : ℕ → Type 0) (before mid after : List ℕ) → ((y : ℕ) → M y → Word A n y) → Offered A n at_least room base M before mid → Offered A n at_least room base N mid after → Offered A n at_least room base (λ y. M y ⊎ N y) before after
  offered_both M N before mid after words p q = record {
    kept = q.kept;
    covered = λ y m. elim m [ inl k ↦ q.still y (words y k) (p.covered y k) | inr k ↦ q.covered y k ];
    still = λ y wy c. q.still y wy (p.still y wy c);
    from = λ i l. elim (q.from i l) [
      | inl k ↦ inl (inr k)
      | inr h ↦
          let at = holds_in mid (get_or after i 0) h in
          elim (p.from at.0 at.1) [
            | inl k ↦ inl (inl (subst M at.2 k))
            | inr k ↦ inr (subst (λ z. holds before z ≡ true) at.2 k)
          ]
    ];
  }

  -- the same words otherwise described
  pub offered_same : (M N : ℕ → Type 0) (before after : List ℕ) → ((y : ℕ) → M y → N y) → ((y : ℕ) → N y → M y) → Offered A n at_least room base M before after → Offered A n at_least room base N before after
  offered_same M N before after to from p = record {
    kept = p.kept;
    covered = λ y m. p.covered y (from y m);
    still = p.still;
    from = λ i l. elim (p.from i l) [ inl m ↦ inl (to (get_or after i 0) m) | inr h ↦ inr h ];
  }

  -- no words
  pub offered_none : (M : ℕ → Type 0) (ours : List ℕ) → ((y : ℕ) → M y → ⊥) → Kept A n at_least room base ours → Offered A n at_least room base M ours ours
  offered_none M ours none k = record { kept = k; covered = λ y m. absurd (none y m); still = λ y wy c. c; from = λ i l. inr (holds_at ours i l) }

  -- one level more
  pub offered_more : (k : ℕ) (Of : ℕ → ℕ → Type 0) → ((c : ℕ) (y : ℕ) → Of c y → Word A n y) → (before mid after : List ℕ) → Offered A n at_least room base (Below k Of) before mid → Offered A n at_least room base (Of k) mid after →
      Offered A n at_least room base (Below (k + 1) Of) before after
  offered_more k Of words before mid after p q =
      offered_same (λ y. Below k Of y ⊎ Of k y) (Below (k + 1) Of) before after (below_join k Of) (below_split k Of)
      (offered_both (Below k Of) (Of k) before mid after (λ y m. words m.0 y m.2) p q)

-- the end: kept words that cover every wanted word are the generators
module _ (A : Arithmetic) (L : Lawful A) (n : ℕ) (at_least : ℕ → ℕ → Bool) (order : Order A n at_least) (room : ℕ) (base further ours : List ℕ)
    (k : Kept A n at_least room base ours) (wanted : (i : ℕ) → i < length ours → Generates A n (base ++ further) (get_or ours i 0))
    (covers : (y : ℕ) → Generates A n (base ++ further) y → (Generates A n base y → ⊥) → Covered A n at_least room base ours y) where
  -- each is the best that those before it leave fresh
  pub kept_stepped : Stepped A n at_least (base ++ further) base ours
  kept_stepped i l = next_is A L n at_least order (base ++ further) (base ++ take i ours) (get_or ours i 0) (wanted i l) (k.new i l) top
    where
      top : (y : ℕ) → Generates A n (base ++ further) y → (Generates A n (base ++ take i ours) y → ⊥) → NoLater at_least (get_or ours i 0) y
      top y G new =
          let c = covers y G (λ g. new (any_left A L n (vector_space A L n) base (take i ours) y g)) in
          elim (cases_lt i c.many) [
            | inl lt ↦ c.before i lt
            | inr ge ↦ elim c.known [
              | inl g ↦ absurd (new (take_more_generates A L n at_least order room base ours c.many i ge y g))
              | inr full ↦ absurd (omega (arith, k.few))
            ]
          ]

  -- where there is room for one more wanted word than can be new, none is left
  pub kept_all : (more : List ℕ) → SameWords A n (base ++ more) (base ++ further) → (length ours ≡ room → length more ≤ room) → (y : ℕ) → Generates A n (base ++ further) y → Generates A n (base ++ ours) y
  kept_all more same enough y G = elim (any_or_not A L n (vector_space A L n) (base ++ ours) y) [
    | inl g ↦ g
    | inr new ↦
        let c = covers y G (λ g. new (any_left A L n (vector_space A L n) base ours y g)) in
        elim c.known [
          | inl g ↦ absurd (new (subst (λ us. Generates A n (base ++ us) y) (take_all (length ours) ours (omega arith)) (take_more_generates A L n at_least order room base ours c.many (length ours) c.within y g)))
          | inr full ↦
              let b = chosen_bound A L n base (ours ++ y ∷ []) more (new_push new)
              (each_push (Generates A n (base ++ more)) ours y (λ i l. (same (get_or ours i 0)).1 (wanted i l)) ((same y).1 G)) in
              let e = enough (omega (arith, k.few, c.within)) in
              absurd (omega (arith, length_push ours y, k.few, c.within))
        ]
  ]
    where
      new_push : (Generates A n (base ++ ours) y → ⊥) → New A n base (ours ++ y ∷ [])
      new_push new i l = elim (cases_lt i (length ours)) [
        | inl li ↦ rw (take-append-le i ours (y ∷ []) (omega arith), get_or_append_left ours (y ∷ []) 0 i li) (k.new i li)
        | inr gi ↦ let e : length ours ≡ i = omega (arith, length_push ours y) in rw (take_at ours (y ∷ []) i e, get_or_push ours y 0 i e) new
      ]

  -- as many as there is room for, at most 16, are the first generators
  pub kept_generators : (more : List ℕ) → SameWords A n (base ++ more) (base ++ further) → room ≡ min 16 (length more) → ours ≡ take 16 (Run A n at_least (base ++ further) base (length further))
  kept_generators more same is = elim (cases_eq (length ours) 16) [
    | inl full ↦
        let b = stepped_bound A L n at_least base further ours kept_stepped in
        let m = length further - length ours in
        let all : length further ≡ length ours + m = omega arith in
        sym (ap (λ i. take 16 (Run A n at_least (base ++ further) base i)) all
        ∙ ap (take 16) (stepped_steps A n at_least (base ++ further) ours base kept_stepped m)
        ∙ take_at ours (Run A n at_least (base ++ further) (base ++ ours) m) 16 full)
    | inr d ↦
        let few : length ours ≤ 16 = omega (arith, k.few) in
        sym (ap (take 16) (stepped_done A L n at_least base further ours kept_stepped
        (next_none A L n at_least (base ++ further) (base ++ ours) (kept_all more same (λ e. omega (arith, k.few, d))))) ∙ take_all 16 ours few)
  ]
