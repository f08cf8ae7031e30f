-- Another word with the same least alias, and the bytes of words that have one.
use Rattle.std.proofs.Common.{◌≡◌, ℕ, ◌+◌, ◌-◌, ◌*◌, ◌/◌, ◌%◌, ◌<◌, ◌≤◌, ◌≢◌, ◌⊎◌, List, length, get_or, set, sym, ap, ap₂, ◌∙◌, subst, inl, inr, arith, get_or-set_other, get_or-set_same, Option, Some, None}
use Rattle.std.specs.Option.{MatchOption}
use Rattle.std.proofs.lemmas.List.{length-set}
use Rattle.std.proofs.lemmas.Bool.{cases_eq, cases_lt}
use Rattle.levels.specs.Arithmetic.{two}
use Rattle.levels.specs.Words.{code_sum}
use Rattle.aliasing.specs.Short.{one_letter, two_letters, Own, Settled, Short, Stands, sum_at}
use Rattle.aliasing.specs.Buckets.{IsOther, NoOther, Chained, Long, Alone, Told}
use Rattle.aliasing.proofs.Chains.{chained_up}
use Rattle.aliasing.proofs.Sums.{letters_code}
use Rattle.aliasing.proofs.Factors.{own_same, pair_stands, sum_pair, word_pair}

module _ (ls : List ℕ) (k : ℕ) (st : Stands ls k) where
  -- a word that is its own least alias has one letter or two
  own_short : Own ls k → Short (sum_at ls k)
  own_short own = let a = st.0 in (k / 32, k % 32 + 1, omega arith, sym own)

  -- one more word, in no chain
  pub chained_next : (m : ℕ) (last before : List ℕ) → m ≡ k + 1 → Short (sum_at ls k) → Chained ls k last before → Chained ls m last before
  chained_next m last before e short h =
      chained_up ls k m last before (omega arith) (λ i l n long. let same : i ≡ k = omega arith in long.1 (subst (λ j. Short (sum_at ls j)) (sym same) short)) h

  -- the same where it is its own least alias
  pub chained_own : (m : ℕ) (last before : List ℕ) → m ≡ k + 1 → Own ls k → Chained ls k last before → Chained ls m last before
  chained_own m last before e own = chained_next m last before e (own_short own)

  -- the least alias has a place: it is another word, or this one
  module _ (few : length ls ≤ 33) (settled : Settled ls) (p : ℕ) (h : (a : ℕ) × (b : ℕ) × (a < b) × (two_letters a b ≡ sum_at ls k) × (p ≡ 32 * a + b - 1)) where
    -- the word there has that least alias, which is its own
    place_own : Stands ls p × (sum_at ls p ≡ sum_at ls k) × Own ls p
    place_own =
        let a = h.0 in
        let b = h.1 in
        let l = h.2 in
        let s = settled k a b st l h.3 in
        subst (λ q. Stands ls q × (sum_at ls q ≡ sum_at ls k) × Own ls q) (sym h.4)
        (pair_stands ls a b l s.0 few, s.1, s.1 ∙ sym h.3 ∙ sym (word_pair a b l (omega (arith, s.0))))

    -- if it stands elsewhere
    pub other_short : p ≢ k → IsOther ls k p
    other_short ne = let q = place_own in (q.0, ne, q.1, inr q.2)

    -- if it stands there
    pub this_short : p ≡ k → NoOther ls k
    this_short e = inl (subst (Own ls) e place_own.2)

  -- none that was met has it, nor one that has a place
  pub other_none : (Short (sum_at ls k) → ⊥) → ((p : ℕ) → p < k → Long ls p → sum_at ls p ≢ sum_at ls k) → NoOther ls k
  other_none long none = inr (λ p h. let s = h.0 in let e = h.2 in elim h.3 [
    | inl l ↦ none p l (s, λ t. long (subst Short e t)) e
    | inr own ↦ long (let a = s.0 in (p / 32, p % 32 + 1, omega arith, sym own ∙ e))
  ])

  -- what was met is another
  pub other_met : (p : ℕ) → (p < k) × Long ls p × (sum_at ls p ≡ sum_at ls k) → IsOther ls k p
  other_met p h = (h.1.0, (let l = h.0 in omega arith), h.2, inl h.0)

module _ (ls : List ℕ) (i j : ℕ) (l : i < j) (h : j < length ls) (few : length ls ≤ 33) (r : ℕ) (is : r ≡ code_sum two (get_or ls i 0) (get_or ls j 0)) where
  -- the least alias of the word of two factors
  pub sum_here : r ≡ sum_at ls (32 * i + j - 1)
  sum_here = is ∙ sym (sum_pair ls i j l (omega arith))

  -- if it has a place the word is in no chain, and meets the word there unless that is itself
  pub short_met : (last before : List ℕ) → Settled ls → Chained ls (32 * i + j - 1) last before → (p : ℕ) → (a : ℕ) × (b : ℕ) × (a < b) × (two_letters a b ≡ r) × (p ≡ 32 * a + b - 1) →
      Chained ls (32 * i + j) last before × (p ≢ 32 * i + j - 1 → IsOther ls (32 * i + j - 1) p) × (p ≡ 32 * i + j - 1 → NoOther ls (32 * i + j - 1))
  short_met last before settled chained p at =
      let k = 32 * i + j - 1 in
      let st = pair_stands ls i j l h few in
      let e : two_letters at.0 at.1 ≡ sum_at ls k = at.3 ∙ sum_here in
      let q : (a : ℕ) × (b : ℕ) × (a < b) × (two_letters a b ≡ sum_at ls k) × (p ≡ 32 * a + b - 1) = (at.0, at.1, at.2, e, at.4) in
      (chained_next ls k st (32 * i + j) last before (omega arith) (at.0, at.1, at.2, e) chained, other_short ls k st few settled p q, this_short ls k st few settled p q)

-- the word of two letters that are their own least aliases is its own
pub own_pair : (ls : List ℕ) (i j : ℕ) → i < j → j < length ls → length ls ≤ 33 → get_or ls i 0 ≡ one_letter i → get_or ls j 0 ≡ one_letter j → Own ls (32 * i + j - 1)
own_pair ls i j l h few ei ej =
    sum_pair ls i j l (omega arith) ∙ ap₂ (code_sum two) ei ej ∙ letters_code 32 (omega arith) i j l (omega arith) ∙ sym (word_pair i j l (omega arith))

-- by what is found
pub found_map : (o : Option ℕ) (P P' : Type 0) (Q Q' : ℕ → Type 0) → (P → P') → ((p : ℕ) → Q p → Q' p) → MatchOption o P Q → MatchOption o P' Q'
found_map (Some p) P P' Q Q' f g h = g p h
found_map None P P' Q Q' f g h = f h

-- Bytes after the words before place k: 0 only for words that share their least alias; and for each of these words that is not its own
-- least alias, and each that it shares one with, if that is one of them or its own.
pub record Seen (ls : List ℕ) (k : ℕ) (bytes : List ℕ) : Type 0 where
  pub many : length bytes ≡ 1024
  pub bits : (p : ℕ) → p < 1024 → (get_or bytes p 0 ≡ 0) ⊎ (get_or bytes p 0 ≡ 1)
  pub sound : (p : ℕ) → Stands ls p → get_or bytes p 0 ≡ 0 → Alone ls p → ⊥
  pub both : (p q : ℕ) → Stands ls p → Stands ls q → p ≢ q → sum_at ls p ≡ sum_at ls q → q < k → (Own ls q → ⊥) → (p < k) ⊎ Own ls p → (get_or bytes p 0 ≡ 0) × (get_or bytes q 0 ≡ 0)

-- none is 0 yet
pub seen_none : (ls bytes : List ℕ) → length bytes ≡ 1024 → length ls ≤ 33 → ((p : ℕ) → p < 1024 → get_or bytes p 0 ≡ 1) → Seen ls 0 bytes
seen_none ls bytes many few ones = record {
  many = many;
  bits = λ p l. inr (ones p l);
  sound = λ p s z a. let o = ones p (omega (arith, s.0, s.1)) in omega arith;
  both = λ p q sp sq ne e l. absurd (omega arith);
}

-- no word stands from there up to a later place
pub seen_up : (ls : List ℕ) (k m : ℕ) (bytes : List ℕ) → ((i : ℕ) → k ≤ i → i < m → Stands ls i → ⊥) → Seen ls k bytes → Seen ls m bytes
seen_up ls k m bytes none h = record {
  many = h.many;
  bits = h.bits;
  sound = h.sound;
  both = λ p q sp sq ne e l not c. h.both p q sp sq ne e (before q l sq) not (elim c [ inl m ↦ inl (before p m sp) | inr o ↦ inr o ]);
}
  where
    before : (i : ℕ) → i < m → Stands ls i → i < k
    before i l s = elim (cases_lt i k) [ inl lt ↦ lt | inr le ↦ absurd (none i le l s) ]

-- after all words the bytes tell of them
pub seen_told : (ls : List ℕ) (k : ℕ) (bytes : List ℕ) → length ls ≤ 33 → ((i : ℕ) → Stands ls i → i < k) → Seen ls k bytes → Told ls bytes
seen_told ls k bytes few all h p sp = elim (h.bits p (omega (arith, sp.0, sp.1))) [
  | inl z ↦ inr (z, h.sound p sp z)
  | inr one ↦ inl (
    one,
    λ i si e. elim (cases_eq i p) [
      | inl same ↦ same
      | inr ne ↦
          let lp = all p sp in
          let li = all i si in
          elim (cases_eq (sum_at ls p) (two_letters (p / 32) (p % 32 + 1))) [
            | inl own ↦ elim (cases_eq (sum_at ls i) (two_letters (i / 32) (i % 32 + 1))) [
              | inl own' ↦ own_same ls i p si sp own' own e
              | inr not ↦ absurd (let b = h.both p i sp si (λ q. ne (sym q)) (sym e) li not (inl lp) in let z = b.0 in omega arith)
            ]
            | inr not ↦ absurd (let b = h.both i p si sp ne e lp not (inl li) in let z = b.1 in omega arith)
          ]
    ],
  )
]

module _ (ls : List ℕ) (k : ℕ) (bytes : List ℕ) (st : Stands ls k) (few : length ls ≤ 33) (h : Seen ls k bytes) where
  -- of what was before the next place, or is its own least alias, and is not at k
  earlier : (p : ℕ) → p ≢ k → (p < k + 1) ⊎ Own ls p → (p < k) ⊎ Own ls p
  earlier p ne c = elim c [ inl l ↦ inl (omega (arith, ne)) | inr o ↦ inr o ]

  -- one word more, that no other shares its least alias with
  pub seen_alone : NoOther ls k → Seen ls (k + 1) bytes
  seen_alone alone = record {
    many = h.many;
    bits = h.bits;
    sound = h.sound;
    both = λ p q sp sq ne e l not c. elim (cases_eq q k) [
      | inl here ↦ absurd (elim alone [
        | inl own ↦ not (subst (Own ls) (sym here) own)
        | inr none ↦ let np : p ≢ k = omega (arith, ne, here) in none p (sp, np, e ∙ ap (sum_at ls) here, earlier p np c)
      ])
      | inr nq ↦ elim (cases_eq p k) [
        | inl here ↦ elim alone [
          | inl own ↦ h.both p q sp sq ne e (omega (arith, nq)) not (inr (subst (Own ls) (sym here) own))
          | inr none ↦ absurd (none q (sq, nq, sym e ∙ ap (sum_at ls) here, inl (omega (arith, nq))))
        ]
        | inr np ↦ h.both p q sp sq ne e (omega (arith, nq)) not (earlier p np c)
      ]
    ];
  }

  module _ (o : ℕ) (other : IsOther ls k o) where
    -- the bytes of both become 0
    abbrev marked : List ℕ
    marked = set (set bytes o 0) k 0

    -- those two
    mark_here : get_or marked k 0 ≡ 0
    mark_here = get_or-set_same (set bytes o 0) k 0 0 (let s = st in omega (arith, s.0, s.1, h.many, length-set bytes o 0))

    mark_there : get_or marked o 0 ≡ 0
    mark_there =
        let s = other.0 in
        get_or-set_other (set bytes o 0) k o 0 0 other.1 ∙ get_or-set_same bytes o 0 0 (omega (arith, s.0, s.1, h.many))

    -- and no others
    mark_other : (p : ℕ) → p ≢ k → p ≢ o → get_or marked p 0 ≡ get_or bytes p 0
    mark_other p nk away = get_or-set_other (set bytes o 0) k p 0 0 nk ∙ get_or-set_other bytes o p 0 0 away

    -- what was 0 stays
    mark_zero : (p : ℕ) → p ≢ k → (p ≢ o → get_or bytes p 0 ≡ 0) → get_or marked p 0 ≡ 0
    mark_zero p nk z = elim (cases_eq p o) [
      | inl e ↦ ap (λ q. get_or marked q 0) e ∙ mark_there
      | inr away ↦ mark_other p nk away ∙ z away
    ]

    -- a word that shares the least alias has byte 0 already, or is the other
    shared : (p : ℕ) → Stands ls p → sum_at ls p ≡ sum_at ls k → (p < k) ⊎ Own ls p → p ≢ o → get_or bytes p 0 ≡ 0
    shared p sp e c away =
        let so = other.0 in
        let same : sum_at ls p ≡ sum_at ls o = e ∙ sym other.2 in
        elim (cases_eq (sum_at ls o) (two_letters (o / 32) (o % 32 + 1))) [
          | inl own ↦
              let not : Own ls p → ⊥ = λ own'. away (own_same ls p o sp so own' own same) in
              let l : p < k = elim c [ inl l ↦ l | inr own' ↦ absurd (not own') ] in
              (h.both o p so sp (λ q. away (sym q)) (sym same) l not (inr own)).1
          | inr not ↦
              let l : o < k = elim other.3 [ inl l ↦ l | inr own ↦ absurd (not own) ] in
              (h.both p o sp so away same l not c).0
        ]

    -- one word more, and the other
    pub seen_other : Seen ls (k + 1) marked
    seen_other = record {
      many = length-set (set bytes o 0) k 0 ∙ length-set bytes o 0 ∙ h.many;
      bits = λ p l. elim (cases_eq p k) [
        | inl e ↦ inl (ap (λ q. get_or marked q 0) e ∙ mark_here)
        | inr nk ↦ elim (cases_eq p o) [
          | inl e ↦ inl (ap (λ q. get_or marked q 0) e ∙ mark_there)
          | inr away ↦ elim (h.bits p l) [ inl z ↦ inl (mark_other p nk away ∙ z) | inr one ↦ inr (mark_other p nk away ∙ one) ]
        ]
      ];
      sound = λ p sp z a. elim (cases_eq p k) [
        | inl e ↦ other.1 (a o other.0 (other.2 ∙ ap (sum_at ls) (sym e)) ∙ e)
        | inr nk ↦ elim (cases_eq p o) [
          | inl e ↦ other.1 (sym (a k st (sym other.2 ∙ ap (sum_at ls) (sym e)) ∙ e))
          | inr away ↦ h.sound p sp (sym (mark_other p nk away) ∙ z) a
        ]
      ];
      both = λ p q sp sq ne e l not c. (
        (elim (cases_eq p k) [
          | inl here ↦ ap (λ i. get_or marked i 0) here ∙ mark_here
          | inr nk ↦ mark_zero p nk (λ away. elim (cases_eq q k) [
            | inl here ↦ shared p sp (e ∙ ap (sum_at ls) here) (earlier p nk c) away
            | inr nq ↦ (h.both p q sp sq ne e (omega (arith, nq)) not (earlier p nk c)).0
          ])
        ]),
        (elim (cases_eq q k) [
          | inl here ↦ ap (λ i. get_or marked i 0) here ∙ mark_here
          | inr nq ↦ mark_zero q nq (λ away. elim (cases_eq p k) [
            | inl here ↦ shared q sq (sym e ∙ ap (sum_at ls) here) (inl (omega (arith, nq))) away
            | inr nk ↦ (h.both p q sp sq ne e (omega (arith, nq)) not (earlier p nk c)).1
          ])
        ]),
      );
    }
