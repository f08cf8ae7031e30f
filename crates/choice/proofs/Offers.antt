-- The words that are offered, one set after the other.
use Rattle.std.proofs.Common.{◌≡◌, ℕ, zero, suc, ◌+◌, ◌<◌, ◌≤◌, Bool, List, [], ◌∷◌, length, get_or, take, drop, ◌-◌, min, true, false, ◌++◌, sym, refl, ap, ◌∙◌, subst, inl, inr, arith}
use Rattle.std.proofs.lemmas.List.{take_rest, take-append-drop, length-drop, append-nil}
use Rattle.levels.specs.Arithmetic.{Arithmetic, Lawful}
use Rattle.levels.specs.Words.{word_sum, word_multiple, code_sum}
use Rattle.levels.specs.Space.{Word, AllWords}
use Rattle.levels.proofs.Leaves.{multiple_legal, sum_legal}
use Rattle.levels.proofs.Lengths.{sum_code}
use Rattle.std.proofs.lemmas.List.{take_all}
use Rattle.levels.specs.Generated.{Generates, SameWords, generated}
use Rattle.levels.specs.Basis.{Echelon}
use Rattle.levels.proofs.Any.{in_range_or_none, none_trans}
use Rattle.levels.proofs.Space.{vector_space}
use Rattle.levels.proofs.Reduced.{space_at, alias_word, differ_back}
use Rattle.levels.proofs.Linear.{gen_nil, gen_flip, add_zero_word}
use Rattle.levels.proofs.Generation.{space, generates_word, generates_sum}
use Rattle.levels.specs.Space.{VectorSpace}
use Rattle.std.specs.Bool.{OnTrue}
use Rattle.std.proofs.Common.{cond}
use Rattle.std.proofs.lemmas.Bool.{cases_Bool, cases_eq, cond-true, cond-false}
use Rattle.std.proofs.lemmas.List.{take-take, drop-take}
use Rattle.preferences.specs.Relation.{EqualAliases, fair}
use Rattle.levels.specs.Basis.{LeastAlias}
use Rattle.levels.proofs.Any.{any_left, any_right}
use Rattle.choice.specs.Search.{NoLater, Covered}
use Rattle.choice.proofs.Sieve.{no_later_trans}
use Rattle.choice.proofs.Sums.{coset_from, coset_to, coset_more}
use Rattle.choice.specs.Choice.{generators, BestGenerators, DependsOnlyOnWords}
use Rattle.choice.specs.Search.{Below, Coset, Leaf, Spread, LedBy, Led, LedAt, Kept, Offered}
use Rattle.levels.proofs.Sets.{holds_in}
use Rattle.choice.proofs.Rows.{same_from_generated}
use Rattle.choice.proofs.Greedy.{Order, judged_order, same_push, generators_length, best_generators, same_generators}
use Rattle.preferences.specs.Relation.{Relation, PreferenceLaws, judged}
use Rattle.choice.proofs.Sums.{leaf_word, spread_word, coset_word, led-fresh, fresh-led}
use Rattle.choice.proofs.Sieve.{offered_none, offered_same, offered_more, kept_generators, offered_stays}

-- a list with a first word is that word and the others
pub words_head : (ws : List ℕ) → 1 ≤ length ws → get_or ws 0 0 ∷ take (length ws - 1) (drop 1 ws) ≡ ws
words_head [] l = absurd (omega arith)
words_head (w ∷ ws) l = ap (λ (us : List ℕ). w ∷ us) (take_rest (w ∷ ws) 1)

-- rows from a place on and those before it generate what they do in their order
pub middle_same : (A : Arithmetic) → Lawful A → (n : ℕ) → VectorSpace A n → (rows shared : List ℕ) (from i : ℕ) → from ≤ i → take from rows ≡ shared →
    (g : ℕ) → (Generates A n (take (i - from) (drop from rows) ++ shared) g → Generates A n (take i rows) g) × (Generates A n (take i rows) g → Generates A n (take (i - from) (drop from rows) ++ shared) g)
middle_same A L n V rows shared from i l e g =
    let middle = take (i - from) (drop from rows) in
    let sum : from + (i - from) ≡ i = omega arith in
    let whole : shared ++ middle ≡ take i rows =
    ap (λ (us : List ℕ). us ++ middle) (sym e ∙ sym (take-take from i rows l)) ∙ ap (λ (us : List ℕ). take from (take i rows) ++ us) (sym (drop-take from (i - from) rows) ∙ ap (λ (k : ℕ). drop from (take k rows)) sum) ∙ take-append-drop from (take i rows) in (
      (λ G. subst (λ us. Generates A n us g) whole (gen_flip (space A L n V) middle shared g G)),
      (λ G. gen_flip (space A L n V) shared middle g (subst (λ us. Generates A n us g) (sym whole) G)),
    )

-- the sum of a word and a leaf, as its code is summed, is the sum of the words
pub leaf_value : (A : Arithmetic) → Lawful A → (n : ℕ) (leaves : List ℕ) (start : ℕ) → Word A n start → AllWords A n leaves → (k sum : ℕ) → k < length leaves → sum ≡ code_sum A start (get_or leaves k 0) → sum ≡ word_sum A n start (get_or leaves k 0)
leaf_value A L n leaves start word words k sum l e = e ∙ sym (sum_code A L n start (get_or leaves k 0) word (words k l))

-- the shared rows find words equal that differ by what they generate
pub shared_law : (A : Arithmetic) → Lawful A → (good : Relation) → PreferenceLaws A good → (n : ℕ) (base known : List ℕ) → generated A n known ≡ generated A n base → (alike : Bool) → OnTrue alike (EqualAliases A good) →
    (a g : ℕ) → Word A n a → Generates A n (cond alike known []) g → (judged A good n base a (word_sum A n a g) ≡ true) × (judged A good n base (word_sum A n a g) a ≡ true)
shared_law A L good laws n base known spans true law a g wa G = elim (cases_Bool (fair A n base)) [
  | inl t ↦
      let p = law n base t a g wa ((same_from_generated A L n known base spans g).0 G) in
      (cond-true (fair A n base) (good n base a (word_sum A n a g)) true t ∙ p.0, cond-true (fair A n base) (good n base (word_sum A n a g) a) true t ∙ p.1)
  | inr f ↦ (cond-false (fair A n base) (good n base a (word_sum A n a g)) true f, cond-false (fair A n base) (good n base (word_sum A n a g) a) true f)
]
shared_law A L good laws n base known spans false law a g wa G =
    let V = space_at A L n a wa in
    let z : g ≡ 0 = gen_nil (space A L n V) g G in
    let same : word_sum A n a g ≡ a = ap (word_sum A n a) z ∙ add_zero_word (space A L n V) a wa in
    let self : judged A good n base a a ≡ true = elim ((judged_order A good laws n base).total a a wa wa) [ inl t ↦ t | inr t ↦ t ] in
    (subst (λ x. judged A good n base a x ≡ true) (sym same) self, subst (λ x. judged A good n base x a ≡ true) (sym same) self)

-- the base list generates what the shared rows do
pub shared_base : (A : Arithmetic) → Lawful A → (n : ℕ) (base known : List ℕ) → generated A n known ≡ generated A n base → (alike : Bool) → (g : ℕ) → Generates A n (cond alike known []) g → Generates A n base g
shared_base A L n base known spans true g G = (same_from_generated A L n known base spans g).0 G
shared_base A L n base known spans false g G = subst (λ us. Generates A n us g) (append-nil base) (any_right A L n (vector_space A L n) base [] g G)

zero_more : (k : ℕ) → k ≡ k + 0
zero_more k = omega arith

one_more : (k d : ℕ) → k + d + 1 ≡ k + suc d
one_more k d = omega arith

module _ (A : Arithmetic) (L : Lawful A) (good : Relation) (laws : PreferenceLaws A good) (n : ℕ) (room : ℕ) (base : List ℕ) where
  abbrev pub at_least : ℕ → ℕ → Bool
  at_least = judged A good n base

  order : Order A n at_least
  order = judged_order A good laws n base

  abbrev pub After : (ℕ → Type 0) → List ℕ → List ℕ → Type 0
  After = Offered A n at_least room base

  -- by no level, none
  pub none_below : (Of : ℕ → ℕ → Type 0) (ours : List ℕ) → Kept A n at_least room base ours → After (Below 0 Of) ours ours
  none_below Of ours k = offered_none A L n at_least order room base (Below 0 Of) ours (λ y m. let l = m.1 in omega arith) k

  -- the smallest of the words that are alike is offered for all of them
  pub offered_alias : (shared : List ℕ) → ((g : ℕ) → Generates A n shared g → Generates A n base g) → ((a g : ℕ) → Word A n a → Generates A n shared g → (at_least a (word_sum A n a g) ≡ true) × (at_least (word_sum A n a g) a ≡ true)) →
      (w r : ℕ) → Word A n w → LeastAlias A n shared w r → (before after : List ℕ) → After (λ y. y ≡ r) before after → After (Coset A n shared w) before after
  offered_alias shared inside law w r ww least before after o = record {
    kept = o.kept;
    covered = λ y h. all y h (o.covered r refl);
    still = o.still;
    from = λ i l. elim (o.from i l) [
      | inl e ↦ inl (coset_to A L n V shared w (get_or after i 0) least.alias.0 ww least.alias.1 (e ∙ least.alias.2))
      | inr h ↦ inr h
    ];
  }
    where
      V : VectorSpace A n
      V = space_at A L n w ww

      wr : Word A n r
      wr = alias_word A L n V shared w r ww least

      all : (y : ℕ) → Coset A n shared w y → Covered A n at_least room base after r → Covered A n at_least room base after y
      all y h c =
          let p = coset_from A L n V shared w y ww h in
          let g = p.0 in
          let b = differ_back A L n V shared w r ww least.alias in
          let e = word_sum A n b.0 g in
          let word = generates_word A L n V shared in
          let E = generates_sum A L n V shared b.0 g b.1 p.1 in
          let same : y ≡ word_sum A n r e = cc (p.2, b.2, V.sum_assoc r b.0 g wr (word b.0 b.1) (word g p.1)) in
          let q = law r e wr E in
          let le = least.least g p.1 in
          let small : r ≤ y = omega (arith, p.2) in
          let wy = coset_word A L n shared w y ww h in
          let no_later : NoLater at_least r y = (subst (λ x. at_least r x ≡ true) (sym same) q.0, λ t. small) in
          record {
            many = c.many;
            within = c.within;
            before = λ j l. no_later_trans A n at_least order (get_or after j 0) r y (o.kept.words j (omega (arith, c.within))) wr wy (c.before j l) no_later;
            known = elim c.known [
              | inl G ↦ inl (subst (Generates A n (base ++ take c.many after)) (sym same)
                  (generates_sum A L n V (base ++ take c.many after) r e G (any_left A L n (vector_space A L n) base (take c.many after) e (inside e E))))
              | inr full ↦ inr full
            ];
          }

  -- a word behind as many kept words as there is room for changes nothing
  pub behind_last : (ours : List ℕ) → Kept A n at_least room base ours → room ≤ length ours → (last w : ℕ) → last ≡ get_or ours (length ours - 1) 0 → Word A n w → NoLater at_least last w → After (λ y. y ≡ w) ours ours
  behind_last ours k full last w is ww later =
      offered_stays A L n at_least order room base ours w (length ours) k (omega arith) before (inr full)
    where
      before : (j : ℕ) → j < length ours → NoLater at_least (get_or ours j 0) w
      before j l = elim (cases_eq j (length ours - 1)) [
        | inl e ↦ subst (λ x. NoLater at_least x w) (is ∙ ap (λ i. get_or ours i 0) (sym e)) later
        | inr d ↦ no_later_trans A n at_least order (get_or ours j 0) last w (k.words j l) (subst (Word A n) (sym is) (k.words (length ours - 1) (omega arith))) ww
            (subst (NoLater at_least (get_or ours j 0)) (sym is) (k.sorted j (length ours - 1) (omega (arith, d)) (omega arith))) later
      ]

  -- nor do the words that are alike, if their smallest code does not
  pub alias_behind : (shared : List ℕ) → ((g : ℕ) → Generates A n shared g → Generates A n base g) → ((a g : ℕ) → Word A n a → Generates A n shared g → (at_least a (word_sum A n a g) ≡ true) × (at_least (word_sum A n a g) a ≡ true)) →
      (ours : List ℕ) → Kept A n at_least room base ours → room ≤ length ours → (last w r : ℕ) → last ≡ get_or ours (length ours - 1) 0 → Word A n w → LeastAlias A n shared w r → NoLater at_least last r → After (Coset A n shared w) ours ours
  alias_behind shared inside law ours k full last w r is ww least later =
      offered_alias shared inside law w r ww least ours ours (behind_last ours k full last r is (alias_word A L n (space_at A L n w ww) shared w r ww least) later)

  module _ (shared : List ℕ) where
    -- one word of a list more
    pub one_of_more : (ws : List ℕ) → AllWords A n ws → (k : ℕ) → k < length ws → (before mid after : List ℕ) → After (Below k (λ i w. (i < length ws) × Coset A n shared (get_or ws i 0) w)) before mid → After (Coset A n shared (get_or ws k 0)) mid after →
        After (Below (k + 1) (λ i w. (i < length ws) × Coset A n shared (get_or ws i 0) w)) before after
    one_of_more ws words k l before mid after p q =
        offered_more A L n at_least order room base k (λ i w. (i < length ws) × Coset A n shared (get_or ws i 0) w) (λ c y e. coset_word A L n shared (get_or ws c 0) y (words c e.0) e.1) before mid after p
        (offered_same A L n at_least order room base (Coset A n shared (get_or ws k 0)) (λ w. (k < length ws) × Coset A n shared (get_or ws k 0) w) mid after (λ y e. (l, e)) (λ y e. e.1) q)

    module _ (leaves : List ℕ) (start : ℕ) (word : Word A n start) (words : AllWords A n leaves) where
      -- one leaf more
      pub leaf_next : (k : ℕ) (before mid after : List ℕ) → After (Below k (Leaf A n shared leaves start)) before mid → After (Leaf A n shared leaves start k) mid after → After (Below (k + 1) (Leaf A n shared leaves start)) before after
      leaf_next k before mid after p q = offered_more A L n at_least order room base k (Leaf A n shared leaves start) (leaf_word A L n leaves words shared start word) before mid after p q

      -- leaves more that change nothing
      leaves_more : (k d : ℕ) (before mid : List ℕ) → After (Below k (Leaf A n shared leaves start)) before mid →
          ((j : ℕ) → k ≤ j → j < k + d → After (Leaf A n shared leaves start j) mid mid) → After (Below (k + d) (Leaf A n shared leaves start)) before mid
      leaves_more k zero before mid p q = subst (λ (i : ℕ). After (Below i (Leaf A n shared leaves start)) before mid) (zero_more k) p
      leaves_more k (suc d) before mid p q =
          subst (λ (i : ℕ). After (Below i (Leaf A n shared leaves start)) before mid) (one_more k d)
          (offered_more A L n at_least order room base (k + d) (Leaf A n shared leaves start) (leaf_word A L n leaves words shared start word) before mid mid
          (leaves_more k d before mid p (λ j l m. q j l (omega arith))) (q (k + d) (omega arith) (omega arith)))

      -- the leaves from one on to another
      pub leaves_behind : (k m : ℕ) → k ≤ m → (before mid : List ℕ) → After (Below k (Leaf A n shared leaves start)) before mid →
          ((j : ℕ) → k ≤ j → j < m → After (Leaf A n shared leaves start j) mid mid) → After (Below m (Leaf A n shared leaves start)) before mid
      leaves_behind k m l before mid p q =
          let all : k + (m - k) ≡ m = omega arith in
          subst (λ (i : ℕ). After (Below i (Leaf A n shared leaves start)) before mid) all (leaves_more k (m - k) before mid p (λ j from less. q j from (omega arith)))

      -- the sums by one level more
      pub spread_more : (level v next : ℕ) → next ≡ word_sum A n start (word_multiple A n level v) → (rest before mid after : List ℕ) →
          After (Below level (λ c. Spread A n shared rest leaves (word_sum A n start (word_multiple A n c v)))) before mid → After (Spread A n shared rest leaves next) mid after →
          After (Below (level + 1) (λ c. Spread A n shared rest leaves (word_sum A n start (word_multiple A n c v)))) before after
      spread_more level v next is rest before mid after p q =
          offered_more A L n at_least order room base level (λ c. Spread A n shared rest leaves (word_sum A n start (word_multiple A n c v)))
          (λ c y. spread_word A L n leaves words shared rest (word_sum A n start (word_multiple A n c v)) y (sum_legal A L n c v start word)) before mid after p
          (subst (λ x. After (Spread A n shared rest leaves x) mid after) is q)

  -- the words led by one level more
  pub led_more : (rows : List ℕ) (lead : ℕ) → Word A n lead → (k start : ℕ) → 0 < k → start ≡ word_multiple A n k lead → (before mid after : List ℕ) →
      After (Below k (LedBy A n rows lead)) before mid → After (Coset A n rows start) mid after → After (Below (k + 1) (LedBy A n rows lead)) before after
  led_more rows lead word k start some e before mid after p q =
      offered_more A L n at_least order room base k (LedBy A n rows lead) (λ c y h. coset_word A L n rows (word_multiple A n c lead) y (multiple_legal A L n c lead lead word) h.1) before mid after p
      (offered_same A L n at_least order room base (Coset A n rows start) (LedBy A n rows lead k) mid after
      (λ y h. (some, subst (λ x. Coset A n rows x y) e h)) (λ y h. subst (λ x. Coset A n rows x y) (sym e) h.1) q)

  -- led over rows that generate the same
  pub led_same : (us vs : List ℕ) → ((g : ℕ) → Generates A n us g → Generates A n vs g) → ((g : ℕ) → Generates A n vs g → Generates A n us g) → (lead : ℕ) → Word A n lead → (before after : List ℕ) → After (Led A n us lead) before after → After (Led A n vs lead) before after
  led_same us vs to back lead word before after o =
      let V = space_at A L n lead word in
      offered_same A L n at_least order room base (Led A n us lead) (Led A n vs lead) before after
      (λ y h. (h.0, h.1, (h.2.0, coset_more A L n V us vs to (word_multiple A n h.0 lead) y (multiple_legal A L n h.0 lead lead word) h.2.1)))
      (λ y h. (h.0, h.1, (h.2.0, coset_more A L n V vs us back (word_multiple A n h.0 lead) y (multiple_legal A L n h.0 lead lead word) h.2.1))) o

  -- by level 0, none
  pub led_none : (rows : List ℕ) (lead : ℕ) (ours : List ℕ) → Kept A n at_least room base ours → After (Below 1 (LedBy A n rows lead)) ours ours
  led_none rows lead ours k = offered_none A L n at_least order room base (Below 1 (LedBy A n rows lead)) ours (λ y m. let l = m.1 in let p = m.2.0 in omega arith) k

  -- the words led by one row more
  pub led_row : (rows : List ℕ) (k i : ℕ) → k ≤ i → Word A n (get_or rows i 0) → (before mid after : List ℕ) →
      After (Below i (LedAt A n rows k)) before mid → After (Led A n (take i rows) (get_or rows i 0)) mid after → After (Below (i + 1) (LedAt A n rows k)) before after
  led_row rows k i l word before mid after p q =
      offered_more A L n at_least order room base i (LedAt A n rows k)
      (λ c y h. coset_word A L n (take c rows) (word_multiple A n h.1.0 (get_or rows c 0)) y (multiple_legal A L n h.1.0 (get_or rows c 0) (get_or rows i 0) word) h.1.2.1) before mid after p
      (offered_same A L n at_least order room base (Led A n (take i rows) (get_or rows i 0)) (LedAt A n rows k i) mid after (λ y h. (l, h)) (λ y h. h.1) q)

  -- by no row, none
  pub led_rows_none : (rows : List ℕ) (k : ℕ) (ours : List ℕ) → Kept A n at_least room base ours → After (Below k (LedAt A n rows k)) ours ours
  led_rows_none rows k ours p = offered_none A L n at_least order room base (Below k (LedAt A n rows k)) ours (λ y m. let l = m.1 in let g = m.2.0 in omega arith) p

-- the end: where the rows that further words add, and all words that these lead, were offered, the kept words are the generators
module _ (A : Arithmetic) (L : Lawful A) (good : Relation) (laws : PreferenceLaws A good) (n : ℕ) (room : ℕ) (base further known rows : List ℕ)
    (spans : generated A n known ≡ generated A n base) (echelon : Echelon A n rows) (front : take (length known) rows ≡ known) (longer : length known ≤ length rows)
    (whole : generated A n rows ≡ generated A n (base ++ further)) (alike : Bool) (space : room ≡ min 16 (length rows - length known)) where
  rows_same : SameWords A n rows (base ++ further)
  rows_same = same_from_generated A L n rows (base ++ further) whole

  known_same : SameWords A n known base
  known_same = same_from_generated A L n known base spans

  -- a code that is new over base is led by a row that was added
  new_led : (y : ℕ) → Generates A n (base ++ further) y → (Generates A n base y → ⊥) → Below (length rows) (LedAt A n rows (length known)) y
  new_led y G new = elim (in_range_or_none A n) [
    | inl r ↦ fresh-led A L n (vector_space A L n r.0 r.1) rows echelon (length known) y longer ((rows_same y).1 G) (λ g. new ((known_same y).0 (subst (λ us. Generates A n us y) front g)))
    | inr z ↦ absurd (new (none_trans A L n z (base ++ further) base y G))
  ]

  -- what the added rows generate with the base list
  added_same : SameWords A n (base ++ drop (length known) rows) (base ++ further)
  added_same w =
      let push = same_push A L n known base (drop (length known) rows) known_same in
      let all : known ++ drop (length known) rows ≡ rows = ap (λ (us : List ℕ). us ++ drop (length known) rows) (sym front) ∙ take-append-drop (length known) rows in
      let same = subst (λ us. SameWords A n us (base ++ drop (length known) rows)) all push in
      ((λ g. (rows_same w).0 ((same w).1 g)), (λ g. (same w).0 ((rows_same w).1 g)))

  pub generators_found : (before ours : List ℕ) → ((i : ℕ) → i < length before → Generates A n rows (get_or before i 0)) →
      After A L good laws n room base (Below (length rows) (LedAt A n rows (length known))) before ours → ours ≡ take 16 (generators A good n base further)
  generators_found before ours made o =
      kept_generators A L n (judged A good n base) (judged_order A good laws n base) room base further ours o.kept
      (λ i l. (rows_same (get_or ours i 0)).0 (elim (o.from i l) [
        | inl b ↦ (led-fresh A L n (space_at A L n (get_or rows b.0 0) (echelon.words b.0 b.1)) rows echelon (length known) (get_or ours i 0) b).0
        | inr h ↦ let p = holds_in before (get_or ours i 0) h in subst (Generates A n rows) p.2 (made p.0 p.1)
      ]))
      (λ y G new. o.covered y (new_led y G new))
      (drop (length known) rows) added_same (omega (arith, length-drop (length known) rows))

-- what is promised of them
module _ (A : Arithmetic) (L : Lawful A) (good : Relation) (n : ℕ) (base further : List ℕ) where
  -- the first 16 generators are all, and what is promised, where there are at most 16 further words
  pub promised : PreferenceLaws A good → (ours : List ℕ) → ours ≡ take 16 (generators A good n base further) → length further ≤ 16 → BestGenerators A good n base further ours
  promised laws ours e few =
      let all = take_all 16 (generators A good n base further) (omega (arith, generators_length A L good n base further)) in
      subst (BestGenerators A good n base further) (sym (e ∙ all)) (best_generators A L good laws n base further)

  -- the choice depends only on what the lists generate
  pub by_words : PreferenceLaws A good → DependsOnlyOnWords A good n base further
  by_words laws base' further' t t' same wanted = sym (same_generators A L good laws n base further base' further' t t' same wanted)
