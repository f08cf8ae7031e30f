-- The words that the search goes through are the fresh words.
use Rattle.std.proofs.Common.{◌≡◌, ℕ, zero, suc, ◌<◌, ◌≤◌, List, [], ◌∷◌, ◌++◌, length, get_or, take, drop, sym, refl, ap, ◌∙◌, subst, inl, inr, add-one, arith}
use Rattle.std.proofs.lemmas.Bool.{cases_eq, cases_lt}
use Rattle.std.proofs.lemmas.List.{append-nil, get_or_past, take_all, take-append-drop, take_more, take-take}
use Rattle.levels.specs.Arithmetic.{Arithmetic, Lawful}
use Rattle.levels.specs.Words.{word_sum, word_multiple, code_sum}
use Rattle.levels.specs.Space.{Word, AllWords, VectorSpace}
use Rattle.levels.specs.Generated.{Generates, combinations}
use Rattle.levels.specs.Basis.{Echelon}
use Rattle.levels.proofs.Linear.{add_zero_word, gen_nil, gen_more, gen_split, gen_without, solve}
use Rattle.levels.proofs.Generation.{space, generates_word, generates_zero, generates_sum, generates_multiple, generates_place, generates_left, generates_front, independent_before}
use Rattle.levels.proofs.Growth.{echelon_independent}
use Rattle.levels.proofs.Any.{any_combination, any_generated}
use Rattle.levels.proofs.Places.{In}
use Rattle.levels.proofs.Space.{vector_space}
use Rattle.levels.proofs.Leaves.{multiple_legal, sum_legal, code_legal}
use Rattle.levels.proofs.Reduced.{space_at}
use Rattle.choice.specs.Search.{Below, Coset, Leaf, Spread, LedAt}

module _ (A : Arithmetic) (L : Lawful A) (n : ℕ) where
  -- a sum of a word and multiples is a word
  pub coset_word : (rows : List ℕ) (start w : ℕ) → Word A n start → Coset A n rows start w → Word A n w
  coset_word [] start w hs e = subst (Word A n) (sym e) hs
  coset_word (v ∷ vs) start w hs h = coset_word vs (word_sum A n start (word_multiple A n h.0 v)) w (sum_legal A L n h.0 v start hs) h.2

  -- the sum of the codes of a start and a multiple is the sum of the words
  pub next_start : (c v start product next : ℕ) → Word A n start → product ≡ word_multiple A n c v → next ≡ code_sum A start product → next ≡ word_sum A n start (word_multiple A n c v)
  next_start c v start product next hs p e = e ∙ ap (code_sum A start) p ∙ code_legal A L n c v start hs

module _ (A : Arithmetic) (L : Lawful A) (n : ℕ) (V : VectorSpace A n) where
  -- a sum of a word and multiples is the sum of the word and a generated one
  pub coset_from : (rows : List ℕ) (start w : ℕ) → Word A n start → Coset A n rows start w → (g : ℕ) × Generates A n rows g × (w ≡ word_sum A n start g)
  coset_from [] start w hs e = (0, generates_zero A L n V [], e ∙ sym (add_zero_word (space A L n V) start hs))
  coset_from (v ∷ vs) start w hs h =
      let m = word_multiple A n h.0 v in
      let p = coset_from vs (word_sum A n start m) w (sum_legal A L n h.0 v start hs) h.2 in (
        word_sum A n m p.0,
        gen_more (space A L n V) h.0 v vs p.0 p.1,
        p.2 ∙ V.sum_assoc start m p.0 hs (multiple_legal A L n h.0 v start hs) (generates_word A L n V vs p.0 p.1),
      )

  -- and back
  pub coset_to : (rows : List ℕ) (start w g : ℕ) → Word A n start → Generates A n rows g → w ≡ word_sum A n start g → Coset A n rows start w
  coset_to [] start w g hs G e = e ∙ ap (word_sum A n start) (gen_nil (space A L n V) g G) ∙ add_zero_word (space A L n V) start hs
  coset_to (v ∷ vs) start w g hs G e =
      let p = gen_split (space A L n V) v vs g G in
      let m = word_multiple A n p.0 v in
      let same = V.sum_assoc start m p.1 hs (multiple_legal A L n p.0 v start hs) (generates_word A L n V vs p.1 p.3) in
      (p.0, p.2, coset_to vs (word_sum A n start m) w p.1 (sum_legal A L n p.0 v start hs) p.3 (e ∙ ap (word_sum A n start) p.4 ∙ sym same))

  -- the sums of a word and multiples of some rows, and of those and multiples of others
  pub coset_join : (us vs : List ℕ) (start m w : ℕ) → Coset A n us start m → Coset A n vs m w → Coset A n (us ++ vs) start w
  coset_join [] vs start m w e h = subst (λ x. Coset A n vs x w) e h
  coset_join (u ∷ us) vs start m w g h = (g.0, g.1, coset_join us vs (word_sum A n start (word_multiple A n g.0 u)) m w g.2 h)

  -- and back
  pub coset_part : (us vs : List ℕ) (start w : ℕ) → Coset A n (us ++ vs) start w → (m : ℕ) × Coset A n us start m × Coset A n vs m w
  coset_part [] vs start w h = (start, refl, h)
  coset_part (u ∷ us) vs start w h = let p = coset_part us vs (word_sum A n start (word_multiple A n h.0 u)) w h.2 in (p.0, (h.0, h.1, p.1), p.2)

  -- rows that generate as much make as many sums
  pub coset_more : (us vs : List ℕ) → ((g : ℕ) → Generates A n us g → Generates A n vs g) → (start w : ℕ) → Word A n start → Coset A n us start w → Coset A n vs start w
  coset_more us vs more start w hs h = let p = coset_from us start w hs h in coset_to vs start w p.0 hs (more p.0 p.1) p.2

  -- the sums of a word and all sums of multiples of the rows are those of the word and multiples of the rows
  leaf_coset : (rows leaves : List ℕ) (start : ℕ) → Word A n start → leaves ≡ combinations A n rows → (k : ℕ) → k < length leaves → Coset A n rows start (word_sum A n start (get_or leaves k 0))
  leaf_coset rows leaves start hs e k l =
      let at : In (get_or leaves k 0) (combinations A n rows) = subst (In (get_or leaves k 0)) e (k, l, refl) in
      coset_to rows start (word_sum A n start (get_or leaves k 0)) (get_or leaves k 0) hs (any_generated A L n (vector_space A L n) rows (get_or leaves k 0) at) refl

  -- and back
  coset_leaf : (rows leaves : List ℕ) (start : ℕ) → Word A n start → leaves ≡ combinations A n rows → (w : ℕ) → Coset A n rows start w → (k : ℕ) × (k < length leaves) × (w ≡ word_sum A n start (get_or leaves k 0))
  coset_leaf rows leaves start hs e w h =
      let p = coset_from rows start w hs h in
      let at : In p.0 leaves = subst (In p.0) (sym e) (any_combination A L n (vector_space A L n) rows p.0 p.1) in
      (at.0, at.1, p.2 ∙ ap (word_sum A n start) (sym at.2))

  -- the same with multiples of the shared rows, and of further words before them
  pub spread_coset : (words rows shared leaves : List ℕ) (start : ℕ) → Word A n start → leaves ≡ combinations A n rows → (w : ℕ) → Spread A n shared words leaves start w → Coset A n (words ++ (rows ++ shared)) start w
  spread_coset [] rows shared leaves start hs e w h = coset_join rows shared start (word_sum A n start (get_or leaves h.0 0)) w (leaf_coset rows leaves start hs e h.0 h.1) h.2
  spread_coset (v ∷ vs) rows shared leaves start hs e w h =
      (h.0, h.1, spread_coset vs rows shared leaves (word_sum A n start (word_multiple A n h.0 v)) (sum_legal A L n h.0 v start hs) e w h.2)

  -- and back
  pub coset_spread : (words rows shared leaves : List ℕ) (start : ℕ) → Word A n start → leaves ≡ combinations A n rows → (w : ℕ) → Coset A n (words ++ (rows ++ shared)) start w → Spread A n shared words leaves start w
  coset_spread [] rows shared leaves start hs e w h =
      let p = coset_part rows shared start w h in
      let k = coset_leaf rows leaves start hs e p.0 p.1 in
      (k.0, k.1, subst (λ x. Coset A n shared x w) k.2 p.2)
  coset_spread (v ∷ vs) rows shared leaves start hs e w h =
      (h.0, h.1, coset_spread vs rows shared leaves (word_sum A n start (word_multiple A n h.0 v)) (sum_legal A L n h.0 v start hs) e w h.2)

  module _ (rows : List ℕ) (echelon : Echelon A n rows) where
    -- what the first rows generate, more of them generate too
    more_rows : (i j : ℕ) → i ≤ j → (w : ℕ) → Generates A n (take i rows) w → Generates A n (take j rows) w
    more_rows i j l w G =
        let front : take i (take j rows) ≡ take i rows = take-take i j rows l in
        subst (λ us. Generates A n us w) (take-append-drop i (take j rows))
        (generates_left A L n V (take i (take j rows)) (drop i (take j rows)) w (subst (λ us. Generates A n us w) (sym front) G))

    -- a word that is led by a row from place k on is generated, and not by the first k rows
    pub led-fresh : (k w : ℕ) → Below (length rows) (LedAt A n rows k) w → Generates A n rows w × (Generates A n (take k rows) w → ⊥)
    led-fresh k w h =
        let i = h.0 in
        let v = get_or rows i 0 in
        let c = h.2.1.0 in
        let hv = echelon.words i h.1 in
        let m = word_multiple A n c v in
        let hm = multiple_legal A L n c v v hv in
        let p = coset_from (take i rows) m w hm h.2.1.2.1 in
        let g = p.0 in
        let whole : (x : ℕ) → Generates A n (take i rows) x → Generates A n rows x = λ x G. subst (λ us. Generates A n us x) (take-append-drop i rows) (generates_left A L n V (take i rows) (drop i rows) x G) in (
          subst (Generates A n rows) (sym p.2) (generates_sum A L n V rows m g (generates_multiple A L n V rows c v (generates_place A L n V rows i hv)) (whole g p.1)),
          (λ G. independent_before A L n V rows (echelon_independent A L n rows echelon) i h.1
              (gen_without (space A L n V) w (take i rows) v (more_rows k i h.2.0 w G)
              (subst (λ x. Generates A n (x ∷ take i rows) v) (sym p.2) (solve (space A L n V) (take i rows) c v g h.2.1.1 h.2.1.2.0 hv p.1)))),
        )

    -- a word that the first j rows generate, and the first k do not, is led by a row from place k on
    led-below : (k j w : ℕ) → k ≤ j → j ≤ length rows → Generates A n (take j rows) w → (Generates A n (take k rows) w → ⊥) → Below j (LedAt A n rows k) w
    led-below k zero w l m G new = let e : 0 ≡ k = omega arith in absurd (new (subst (λ i. Generates A n (take i rows) w) e G))
    led-below k (suc j) w l m G new =
        elim (cases_eq k (suc j)) [
          | inl e ↦ absurd (new (subst (λ i. Generates A n (take i rows) w) (sym e) G))
          | inr d ↦
              let v = get_or rows j 0 in
              let us = take j rows in
              let hv = echelon.words j (omega arith) in
              let all : Generates A n (us ++ v ∷ []) w = subst (λ xs. Generates A n xs w) (ap (λ i. take i rows) (sym (add-one j)) ∙ take_more rows j 0 (omega arith)) G in
              let p = gen_split (space A L n V) v us w (subst (λ xs. Generates A n (v ∷ xs) w) (append-nil us) (generates_front A L n V us v [] w all)) in
              let c = p.0 in
              let g = p.1 in
              elim (cases_eq c 0) [
                | inl z ↦
                    let same : w ≡ g = p.4 ∙ ap (λ i. word_sum A n (word_multiple A n i v) g) z ∙ ap (λ x. word_sum A n x g) (V.multiple_zero v hv) ∙ V.sum_zero g (generates_word A L n V us g p.3) in
                    let r = led-below k j w (omega (arith, d)) (omega arith) (subst (Generates A n us) (sym same) p.3) new in
                    let below = r.1 in (r.0, omega arith, r.2)
                | inr nz ↦ (j, omega arith, (omega (arith, d), (c, p.2, (omega (arith, nz), coset_to us (word_multiple A n c v) w g (multiple_legal A L n c v v hv) p.3 p.4))))
              ]
        ]

    -- so is every word that all rows generate and the first k do not
    pub fresh-led : (k w : ℕ) → k ≤ length rows → Generates A n rows w → (Generates A n (take k rows) w → ⊥) → Below (length rows) (LedAt A n rows k) w
    fresh-led k w l G = led-below k (length rows) w l (omega arith) (subst (λ xs. Generates A n xs w) (sym (take_all (length rows) rows (omega arith))) G)

module _ (A : Arithmetic) (L : Lawful A) (n : ℕ) (leaves : List ℕ) (words : AllWords A n leaves) where
  -- the sum of a word and what stands at any place is a word
  pub leaf_sum : (start : ℕ) → Word A n start → (k : ℕ) → Word A n (word_sum A n start (get_or leaves k 0))
  leaf_sum start word k =
      let V = space_at A L n start word in
      let leaf : Word A n (get_or leaves k 0) = elim (cases_lt k (length leaves)) [ inl l ↦ words k l | inr g ↦ subst (Word A n) (sym (get_or_past leaves k 0 g)) V.zero_word ] in
      V.sum_word start (get_or leaves k 0) word leaf

  -- so is the sum with multiples of shared rows
  pub leaf_word : (shared : List ℕ) (start : ℕ) → Word A n start → (k y : ℕ) → Leaf A n shared leaves start k y → Word A n y
  leaf_word shared start word k y h = coset_word A L n shared (word_sum A n start (get_or leaves k 0)) y (leaf_sum start word k) h

  -- and the sum with multiples of codes too
  pub spread_word : (shared vs : List ℕ) (start y : ℕ) → Word A n start → Spread A n shared vs leaves start y → Word A n y
  spread_word shared [] start y word h = leaf_word shared start word h.0 y h.2
  spread_word shared (v ∷ vs) start y word h = spread_word shared vs (word_sum A n start (word_multiple A n h.0 v)) y (sum_legal A L n h.0 v start word) h.2
