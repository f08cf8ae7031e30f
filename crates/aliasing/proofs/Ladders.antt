-- Alias sets over rows of ascending code, each with its highest digit at a place of its own: one block for each alias over the larger rows.
use Rattle.std.proofs.Common.{◌≡◌, ℕ, suc, ◌/◌, ◌<◌, ◌≤◌, List, [], ◌∷◌, length, get_or, sym, refl, ap, ◌∙◌, subst, inl, inr, mul-le-mul_left, mul-one, arith, pow_mono}
use Rattle.std.specs.List.{flat_map}
use Rattle.std.proofs.lemmas.Bool.{cases_lt}
use Rattle.levels.specs.Arithmetic.{Arithmetic, Lawful}
use Rattle.levels.specs.Words.{word_sum, word_multiple}
use Rattle.levels.specs.Space.{Word}
use Rattle.levels.specs.Alias.{alias_set}
use Rattle.levels.proofs.Digits.{word_legal}
use Rattle.levels.proofs.Space.{zero_level, multiple_is_word}
use Rattle.levels.proofs.Reduced.{space_at}
use Rattle.levels.proofs.Linear.{gen_split, gen_more}
use Rattle.levels.proofs.Generation.{space, generates_word}
use Rattle.levels.proofs.Places.{In, Distinct, in_each, in_each_from, distinct_each, length_each}
use Rattle.levels.proofs.Ascending.{in_here, in_cons, in_none, in_ascending, in_ascending_from, ascends_same}
use Rattle.levels.proofs.Multiplicity.{in_alias_set, in_alias_set_from, alias_set_ascends}
use Rattle.levels.proofs.Sets.{ascending_rising, rising_places}
use Rattle.aliasing.specs.Blocks.{sums_below, block}
use Rattle.aliasing.proofs.Heights.{power, top, Over, over_lt, lt_over, over_lower, sum_high, multiple_low, sums_apart}
use Rattle.aliasing.proofs.Joins.{Ordered, in_joined, in_joined_from, Even, joined-ordered, distinct_length}

-- a higher place has a larger power
pub power_up : (A : Arithmetic) (j k : ℕ) → j ≤ k → power A j ≤ power A k
power_up A j k l = pow_mono (mul-le-mul_left A.bits l)

-- so a smaller power belongs to a lower place
pub power_down : (A : Arithmetic) (j k : ℕ) → power A j < power A k → j < k
power_down A j k l = elim (cases_lt j k) [ inl h ↦ h | inr g ↦ absurd (let m = power_up A k j g in omega arith) ]

-- words other than 0, with a place between each and every later one
abbrev pub Ladder : Arithmetic → ℕ → List ℕ → Type 0
Ladder A n [] = Unit {0}
Ladder A n (v ∷ us) = Word A n v × (0 < v) × ((w : ℕ) → In w us → (k : ℕ) × (v < power A k) × (power A k ≤ w)) × Ladder A n us

module _ (A : Arithmetic) (L : Lawful A) (n : ℕ) where
  -- a sum is among the sums
  pub in_sums : (v y c : ℕ) → c < A.s → In (word_sum A n y (word_multiple A n c v)) (sums_below A n A.s v y)
  in_sums v y c lc =
      let z = word_sum A n y (word_multiple A n c v) in
      in_each A.s (λ c. word_sum A n y (word_multiple A n c v) ∷ []) c z lc (in_here z [])

  -- and there is nothing else among them
  pub in_sums_from : (v y z : ℕ) → In z (sums_below A n A.s v y) → (c : ℕ) × (c < A.s) × (z ≡ word_sum A n y (word_multiple A n c v))
  in_sums_from v y z p =
      let q = in_each_from A.s (λ c. word_sum A n y (word_multiple A n c v) ∷ []) z p in
      (q.0, q.1, elim (in_cons (word_sum A n y (word_multiple A n q.0 v)) z [] q.2) [ inl e ↦ sym e | inr r ↦ absurd (in_none z r) ])

  -- the same of a block
  pub in_block_from : (v y z : ℕ) → In z (block A n v y) → (c : ℕ) × (c < A.s) × (z ≡ word_sum A n y (word_multiple A n c v))
  in_block_from v y z p = in_sums_from v y z (in_ascending_from (sums_below A n A.s v y) z p)

  -- a block changes nothing above a place that is above its row
  block_high : (k v y z : ℕ) → Word A n v → v < power A k → Word A n y → In z (block A n v y) → z / power A k ≡ y / power A k
  block_high k v y z hv l hy p =
      let q = in_block_from v y z p in
      let c = q.0 in
      ap (λ w. w / power A k) q.2
      ∙ sum_high A L n k y (word_multiple A n c v) hy (multiple_is_word A L n c v q.1 hv) (multiple_low A L n k c v q.1 hv l)

  module _ (v y : ℕ) (hv : Word A n v) (pv : 0 < v) (hy : Word A n y) where
    -- no two sums are equal
    pub sums-distinct : Distinct (sums_below A n A.s v y)
    sums-distinct =
        let t = top A n v (word_legal A n v hv).below pv in
        distinct_each A.s (λ c. word_sum A n y (word_multiple A n c v) ∷ [])
        (λ c l i j li lj e. omega arith)
        (λ c d x lc ld p q.
        let e : word_sum A n y (word_multiple A n c v) ≡ word_sum A n y (word_multiple A n d v) = one c x p ∙ sym (one d x q) in
        sums_apart A L n t.0 v y c d t.1 hv t.2 t.3 hy lc ld (ap (λ w. w / power A t.0) e))
      where
        one : (c x : ℕ) → In x (word_sum A n y (word_multiple A n c v) ∷ []) → word_sum A n y (word_multiple A n c v) ≡ x
        one c x p = elim (in_cons (word_sum A n y (word_multiple A n c v)) x [] p) [ inl e ↦ e | inr r ↦ absurd (in_none x r) ]

    -- there are s of them
    pub sums-length : length (sums_below A n A.s v y) ≡ A.s
    sums-length = length_each A.s 1 (λ c. word_sum A n y (word_multiple A n c v) ∷ []) (λ c. refl) ∙ mul-one A.s

    -- and as many in a block
    pub block-length : length (block A n v y) ≡ A.s
    block-length = distinct_length (sums_below A n A.s v y) sums-distinct ∙ sums-length

    -- a block ascends above the place of the row's highest digit
    pub block-ordered : (k : ℕ) → k < n → power A k ≤ v → v < power A (suc k) → Ordered (Over A k) (block A n v y)
    block-ordered k l low high i j lt m =
        let B = block A n v y in
        let less = rising_places B (ascending_rising (sums_below A n A.s v y)) i j lt m in
        let p = in_block_from v y (get_or B i 0) (i, omega arith, refl) in
        let q = in_block_from v y (get_or B j 0) (j, m, refl) in
        lt_over A k (get_or B i 0) (get_or B j 0) less
        (λ e. let s = sums_apart A L n k v y p.0 q.0 l hv low high hy p.1 q.1
        (ap (λ w. w / power A k) (sym p.2) ∙ e ∙ ap (λ w. w / power A k) q.2) in
        let same : get_or B i 0 ≡ get_or B j 0 = p.2 ∙ ap (λ c. word_sum A n y (word_multiple A n c v)) s ∙ sym q.2 in
        omega arith)

  module _ (x : ℕ) (hx : Word A n x) where
    -- every alias is a word
    pub alias-is-word : (us : List ℕ) (y : ℕ) → In y (alias_set A n us x) → Word A n y
    alias-is-word us y p =
        let V = space_at A L n x hx in
        let q = in_alias_set_from A L n us x y p in
        rw q.2 (V.sum_word x q.0 hx (generates_word A L n V us q.0 q.1))

    -- a multiple of one more row is added before or after
    swap : (b c v : ℕ) → Word A n b → c < A.s → Word A n v → word_sum A n x (word_sum A n (word_multiple A n c v) b) ≡ word_sum A n (word_sum A n x b) (word_multiple A n c v)
    swap b c v hb lc hv =
        let V = space_at A L n x hx in
        let m = word_multiple A n c v in
        let hm = multiple_is_word A L n c v lc hv in
        cc (V.sum_comm m b hm hb, V.sum_assoc x b m hx hb hm)

    module _ (v : ℕ) (us : List ℕ) (hv : Word A n v) (pv : 0 < v) where
      -- an alias over one more row is in the block of an alias
      into-blocks : (z : ℕ) → In z (alias_set A n (v ∷ us) x) → In z (flat_map (block A n v) (alias_set A n us x))
      into-blocks z p =
          let V = space_at A L n x hx in
          let q = in_alias_set_from A L n (v ∷ us) x z p in
          let g = gen_split (space A L n V) v us q.0 q.1 in
          let c = g.0 in
          let b = g.1 in
          let hb = generates_word A L n V us b g.3 in
          let y = word_sum A n x b in
          let e : z ≡ word_sum A n y (word_multiple A n c v) = q.2 ∙ ap (word_sum A n x) g.4 ∙ swap b c v hb g.2 hv in
          in_joined (block A n v) (alias_set A n us x) y z (in_alias_set A L n us x b g.3)
          (in_ascending (sums_below A n A.s v y) z (subst (λ w. In w (sums_below A n A.s v y)) (sym e) (in_sums v y c g.2)))

      -- and what is in such a block is an alias
      from-blocks : (z : ℕ) → In z (flat_map (block A n v) (alias_set A n us x)) → In z (alias_set A n (v ∷ us) x)
      from-blocks z p =
          let V = space_at A L n x hx in
          let q = in_joined_from (block A n v) (alias_set A n us x) z p in
          let y = q.0 in
          let a = in_alias_set_from A L n us x y q.1 in
          let b = a.0 in
          let hb = generates_word A L n V us b a.1 in
          let s = in_block_from v y z q.2 in
          let c = s.0 in
          let e : z ≡ word_sum A n x (word_sum A n (word_multiple A n c v) b) =
          s.2 ∙ ap (λ w. word_sum A n w (word_multiple A n c v)) a.2 ∙ sym (swap b c v hb s.1 hv) in
          subst (λ w. In w (alias_set A n (v ∷ us) x)) (sym e) (in_alias_set A L n (v ∷ us) x (word_sum A n (word_multiple A n c v) b) (gen_more (space A L n V) c v us b a.1))

      -- every block has s numbers
      pub blocks-even : Even (block A n v) A.s (alias_set A n us x)
      blocks-even i l = let y = get_or (alias_set A n us x) i 0 in block-length v y hv pv (alias-is-word us y (i, l, refl))

      module _ (k : ℕ) (lk : k < n) (low : power A k ≤ v) (high : v < power A (suc k)) (order : Ordered (Over A (suc k)) (alias_set A n us x)) where
        -- the blocks ascend above the place of the row's highest digit
        blocks-ordered : Ordered (Over A k) (flat_map (block A n v) (alias_set A n us x))
        blocks-ordered =
            joined-ordered (block A n v) A.s (zero_level A L) (Over A (suc k)) (Over A k) (alias_set A n us x) blocks-even order
            (λ i l. let y = get_or (alias_set A n us x) i 0 in block-ordered v y hv pv (alias-is-word us y (i, l, refl)) k lk low high)
            (λ y y' a b p p' o q q'.
            let e = block_high (suc k) v y a hv high (alias-is-word us y p) q in
            let e' = block_high (suc k) v y' b hv high (alias-is-word us y' p') q' in
            over_lower A (suc k) k a b (omega arith) (omega arith))

        -- and are the alias set over one more row
        pub blocks-same : alias_set A n (v ∷ us) x ≡ flat_map (block A n v) (alias_set A n us x)
        blocks-same =
            let J = flat_map (block A n v) (alias_set A n us x) in
            ascends_same (alias_set A n (v ∷ us) x) J (alias_set_ascends A L n (v ∷ us) x)
            (λ i l. over_lt A k (get_or J i 0) (get_or J (suc i) 0) (blocks-ordered i (suc i) (omega arith) l))
            into-blocks from-blocks

    -- all later rows are above the place next to the highest digit of a row
    rows_above : (v : ℕ) (us : List ℕ) → Ladder A n (v ∷ us) → (k : ℕ) → power A k ≤ v → (w : ℕ) → In w us → power A (suc k) ≤ w
    rows_above v us h k low w p =
        let q = h.2 w p in
        let l = q.1 in
        let g = q.2 in
        let m = power_up A (suc k) q.0 (power_down A k q.0 (omega arith)) in
        omega arith

    -- an alias set ascends above each place that is not above the rows
    pub ladder-ordered : (us : List ℕ) → Ladder A n us → (k : ℕ) → ((w : ℕ) → In w us → power A k ≤ w) → Ordered (Over A k) (alias_set A n us x)
    ladder-ordered [] h k low = λ i j l m. absurd (omega arith)
    ladder-ordered (v ∷ us) h k low =
        let t = top A n v (word_legal A n v h.0).below h.1 in
        let j = t.0 in
        let up = ladder-ordered us h.3 (suc j) (rows_above v us h j t.2) in
        let le : k ≤ j = let l = low v (in_here v us) in let g = t.3 in let m = power_down A k (suc j) (omega arith) in omega arith in
        rw (blocks-same v us h.0 h.1 j t.1 t.2 t.3 up)
        (λ p q l m. over_lower A j k (get_or (flat_map (block A n v) (alias_set A n us x)) p 0) (get_or (flat_map (block A n v) (alias_set A n us x)) q 0) le
        (blocks-ordered v us h.0 h.1 j t.1 t.2 t.3 up p q l m))

    -- the alias set over one more row: one block for each alias
    pub ladder-blocks : (v : ℕ) (us : List ℕ) → Ladder A n (v ∷ us) → alias_set A n (v ∷ us) x ≡ flat_map (block A n v) (alias_set A n us x)
    ladder-blocks v us h =
        let t = top A n v (word_legal A n v h.0).below h.1 in
        let j = t.0 in
        blocks-same v us h.0 h.1 j t.1 t.2 t.3 (ladder-ordered us h.3 (suc j) (rows_above v us h j t.2))
