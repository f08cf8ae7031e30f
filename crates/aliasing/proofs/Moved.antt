-- Alias sets moved by a word: where its digits are 0 at the highest digits of what rows generate, their order stays.
use Rattle.std.proofs.Common.{◌≡◌, ℕ, suc, ◌+◌, ◌*◌, ◌/◌, ◌%◌, ◌^◌, ◌<◌, ◌≤◌, List, [], ◌∷◌, map, length, get_or, sym, refl, ap, ◌∙◌, subst, inl, inr, zero-mul, mul-suc, arith}
use native.Mathlib.Nat.{div-eq_of_lt, lt-div-mul-add, zero-div, zero-mod}
use Rattle.std.specs.List.{flat_map}
use Rattle.std.proofs.lemmas.Nat.{shr-shr, div-add-mod'}
use Rattle.std.proofs.lemmas.List.{get_or-map, length-map}
use Rattle.std.proofs.lemmas.Bool.{cases_eq}
use Rattle.levels.specs.Arithmetic.{Arithmetic, Lawful}
use Rattle.levels.specs.Words.{word_sum, word_multiple}
use Rattle.levels.specs.Space.{Word}
use Rattle.levels.specs.Generated.{Generates}
use Rattle.levels.specs.Basis.{Smallest}
use Rattle.levels.specs.Alias.{alias_set}
use Rattle.levels.proofs.Digits.{word_legal}
use Rattle.levels.proofs.Space.{times_zero, zero_level, multiple_is_word}
use Rattle.levels.proofs.Reduced.{space_at, generates_opposite}
use Rattle.levels.proofs.Linear.{add_zero_word, gen_nil, gen_split, gen_more}
use Rattle.levels.proofs.Generation.{space, generates_word, generates_zero, generates_sum, generates_multiple}
use Rattle.levels.proofs.Places.{In, in_map, in_map_from}
use Rattle.levels.proofs.Ascending.{in_here, in_later, in_ascending, ascends_same}
use Rattle.levels.proofs.Multiplicity.{in_alias_set, in_alias_set_from, alias_set_ascends}
use Rattle.levels.proofs.Sets.{ascending_rising, rising_places}
use Rattle.levels.specs.Generated.{generated}
use Rattle.aliasing.specs.Blocks.{sums_below, block}
use Rattle.aliasing.proofs.Heights.{power, power_pos, top, digit, digit_level, digit_sum, Over, over_lt, lt_over, sum_high, multiple_low, sums_apart, cancels_digit}
use Rattle.aliasing.proofs.Joins.{Ordered, in_joined, in_joined_from, joined-ordered}
use Rattle.aliasing.proofs.Ladders.{in_sums, in_block_from, block-ordered, alias-is-word}

-- what is left of a code above a place, by its digit there
split : (A : Arithmetic) (k w : ℕ) → w / power A k ≡ w / power A (suc k) * 2 ^ A.bits + digit A k w
split A k w =
    sym (div-add-mod' (w / power A k) (2 ^ A.bits))
    ∙ ap (λ q. q * 2 ^ A.bits + digit A k w) (shr-shr w (A.bits * k) A.bits ∙ ap (λ j. w / 2 ^ j) (sym (mul-suc A.bits k)))

module _ (A : Arithmetic) (L : Lawful A) (n : ℕ) where
  -- the digit of a sum
  digit_add : (k a b : ℕ) → k < n → Word A n a → Word A n b → digit A k (word_sum A n a b) ≡ A.plus (digit A k a) (digit A k b)
  digit_add k a b l ha hb =
      let V = space_at A L n b hb in
      cc (digit_sum A L n k a 1 b l ha hb L.field.two_levels, V.multiple_one b hb, L.field.times_one (digit A k b) (digit_level A L n k b l hb))

  -- a word that no multiple of another makes smaller has digit 0 at the other's highest digit
  pub least_digit : (k v z : ℕ) → k < n → Word A n v → Word A n z → power A k ≤ v → v < power A (suc k) → Smallest A n v z → digit A k z ≡ 0
  least_digit k v z l hv hz low high small =
      let r = cancels_digit A L n k z v l hz hv low high in
      let c = r.0 in
      let lc = r.1 in
      let none = r.2 in
      let m = word_multiple A n c v in
      let z' = word_sum A n z m in
      let same : z' / power A (suc k) ≡ z / power A (suc k) =
      sum_high A L n (suc k) z m hz (multiple_is_word A L n c v lc hv) (multiple_low A L n (suc k) c v lc hv high) in
      elim (cases_eq (digit A k z) 0) [
        | inl e ↦ e
        | inr d ↦
            let over : Over A k z' z = omega (arith, split A k z', split A k z, ap (λ q. q * 2 ^ A.bits) same, none, d) in
            absurd (let lt = over_lt A k z' z over in let le = small c lc in omega arith)
      ]

  -- a word with digit 0 at a place moves words that are alike above it in their order
  over_moved : (k c y y' : ℕ) → k < n → Word A n c → Word A n y → Word A n y' → digit A k c ≡ 0 → y / power A (suc k) ≡ y' / power A (suc k) →
      word_sum A n c y / power A (suc k) ≡ word_sum A n c y' / power A (suc k) → Over A k y y' → Over A k (word_sum A n c y) (word_sum A n c y')
  over_moved k c y y' l hc hy hy' none same moved over =
      let F = L.field in
      let e : digit A k (word_sum A n c y) ≡ digit A k y = cc (digit_add k c y l hc hy, none, F.plus_zero (digit A k y) (digit_level A L n k y l hy)) in
      let e' : digit A k (word_sum A n c y') ≡ digit A k y' = cc (digit_add k c y' l hc hy', none, F.plus_zero (digit A k y') (digit_level A L n k y' l hy')) in
      omega (
        arith,
        split A k y,
        split A k y',
        split A k (word_sum A n c y),
        split A k (word_sum A n c y'),
        ap (λ q. q * 2 ^ A.bits) same,
        ap (λ q. q * 2 ^ A.bits) moved,
        e,
        e',
      )

  -- a word's digits are 0 at the highest digit of each word that a list generates
  abbrev pub Cleared : List ℕ → ℕ → Type 0
  Cleared us c = (d k : ℕ) → Generates A n us d → k < n → power A k ≤ d → d < power A (suc k) → digit A k c ≡ 0

  -- so it is where no generated word makes the word smaller
  pub cleared_least : (us : List ℕ) (c : ℕ) → Word A n c → ((g : ℕ) → Generates A n us g → c ≤ word_sum A n c g) → Cleared us c
  cleared_least us c hc least d k G l low high =
      let V = space_at A L n c hc in
      least_digit k d c l (generates_word A L n V us d G) hc low high (λ e le. least (word_multiple A n e d) (generates_multiple A L n V us e d G))

  -- then it is so of its multiples
  cleared_multiple : (us : List ℕ) (c v : ℕ) → c < A.s → Word A n v → Cleared us v → Cleared us (word_sum A n 0 (word_multiple A n c v))
  cleared_multiple us c v lc hv clear d k G l low high =
      let V = space_at A L n v hv in
      let z = zero_level A L in
      let none : digit A k 0 ≡ 0 = ap (λ q. q % 2 ^ A.bits) (zero-div (power A k)) ∙ zero-mod (2 ^ A.bits) in
      cc (
        digit_sum A L n k 0 c v l V.zero_word hv lc,
        clear d k G l low high,
        none,
        L.field.times_comm c 0 lc z,
        times_zero A L c lc,
        L.field.plus_zero 0 z,
      )

  -- what words below a place generate is below it
  pub generated_low : (us : List ℕ) (k x : ℕ) → Word A n x → ((u : ℕ) → In u us → Word A n u × (u < power A k)) → (g : ℕ) → Generates A n us g → g < power A k
  generated_low [] k x hx low g G = let z = gen_nil (space A L n (space_at A L n x hx)) g G in omega (arith, power_pos A k)
  generated_low (u ∷ us) k x hx low g G =
      let V = space_at A L n x hx in
      let q = gen_split (space A L n V) u us g G in
      let m = word_multiple A n q.0 u in
      let h = low u (in_here u us) in
      let hm = V.multiple_word q.0 u q.2 h.0 in
      let lb = generated_low us k x hx (λ w p. low w (in_later u w us p)) q.1 q.3 in
      let e : g / power A k ≡ 0 =
      ap (λ w. w / power A k) q.4
      ∙ sum_high A L n k m q.1 hm (generates_word A L n V us q.1 q.3) lb
      ∙ div-eq_of_lt (multiple_low A L n k q.0 u q.2 h.0 h.1) in
      omega (arith, lt-div-mul-add {a = g} {b = power A k} (power_pos A k), ap (λ q. q * power A k) e, zero-mul (power A k))

  module _ (us : List ℕ) (x : ℕ) (hx : Word A n x) where
    -- of two aliases one is the other and a generated word
    apart : (y y' : ℕ) → In y (alias_set A n us x) → In y' (alias_set A n us x) → (d : ℕ) × Generates A n us d × (y' ≡ word_sum A n y d)
    apart y y' p p' =
        let V = space_at A L n x hx in
        let q = in_alias_set_from A L n us x y p in
        let q' = in_alias_set_from A L n us x y' p' in
        let g = q.0 in
        let g' = q'.0 in
        let hg = generates_word A L n V us g q.1 in
        let hg' = generates_word A L n V us g' q'.1 in
        let o = generates_opposite A L n V us g q.1 in
        let ho = generates_word A L n V us o.0 o.1 in
        let d = word_sum A n o.0 g' in (
          d,
          generates_sum A L n V us o.0 g' o.1 q'.1,
          cc (q.2, q'.2, V.sum_assoc x g d hx hg (V.sum_word o.0 g' ho hg'), V.sum_assoc g o.0 g' hg ho hg', o.2, V.sum_zero g' hg'),
        )

    -- a cleared word moves aliases in their order
    moved-order : (c y y' : ℕ) → Word A n c → Cleared us c → In y (alias_set A n us x) → In y' (alias_set A n us x) → y < y' → word_sum A n c y < word_sum A n c y'
    moved-order c y y' hc clear p p' lt =
        let V = space_at A L n x hx in
        let a = apart y y' p p' in
        let d = a.0 in
        let hy = alias-is-word A L n x hx us y p in
        let hy' = alias-is-word A L n x hx us y' p' in
        let hd = generates_word A L n V us d a.1 in
        let nothing : word_sum A n y 0 ≡ y = add_zero_word (space A L n V) y hy in
        let pos : 0 < d = elim (cases_eq d 0) [
          | inl e ↦ absurd (let s : y' ≡ y = a.2 ∙ ap (word_sum A n y) e ∙ nothing in omega arith)
          | inr ne ↦ omega (arith, ne)
        ] in
        let t = top A n d (word_legal A n d hd).below pos in
        let k = t.0 in
        let high = t.3 in
        let one = L.field.two_levels in
        let over : Over A k y y' =
        lt_over A k y y' lt (λ e.
        let z : word_sum A n y (word_multiple A n 0 d) ≡ y = ap (word_sum A n y) (V.multiple_zero d hd) ∙ nothing in
        let o : word_sum A n y (word_multiple A n 1 d) ≡ y' = ap (word_sum A n y) (V.multiple_one d hd) ∙ sym a.2 in
        let s = sums_apart A L n k d y 0 1 t.1 hd t.2 high hy (zero_level A L) one (ap (λ w. w / power A k) z ∙ e ∙ sym (ap (λ w. w / power A k) o)) in
        omega (arith, s)) in
        let same : y / power A (suc k) ≡ y' / power A (suc k) = sym (ap (λ w. w / power A (suc k)) a.2 ∙ sum_high A L n (suc k) y d hy hd high) in
        let moved : word_sum A n c y / power A (suc k) ≡ word_sum A n c y' / power A (suc k) =
        sym (ap (λ w. w / power A (suc k)) (ap (word_sum A n c) a.2 ∙ sym (V.sum_assoc c y d hc hy hd))
        ∙ sum_high A L n (suc k) (word_sum A n c y) d (V.sum_word c y hc hy) hd high) in
        over_lt A k (word_sum A n c y) (word_sum A n c y') (over_moved k c y y' t.1 hc hy hy' (clear d k a.1 t.1 t.2 high) same moved over)

    -- so the moved alias set ascends
    moved-ordered : (c : ℕ) → Word A n c → Cleared us c → Ordered (λ a b. a < b) (map (word_sum A n c) (alias_set A n us x))
    moved-ordered c hc clear i j l m =
        let S = alias_set A n us x in
        let lj : j < length S = omega (arith, length-map S (word_sum A n c)) in
        let li : i < length S = omega arith in
        rw (get_or-map (word_sum A n c) S i 0 0 li, get_or-map (word_sum A n c) S j 0 0 lj)
        (moved-order c (get_or S i 0) (get_or S j 0) hc clear (i, li, refl) (j, lj, refl)
        (rising_places S (ascending_rising (map (word_sum A n x) (generated A n us))) i j l lj))

    module _ (v k : ℕ) (hv : Word A n v) (lk : k < n) (low : power A k ≤ v) (high : v < power A (suc k)) (below : (g : ℕ) → Generates A n us g → g < power A k)
        (clear : Cleared us v) (none : digit A k x ≡ 0) where
      -- the alias set once for each multiple of the row
      abbrev repeats : List ℕ
      repeats = flat_map (λ m. map (word_sum A n m) (alias_set A n us x)) (block A n v 0)

      nonzero : 0 < v
      nonzero = omega (arith, power_pos A k)

      -- an alias over one more row is in one of them
      into-repeats : (z : ℕ) → In z (alias_set A n (v ∷ us) x) → In z repeats
      into-repeats z p =
          let V = space_at A L n x hx in
          let q = in_alias_set_from A L n (v ∷ us) x z p in
          let g = gen_split (space A L n V) v us q.0 q.1 in
          let c = g.0 in
          let b = g.1 in
          let hb = generates_word A L n V us b g.3 in
          let cv = word_multiple A n c v in
          let hc = V.multiple_word c v g.2 hv in
          let m = word_sum A n 0 cv in
          let e : word_sum A n m (word_sum A n x b) ≡ z =
          cc (q.2, g.4, V.sum_zero cv hc, V.sum_assoc x cv b hx hc hb, V.sum_comm x cv hx hc, V.sum_assoc cv x b hc hx hb) in
          in_joined (λ m. map (word_sum A n m) (alias_set A n us x)) (block A n v 0) m z
          (in_ascending (sums_below A n A.s v 0) m (in_sums A L n v 0 c g.2))
          (subst (λ w. In w (map (word_sum A n m) (alias_set A n us x))) e (in_map (word_sum A n m) (alias_set A n us x) (word_sum A n x b) (in_alias_set A L n us x b g.3)))

      -- and what is in one of them is an alias
      from-repeats : (z : ℕ) → In z repeats → In z (alias_set A n (v ∷ us) x)
      from-repeats z p =
          let V = space_at A L n x hx in
          let q = in_joined_from (λ m. map (word_sum A n m) (alias_set A n us x)) (block A n v 0) z p in
          let s = in_block_from A L n v 0 q.0 q.1 in
          let c = s.0 in
          let cv = word_multiple A n c v in
          let hc = V.multiple_word c v s.1 hv in
          let r = in_map_from (word_sum A n q.0) (alias_set A n us x) z q.2 in
          let a = in_alias_set_from A L n us x r.0 r.1 in
          let b = a.0 in
          let hb = generates_word A L n V us b a.1 in
          let e : word_sum A n x (word_sum A n cv b) ≡ z =
          cc (r.2, a.2, s.2, V.sum_zero cv hc, V.sum_assoc x cv b hx hc hb, V.sum_comm x cv hx hc, V.sum_assoc cv x b hc hx hb) in
          subst (λ w. In w (alias_set A n (v ∷ us) x)) e (in_alias_set A L n (v ∷ us) x (word_sum A n cv b) (gen_more (space A L n V) c v us b a.1))

      -- a multiple and an alias are, above the place, the multiple and the word
      repeat_high : (m y : ℕ) → Word A n m → In y (alias_set A n us x) → word_sum A n m y / power A k ≡ word_sum A n x m / power A k
      repeat_high m y hm p =
          let V = space_at A L n x hx in
          let a = in_alias_set_from A L n us x y p in
          let b = a.0 in
          let hb = generates_word A L n V us b a.1 in
          ap (λ w. w / power A k) (let e : word_sum A n m y ≡ word_sum A n (word_sum A n x m) b = cc (a.2, V.sum_assoc m x b hm hx hb, V.sum_comm x m hx hm) in e)
          ∙ sum_high A L n k (word_sum A n x m) b (V.sum_word x m hx hm) hb (below b a.1)

      -- they ascend
      repeats-ordered : Ordered (λ a b. a < b) repeats
      repeats-ordered =
          let V = space_at A L n x hx in
          let S = alias_set A n us x in
          let B = block A n v 0 in
          let f : ℕ → List ℕ = λ m. map (word_sum A n m) S in
          let first = in_alias_set A L n us x 0 (generates_zero A L n V us) in
          let some : 0 < length S = let l = first.1 in omega arith in
          joined-ordered f (length S) some (Over A k) (λ a b. a < b) B (λ i l. length-map S (word_sum A n (get_or B i 0)))
          (block-ordered A L n v 0 hv nonzero V.zero_word k lk low high)
          (λ i l.
          let m = get_or B i 0 in
          let q = in_block_from A L n v 0 m (i, l, refl) in
          let hm : Word A n m = rw q.2 (V.sum_word 0 (word_multiple A n q.0 v) V.zero_word (V.multiple_word q.0 v q.1 hv)) in
          moved-ordered m hm (rw q.2 (cleared_multiple us q.0 v q.1 hv clear)))
          (λ m m' a b p p' over q q'.
          let s = in_block_from A L n v 0 m p in
          let s' = in_block_from A L n v 0 m' p' in
          let r = in_map_from (word_sum A n m) S a q in
          let r' = in_map_from (word_sum A n m') S b q' in
          let hm : Word A n m = rw s.2 (V.sum_word 0 (word_multiple A n s.0 v) V.zero_word (V.multiple_word s.0 v s.1 hv)) in
          let hm' : Word A n m' = rw s'.2 (V.sum_word 0 (word_multiple A n s'.0 v) V.zero_word (V.multiple_word s'.0 v s'.1 hv)) in
          let lm : m < power A (suc k) = rw (s.2, V.sum_zero (word_multiple A n s.0 v) (V.multiple_word s.0 v s.1 hv)) (multiple_low A L n (suc k) s.0 v s.1 hv high) in
          let lm' : m' < power A (suc k) = rw (s'.2, V.sum_zero (word_multiple A n s'.0 v) (V.multiple_word s'.0 v s'.1 hv)) (multiple_low A L n (suc k) s'.0 v s'.1 hv high) in
          let o = over_moved k x m m' lk hx hm hm' none (div-eq_of_lt lm ∙ sym (div-eq_of_lt lm'))
          (sum_high A L n (suc k) x m hx hm lm ∙ sym (sum_high A L n (suc k) x m' hx hm' lm')) over in
          let e = ap (λ w. w / power A k) r.2 ∙ repeat_high m r.0 hm r.1 in
          let e' = ap (λ w. w / power A k) r'.2 ∙ repeat_high m' r'.0 hm' r'.1 in
          over_lt A k a b (omega arith))

      -- and are the alias set over one more row
      pub repeats-same : alias_set A n (v ∷ us) x ≡ repeats
      repeats-same =
          ascends_same (alias_set A n (v ∷ us) x) repeats (alias_set_ascends A L n (v ∷ us) x) (λ i l. repeats-ordered i (suc i) (omega arith) l) into-repeats from-repeats
