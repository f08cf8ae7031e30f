-- The rows of an echelon form above a floor, from the smallest on, and the entries of the alias sets over them.
use Rattle.std.proofs.Common.{◌≡◌, ℕ, zero, suc, ◌+◌, ◌*◌, ◌/◌, ◌%◌, ◌<◌, ◌≤◌, ◌++◌, Bool, true, false, cond, ◌&&◌, eqb, ltb, ◌⊎◌, List, [], ◌∷◌, map, filter, All, Contains, length, get_or, Some, None, Option, sym, refl, ap, ◌∙◌, subst, inl, inr, mul-le-mul_right, suc-mul, add-one, arith, MatchOption}
use Rattle.std.proofs.lemmas.Nat.{mod_below, div-add-mod'}
use Rattle.std.proofs.lemmas.List.{get_or_past, get_or_default}
use Rattle.std.specs.List.{range_with_len}
use Rattle.std.proofs.lemmas.List.FromFn.{map-range_with_len_more}
use Rattle.std.proofs.lemmas.Bool.{cases_lt, cases_eq, cases_Bool, cases_order, cond_both, cond-true, cond-false, and_parts, and_from, lt-ltb, ltb-true}
use Rattle.std.proofs.lemmas.Bool.Decides.{nat_tests}
use Rattle.levels.specs.Arithmetic.{Arithmetic, Lawful}
use Rattle.levels.specs.Words.{word_sum, word_multiple}
use Rattle.levels.specs.Space.{Word}
use Rattle.levels.specs.Generated.{Generates, SameWords, insert, generated, holds}
use Rattle.levels.specs.Basis.{Echelon, Smallest}
use Rattle.levels.specs.Alias.{alias_set, how_many}
use Rattle.levels.proofs.Space.{zero_level}
use Rattle.levels.proofs.Linear.{add_zero_word}
use Rattle.levels.proofs.Reduced.{space_at}
use Rattle.levels.proofs.Generation.{space, generates_trans, generates_place, generates_zero}
use Rattle.levels.proofs.Ascending.{in_ascending}
use Rattle.levels.proofs.Sets.{Rising, holds_in, in_holds, holds_at, insert_holds, insert_rising, rising_same, holds_none, ascending_rising, holds_there, holds_here}
use Rattle.aliasing.specs.Blocks.{sums_below, block, above, Entry}
use Rattle.aliasing.specs.Members.{Member}
use Rattle.aliasing.proofs.Heights.{power, rows_apart}
use Rattle.aliasing.proofs.Joins.{joined_length, joined_at, rising_smaller, smaller_place, distinct_count}
use Rattle.aliasing.proofs.Ladders.{Ladder, ladder-blocks, blocks-even, in_sums, in_block_from, sums-distinct, block-length}

-- the numbers above a floor ascend
pub above_rising : (f : ℕ) (xs : List ℕ) → Rising (above f xs)
above_rising f [] = tt
above_rising f (x ∷ xs) =
    cond_both (ltb f x) (insert x (above f xs)) (above f xs) Rising (λ _. insert_rising x (above f xs) (above_rising f xs)) (λ _. above_rising f xs)

-- the numbers of a list that are above a floor
larger_holds : (f : ℕ) (xs : List ℕ) (w : ℕ) → holds (filter (ltb f) xs) w ≡ (holds xs w && ltb f w)
larger_holds f [] w = refl
larger_holds f (x ∷ xs) w =
    let h = larger_holds f xs w in
    cond_both (ltb f x) (x ∷ filter (ltb f) xs) (filter (ltb f) xs) (λ l. holds l w ≡ (holds (x ∷ xs) w && ltb f w)) (λ t. kept t h) (λ t. h ∙ left t)
  where
    kept : ltb f x ≡ true → holds (filter (ltb f) xs) w ≡ (holds xs w && ltb f w) → holds (x ∷ filter (ltb f) xs) w ≡ (holds (x ∷ xs) w && ltb f w)
    kept t h = grind (arith, nat_tests)

    left : ltb f x ≡ false → (holds xs w && ltb f w) ≡ (holds (x ∷ xs) w && ltb f w)
    left t = grind (arith, nat_tests)

-- they are those, in ascending order
above_larger : (f : ℕ) (xs : List ℕ) (w : ℕ) → holds (above f xs) w ≡ holds (filter (ltb f) xs) w
above_larger f [] w = refl
above_larger f (x ∷ xs) w =
    let h = above_larger f xs w in
    cond_both (ltb f x) (insert x (above f xs)) (above f xs) (λ l. holds l w ≡ holds (filter (ltb f) (x ∷ xs)) w)
    (λ t. insert_holds x (above f xs) w ∙ ap (λ b. cond (eqb x w) true b) h ∙ ap (λ l. holds l w) (sym (cond-true (ltb f x) (x ∷ filter (ltb f) xs) (filter (ltb f) xs) t)))
    (λ t. h ∙ ap (λ l. holds l w) (sym (cond-false (ltb f x) (x ∷ filter (ltb f) xs) (filter (ltb f) xs) t)))

-- the numbers of the list that are above the floor
pub above_holds : (f : ℕ) (xs : List ℕ) (w : ℕ) → holds (above f xs) w ≡ (holds xs w && ltb f w)
above_holds f xs w = above_larger f xs w ∙ larger_holds f xs w

-- so a number above the floor is in the list
pub above_from : (f : ℕ) (xs : List ℕ) (w : ℕ) → holds (above f xs) w ≡ true → (holds xs w ≡ true) × (f < w)
above_from f xs w h = let p = and_parts (holds xs w) (ltb f w) (sym (above_holds f xs w) ∙ h) in (p.0, ltb-true f w p.1)

-- with no number above the floor there are none
pub above_end : (xs : List ℕ) (f : ℕ) → length (filter (ltb f) xs) ≡ 0 → above f xs ≡ []
above_end xs f none = holds_none (above f xs) (λ w. elim (cases_Bool (holds (above f xs) w)) [
  | inl t ↦ absurd (let q = holds_in (filter (ltb f) xs) w (sym (above_larger f xs w) ∙ t) in omega (arith, q.1))
  | inr n ↦ n
])

-- else they are the smallest and those above it
pub above_next : (xs : List ℕ) (f v : ℕ) → Contains (filter (ltb f) xs) v → All (λ x. v ≤ x) (filter (ltb f) xs) → above f xs ≡ v ∷ above v xs
above_next xs f v found least =
    rising_same (above f xs) (v ∷ above v xs) (above_rising f xs) ((λ w t. (above_from v xs w t).1), above_rising v xs)
    (λ w. above_holds f xs w ∙ same w ∙ ap (λ b. cond (eqb v w) true b) (sym (above_holds v xs w)))
  where
    here : (holds xs v ≡ true) × (f < v)
    here =
        let p = and_parts (holds xs v) (ltb f v) (sym (larger_holds f xs v) ∙ in_holds (filter (ltb f) xs) v (found.0, found.1, get_or_default (filter (ltb f) xs) found.0 0 v found.1 ∙ found.2)) in
        (p.0, ltb-true f v p.1)

    same : (w : ℕ) → (holds xs w && ltb f w) ≡ cond (eqb v w) true (holds xs w && ltb v w)
    same w = elim (cases_eq v w) [
      | inl e ↦ let t : holds xs w ≡ true = subst (λ z. holds xs z ≡ true) e here.0 in let l = here.1 in grind (arith, nat_tests)
      | inr d ↦ elim (cases_Bool (holds xs w && ltb f w)) [
        | inl t ↦
            let q = holds_in (filter (ltb f) xs) w (larger_holds f xs w ∙ t) in
            let le : v ≤ w = subst (λ z. v ≤ z) q.2 (least q.0 0 q.1) in
            grind (arith, nat_tests)
        | inr n ↦ let l = here.1 in grind (arith, nat_tests)
      ]
    ]

-- how many numbers of a list pass a test of what a function makes of them
pub count_mapped : (p : ℕ → Bool) (f : ℕ → ℕ) (xs : List ℕ) → length (filter (λ x. p (f x)) xs) ≡ how_many p (map f xs)
count_mapped p f [] = refl
count_mapped p f (x ∷ xs) =
    let h = count_mapped p f xs in
    cond_both (p (f x)) (x ∷ filter (λ x. p (f x)) xs) (filter (λ x. p (f x)) xs) (λ ys. length ys ≡ cond (p (f x)) 1 0 + how_many p (map f xs))
    (λ t. omega (arith, cond-true {A = ℕ} (p (f x)) 1 0 t)) (λ e. omega (arith, cond-false {A = ℕ} (p (f x)) 1 0 e))

module _ (A : Arithmetic) (L : Lawful A) (n : ℕ) where
  -- ascending words other than 0, with a place between any two, are a ladder
  ladder_from : (us : List ℕ) → Rising us → ((w : ℕ) → holds us w ≡ true → Word A n w × (0 < w)) →
      ((u v : ℕ) → holds us u ≡ true → holds us v ≡ true → u < v → (k : ℕ) × (u < power A k) × (power A k ≤ v)) → Ladder A n us
  ladder_from [] r word apart = tt
  ladder_from (v ∷ us) r word apart =
      let h = word v (holds_here v us) in (
        h.0,
        h.1,
        (λ w p. let t = in_holds us w p in apart v w (holds_here v us) (holds_there v us w t) (r.0 w t)),
        ladder_from us r.1 (λ w t. word w (holds_there v us w t)) (λ u w t t'. apart u w (holds_there v us u t) (holds_there v us w t')),
      )

  module _ (rows : List ℕ) (e : Echelon A n rows) where
    -- a row is a word other than 0
    pub row_word : (w : ℕ) → holds rows w ≡ true → Word A n w × (0 < w)
    row_word w t = let p = holds_in rows w t in (subst (Word A n) p.2 (e.words p.0 p.1), subst (λ z. 0 < z) p.2 (e.nonzero p.0 p.1))

    -- a place lies between any two rows
    pub rows-between : (u v : ℕ) → holds rows u ≡ true → holds rows v ≡ true → u < v → (k : ℕ) × (u < power A k) × (power A k ≤ v)
    rows-between u v t t' l =
        let p = holds_in rows u t in
        let q = holds_in rows v t' in
        let i = p.0 in
        let j = q.0 in
        let eu = p.2 in
        let ev = q.2 in
        let small : Smallest A n u v ⊎ Smallest A n v u = elim (cases_order i j) [
          | inl same ↦ absurd (let z : u ≡ v = sym eu ∙ ap (λ i. get_or rows i 0) same ∙ ev in omega arith)
          | inr (inl lt) ↦ inl (rw (eu, ev) at (e.reduced i j lt q.1))
          | inr (inr gt) ↦ inr (rw (eu, ev) at (e.reduced j i gt p.1))
        ] in
        let hu = row_word u t in
        let k = rows_apart A L n u v hu.0 (row_word v t').0 hu.1 l small in
        (k.0, k.2, k.3)

    -- the rows above a floor are a ladder
    pub rows-ladder : (f : ℕ) → Ladder A n (above f rows)
    rows-ladder f =
        ladder_from (above f rows) (above_rising f rows) (λ w t. row_word w (above_from f rows w t).0)
        (λ u v t t'. rows-between u v (above_from f rows u t).0 (above_from f rows v t').0)

    module _ (x : ℕ) (hx : Word A n x) where
      -- what holds each word of a list generates what the list does
      pub held-generates : (us vs : List ℕ) → ((w : ℕ) → holds us w ≡ true → holds vs w ≡ true) → (g : ℕ) → Generates A n us g → Generates A n vs g
      held-generates us vs held g =
          let V = space_at A L n x hx in
          generates_trans A L n V us vs g
          (λ i word. elim (cases_lt i (length us)) [
            | inl l ↦
                let p = holds_in vs (get_or us i 0) (held (get_or us i 0) (holds_at us i l)) in
                subst (Generates A n vs) p.2 (generates_place A L n V vs p.0 (subst (Word A n) (sym p.2) word))
            | inr m ↦ subst (Generates A n vs) (sym (get_or_past us i 0 m)) (generates_zero A L n V vs)
          ])

      -- all rows are above 0, so they generate the same
      pub rows_same : SameWords A n (above 0 rows) rows
      rows_same g = (
        held-generates (above 0 rows) rows (λ w t. (above_from 0 rows w t).0) g,
        held-generates rows (above 0 rows) (λ w t. above_holds 0 rows w ∙ and_from (holds rows w) (ltb 0 w) t (lt-ltb 0 w (row_word w t).1)) g,
      )

  module _ (x : ℕ) (hx : Word A n x) where
    -- over no row the word is its only alias
    pub entry-end : (m : ℕ) → m ≡ 0 → Entry (alias_set A n [] x) m (Some x)
    entry-end zero e = (omega arith, sym (add_zero_word (space A L n (space_at A L n x hx)) x hx))
    entry-end (suc m) e = absurd (omega arith)

    -- and there is no other
    pub entry_past : (m : ℕ) → (m ≡ 0 → ⊥) → Entry (alias_set A n [] x) m None
    entry_past m d = omega (arith, d)

    module _ (v : ℕ) (us : List ℕ) (h : Ladder A n (v ∷ us)) where
      -- over one more row there are s times as many
      blocks-length : length (alias_set A n (v ∷ us) x) ≡ length (alias_set A n us x) * A.s
      blocks-length =
          ap length (ladder-blocks A L n x hx v us h)
          ∙ joined_length (block A n v) A.s (alias_set A n us x) (blocks-even A L n x hx v us h.0 h.1)

      -- past the last block there is nothing
      pub entry_none : (m : ℕ) → length (alias_set A n us x) ≤ m / A.s → Entry (alias_set A n (v ∷ us) x) m None
      entry_none m l =
          let g : length (alias_set A n us x) * A.s ≤ m / A.s * A.s = mul-le-mul_right A.s l in
          omega (arith, blocks-length, div-add-mod' m A.s)

      -- an entry is in the block of an entry
      pub entry-some : (m y : ℕ) (r : Option ℕ) → m / A.s < length (alias_set A n us x) → y ≡ get_or (alias_set A n us x) (m / A.s) 0 →
          r ≡ Some (get_or (block A n v y) (m % A.s) 0) → Entry (alias_set A n (v ∷ us) x) m r
      entry-some m y r l e f =
          let g : suc (m / A.s) * A.s ≤ length (alias_set A n us x) * A.s = mul-le-mul_right A.s l in
          subst (Entry (alias_set A n (v ∷ us) x) m) (sym f) (
            omega (arith, blocks-length, div-add-mod' m A.s, mod_below m A.s (zero_level A L), suc-mul (m / A.s) A.s),
            ap (λ z. get_or (block A n v z) (m % A.s) 0) e
                ∙ sym (joined_at (block A n v) A.s (zero_level A L) (alias_set A n us x) (blocks-even A L n x hx v us h.0 h.1) m l)
                ∙ ap (λ xs. get_or xs m 0) (sym (ladder-blocks A L n x hx v us h)),
          )

  -- an entry of an ascending list is its member
  pub entry_member : (xs : List ℕ) → Rising xs → (m : ℕ) (r : Option ℕ) → Entry xs m r → MatchOption r (length xs ≤ m) (λ x. Member xs m x)
  entry_member xs r m None h = h
  entry_member xs r m (Some x) h =
      record { in_set = rw h.1 (holds_at xs m h.0); smaller = rw h.1 (rising_smaller xs r m h.0) }

  module _ (v y : ℕ) (hv : Word A n v) (pv : 0 < v) (hy : Word A n y) where
    -- the sum with so many smaller ones stands at that place of the block
    pub picked : (c place : ℕ) → c < A.s → how_many (λ z. ltb z (word_sum A n y (word_multiple A n c v))) (sums_below A n A.s v y) ≡ place →
        word_sum A n y (word_multiple A n c v) ≡ get_or (block A n v y) place 0
    picked c place lc e =
        let z = word_sum A n y (word_multiple A n c v) in
        let xs = sums_below A n A.s v y in
        smaller_place (block A n v y) (ascending_rising xs) z place (in_ascending xs z (in_sums A L n v y c lc))
        (sym (distinct_count xs (sums-distinct A L n v y hv pv hy) (λ w. ltb w z)) ∙ e)

    -- and for each place there is such a sum
    pub pickable : (place : ℕ) → place < A.s → (c : ℕ) × (c < A.s) × (how_many (λ z. ltb z (word_sum A n y (word_multiple A n c v))) (sums_below A n A.s v y) ≡ place)
    pickable place l =
        let xs = sums_below A n A.s v y in
        let B = block A n v y in
        let lb : place < length B = omega (arith, block-length A L n v y hv pv hy) in
        let q = in_block_from A L n v y (get_or B place 0) (place, lb, refl) in (
          q.0,
          q.1,
          ap (λ w. how_many (λ z. ltb z w) xs) (sym q.2) ∙ distinct_count xs (sums-distinct A L n v y hv pv hy) (λ z. ltb z (get_or B place 0))
              ∙ rising_smaller B (ascending_rising xs) place lb,
        )

  -- the sums level by level
  pub sums_list : (k v y : ℕ) → map (λ c. word_sum A n y (word_multiple A n c v)) (range_with_len 0 k) ≡ sums_below A n k v y
  sums_list zero v y = refl
  sums_list (suc k) v y =
      let f : ℕ → ℕ = λ c. word_sum A n y (word_multiple A n c v) in
      ap (λ j. map f (range_with_len 0 j)) (sym (add-one k)) ∙ map-range_with_len_more f 0 k k (omega arith) ∙ ap (λ xs. xs ++ f k ∷ []) (sums_list k v y)

  -- an entry of an alias set is its member
  pub alias_member : (ws : List ℕ) (w m : ℕ) (r : Option ℕ) → Entry (alias_set A n ws w) m r → MatchOption r (length (alias_set A n ws w) ≤ m) (λ x. Member (alias_set A n ws w) m x)
  alias_member ws w m r h = entry_member (alias_set A n ws w) (ascending_rising (map (word_sum A n w) (generated A n ws))) m r h
