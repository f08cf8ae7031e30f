-- The rows up to a floor, and the next row, from which is taken what multiples of these take from it.
use Rattle.std.proofs.Common.{◌≡◌, ℕ, zero, suc, ◌/◌, ◌<◌, ◌≤◌, true, ltb, List, [], ◌∷◌, map, filter, All, Contains, length, get_or, sym, ap, ◌∙◌, subst, inl, inr, arith}
use native.Mathlib.Nat.{div-eq_of_lt}
use Rattle.std.specs.List.{flat_map}
use Rattle.std.proofs.lemmas.Bool.{cases_lt, and_from, lt-ltb}
use Rattle.std.proofs.lemmas.List.{append-nil}
use Rattle.levels.specs.Arithmetic.{Arithmetic, Lawful}
use Rattle.levels.specs.Words.{word_sum, word_multiple}
use Rattle.levels.specs.Space.{Word, VectorSpace}
use Rattle.levels.specs.Generated.{Generates, SameWords, holds}
use Rattle.levels.specs.Basis.{Echelon, LeastAlias}
use Rattle.levels.specs.Rows.{Admitted}
use Rattle.levels.specs.Alias.{alias_set}
use Rattle.levels.proofs.Digits.{word_legal}
use Rattle.levels.proofs.Reduced.{space_at, echelon_none, generates_opposite, alias_word}
use Rattle.levels.proofs.Linear.{add_zero_word}
use Rattle.levels.proofs.Generation.{space, generates_word, generates_zero, generates_sum, generates_multiple, generates_place, generates_head, generates_tail, generates_trans, generates_under, generates_front, generates_inside}
use Rattle.levels.proofs.Places.{In}
use Rattle.levels.proofs.Ascending.{in_here, in_later, in_cons, in_none, ascends_same}
use Rattle.levels.proofs.Sets.{holds_in, in_holds, holds_here, holds_split}
use Rattle.levels.proofs.Multiplicity.{in_alias_set, in_alias_set_from, alias_set_ascends, same_alias_set}
use Rattle.aliasing.specs.Blocks.{block, above}
use Rattle.aliasing.proofs.Heights.{power, power_pos, top, digit_top, sum_high}
use Rattle.aliasing.proofs.Ladders.{power_up, power_down}
use Rattle.aliasing.proofs.Floors.{above_holds, above_from, above_next, above_end, row_word, rows-between, held-generates}
use Rattle.aliasing.proofs.Moved.{cleared_least, least_digit, generated_low, repeats-same}

module _ (A : Arithmetic) (L : Lawful A) (n : ℕ) where
  -- us are the rows up to a floor, and a basis generates what they do
  pub record Lower (rows : List ℕ) (floor : ℕ) (basis us : List ℕ) : Type 0 where
    pub echelon : Echelon A n basis
    pub same : SameWords A n basis us
    pub some : (x : ℕ) → In x us → In x rows × (x ≤ floor)
    pub all : (x : ℕ) → In x rows → x ≤ floor → In x us

  -- a word that differs by what others generate takes the place of the first word
  instead : (w r : ℕ) (us : List ℕ) (g : ℕ) → Word A n w → Generates A n us g → r ≡ word_sum A n w g → (x : ℕ) → Generates A n (r ∷ us) x → Generates A n (w ∷ us) x
  instead w r us g hw G e x = generates_trans A L n V (r ∷ us) (w ∷ us) x at
    where
      V : VectorSpace A n
      V = space_at A L n w hw

      at : (i : ℕ) → Word A n (get_or (r ∷ us) i 0) → Generates A n (w ∷ us) (get_or (r ∷ us) i 0)
      at zero h = rw e (generates_sum A L n V (w ∷ us) w g (generates_head A L n V w us hw) (generates_tail A L n V w us g G))
      at (suc i) h = generates_tail A L n V w us (get_or us i 0) (generates_place A L n V us i h)

  module _ (ws : List ℕ) (w r : ℕ) (hw : Word A n w) (a : LeastAlias A n ws w r) where
    -- no generated word makes the least alias smaller
    pub least_alias : (h : ℕ) → Generates A n ws h → r ≤ word_sum A n r h
    least_alias h H =
        let V = space_at A L n w hw in
        let g = a.alias.0 in
        let s = a.least (word_sum A n g h) (generates_sum A L n V ws g h a.alias.1 H) in
        let same : word_sum A n r h ≡ word_sum A n w (word_sum A n g h) =
        cc (a.alias.2, V.sum_assoc w g h hw (generates_word A L n V ws g a.alias.1) (generates_word A L n V ws h H)) in
        omega arith

    -- it has the word's aliases
    pub least_alias_set : alias_set A n ws r ≡ alias_set A n ws w
    least_alias_set = ascends_same (alias_set A n ws r) (alias_set A n ws w) (alias_set_ascends A L n ws r) (alias_set_ascends A L n ws w) to from
      where
        V : VectorSpace A n
        V = space_at A L n w hw

        to : (x : ℕ) → In x (alias_set A n ws r) → In x (alias_set A n ws w)
        to x p =
            let q = in_alias_set_from A L n ws r x p in
            let g = a.alias.0 in
            let e : word_sum A n w (word_sum A n g q.0) ≡ x =
            cc (a.alias.2, q.2, V.sum_assoc w g q.0 hw (generates_word A L n V ws g a.alias.1) (generates_word A L n V ws q.0 q.1)) in
            subst (λ x. In x (alias_set A n ws w)) e (in_alias_set A L n ws w (word_sum A n g q.0) (generates_sum A L n V ws g q.0 a.alias.1 q.1))

        from : (x : ℕ) → In x (alias_set A n ws w) → In x (alias_set A n ws r)
        from x p =
            let q = in_alias_set_from A L n ws w x p in
            let g = a.alias.0 in
            let hg = generates_word A L n V ws g a.alias.1 in
            let hq = generates_word A L n V ws q.0 q.1 in
            let o = generates_opposite A L n V ws g a.alias.1 in
            let ho = generates_word A L n V ws o.0 o.1 in
            let d = word_sum A n o.0 q.0 in
            let e : word_sum A n r d ≡ x =
            cc (a.alias.2, q.2, V.sum_assoc w g d hw hg (V.sum_word o.0 q.0 ho hq), V.sum_assoc g o.0 q.0 hg ho hq, o.2, V.sum_zero q.0 hq) in
            subst (λ x. In x (alias_set A n ws r)) e (in_alias_set A L n ws r d (generates_sum A L n V ws o.0 q.0 o.1 q.1))

  module _ (rows : List ℕ) (e : Echelon A n rows) (z : ℕ) (hz : Word A n z) (least : (g : ℕ) → Generates A n rows g → z ≤ word_sum A n z g) where
    -- over no row the word is its only alias
    pub lower_first : alias_set A n [] z ≡ z ∷ []
    lower_first = ap (λ y. y ∷ []) (add_zero_word (space A L n (space_at A L n z hz)) z hz)

    -- no row is at most 0
    pub lower_none : Lower rows 0 [] []
    lower_none = record {
      echelon = echelon_none A n;
      same = λ x. ((λ G. G), (λ G. G));
      some = λ x p. absurd (in_none x p);
      all = λ x p l. absurd (let h = (row_word A L n rows e x (in_holds rows x p)).1 in omega arith);
    }

    -- what rows of the list generate the list generates
    within : (floor : ℕ) (basis us : List ℕ) → Lower rows floor basis us → (g : ℕ) → Generates A n us g → Generates A n rows g
    within floor basis us b g = held-generates A L n rows e z hz us rows (λ w t. in_holds rows w (b.some w (holds_in us w t)).0) g

    -- with no row above the floor they generate the same
    pub lower_all : (floor : ℕ) (basis us : List ℕ) → Lower rows floor basis us → length (filter (ltb floor) rows) ≡ 0 → alias_set A n us z ≡ alias_set A n rows z
    lower_all floor basis us b none =
        let end = above_end rows floor none in
        same_alias_set A L n us rows z
        (λ g. (
          within floor basis us b g,
          held-generates A L n rows e z hz rows us (λ w t. in_holds us w (b.all w (holds_in rows w t) (elim (cases_lt floor w) [
            | inl l ↦
                let h : holds (above floor rows) w ≡ true = above_holds floor rows w ∙ and_from (holds rows w) (ltb floor w) t (lt-ltb floor w l) in
                absurd (in_none w (holds_in [] w (subst (λ us. holds us w ≡ true) end h)))
            | inr l ↦ l
          ]))) g,
        ))

    module _ (floor row : ℕ) (found : Contains (filter (ltb floor) rows) row) (smallest : All (λ x. row ≤ x) (filter (ltb floor) rows)) (basis us : List ℕ) (b : Lower rows floor basis us) where
      next : above floor rows ≡ row ∷ above row rows
      next = above_next rows floor row found smallest

      -- the next row is one, above the floor
      here : (holds rows row ≡ true) × (floor < row)
      here = above_from floor rows row (subst (λ us. holds us row ≡ true) (sym next) (holds_here row (above row rows)))

      pub row-is-word : Word A n row
      row-is-word = (row_word A L n rows e row here.0).0

      V : VectorSpace A n
      V = space_at A L n row row-is-word

      -- with it they are the rows up to it
      pub lower_more : (after : List ℕ) → Admitted A n basis row after → Lower rows row after (row ∷ us)
      lower_more after a = record {
        echelon = a.extended.echelon b.echelon;
        same = λ x.
            let s = a.extended.same b.echelon x in (
              (λ G. generates_under A L n V row basis us (λ w. (b.same w).0) x (subst (λ l. Generates A n (row ∷ l) x) (append-nil basis) (generates_front A L n V basis row [] x (s.0 G)))),
              (λ G. s.1 (generates_inside A L n V basis row [] x (subst (λ l. Generates A n (row ∷ l) x) (sym (append-nil basis)) (generates_under A L n V row us basis (λ w. (b.same w).1) x G)))),
            );
        some = λ x p. elim (in_cons row x us p) [
          | inl q ↦ (subst (λ x. In x rows) q (holds_in rows row here.0), omega arith)
          | inr q ↦ let s = b.some x q in let l = s.1 in let m = here.1 in (s.0, omega arith)
        ];
        all = λ x p l. elim (cases_lt floor x) [
          | inl m ↦
              let h : holds (row ∷ above row rows) x ≡ true =
              subst (λ us. holds us x ≡ true) next (above_holds floor rows x ∙ and_from (holds rows x) (ltb floor x) (in_holds rows x p) (lt-ltb floor x m)) in
              elim (holds_split row (above row rows) x h) [
                | inl q ↦ subst (λ x. In x (row ∷ us)) q (in_here row us)
                | inr q ↦ absurd (let g = (above_from row rows x q).1 in omega arith)
              ]
          | inr m ↦ in_later row x us (b.all x p m)
        ];
      }

      module _ (v : ℕ) (a : LeastAlias A n basis row v) where
        place : (k : ℕ) × (k < n) × (power A k ≤ row) × (row < power A (suc k))
        place = top A n row (word_legal A n row row-is-word).below (row_word A L n rows e row here.0).1

        abbrev k : ℕ
        k = place.0

        -- what the smaller rows generate is below the row's highest digit
        low : (g : ℕ) → Generates A n us g → g < power A k
        low = generated_low A L n us k row row-is-word (λ u p.
            let s = b.some u p in
            let hu = row_word A L n rows e u (in_holds rows u s.0) in
            let l = s.1 in
            let m = here.1 in
            let q = rows-between A L n rows e u row (in_holds rows u s.0) here.0 (omega arith) in
            let q1 = q.1 in
            let q2 = q.2 in
            let t3 = place.3 in
            let d = power_down A q.0 (suc k) (omega arith) in
            let up = power_up A q.0 k (omega arith) in
            (hu.0, omega arith))

        abbrev g : ℕ
        g = a.alias.0

        G : Generates A n us g
        G = (b.same g).0 a.alias.1

        hg : Word A n g
        hg = generates_word A L n V us g G

        pub left-is-word : Word A n v
        left-is-word = alias_word A L n V basis row v row-is-word a

        -- what is left of the row has its highest digit at the same place
        left-high : v < power A (suc k)
        left-high =
            let le = a.least 0 (generates_zero A L n V basis) in
            let same = add_zero_word (space A L n V) row row-is-word in
            let t3 = place.3 in
            omega arith

        left-low : power A k ≤ v
        left-low =
            let same : v / power A k ≡ row / power A k = ap (λ w. w / power A k) a.alias.2 ∙ sum_high A L n k row g row-is-word hg (low g G) in
            let d = digit_top A k row place.2 place.3 in
            let d0 = d.0 in
            let d1 = d.1 in
            elim (cases_lt v (power A k)) [
              | inl l ↦ absurd (let none = div-eq_of_lt l in omega arith)
              | inr m ↦ m
            ]

        pub left-nonzero : 0 < v
        left-nonzero = let l = left-low in omega (arith, power_pos A k)

        -- no smaller row makes it smaller
        left-least : (h : ℕ) → Generates A n us h → v ≤ word_sum A n v h
        left-least h H =
            let hh = generates_word A L n V us h H in
            let s = a.least (word_sum A n g h) (generates_sum A L n V basis g h a.alias.1 ((b.same h).1 H)) in
            let same : word_sum A n v h ≡ word_sum A n row (word_sum A n g h) = cc (a.alias.2, V.sum_assoc row g h row-is-word hg hh) in
            omega arith

        -- what is left generates, with the smaller rows, what the row does
        left-same : SameWords A n (row ∷ us) (v ∷ us)
        left-same x =
            let o = generates_opposite A L n V us g G in
            let ho = generates_word A L n V us o.0 o.1 in
            let back : row ≡ word_sum A n v o.0 = cc (a.alias.2, V.sum_assoc row g o.0 row-is-word hg ho, o.2, add_zero_word (space A L n V) row row-is-word) in
            (instead v row us o.0 left-is-word o.1 back x, instead row v us g row-is-word G a.alias.2 x)

        -- the list generates it
        left-within : Generates A n rows v
        left-within =
            let p = holds_in rows row here.0 in
            let R : Generates A n rows row = subst (Generates A n rows) p.2 (generates_place A L n V rows p.0 (subst (Word A n) (sym p.2) row-is-word)) in
            rw a.alias.2 (generates_sum A L n V rows row g R (within floor basis us b g G))

        -- the alias set over one more row: that over the smaller ones, once for each multiple of what is left of the row
        pub lower-repeats : alias_set A n (row ∷ us) z ≡ flat_map (λ m. map (word_sum A n m) (alias_set A n us z)) (block A n v 0)
        lower-repeats =
            same_alias_set A L n (row ∷ us) (v ∷ us) z left-same
            ∙ repeats-same A L n us z hz v k left-is-word place.1 left-low left-high low (cleared_least A L n us v left-is-word left-least)
            (least_digit A L n k v z place.1 left-is-word hz left-low left-high (λ c lc. least (word_multiple A n c v) (generates_multiple A L n V rows c v left-within)))
