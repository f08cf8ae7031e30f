-- Reduction of words by rows in echelon form: the smallest alias, and how rows grow.
use Rattle.std.proofs.Common.{◌≡◌, ℕ, suc, ◌+◌, ◌<◌, ◌≤◌, List, [], ◌∷◌, ◌++◌, length, get_or, take, min, sym, refl, ◌∙◌, subst, inl, inr, le_of_eq, arith, length-append, length-take}
use Rattle.std.proofs.lemmas.Bool.{cases_lt, cases_eq}
use Rattle.std.proofs.lemmas.List.{get_or-take, get_or_append_left, get_or_push}
use Rattle.levels.specs.Arithmetic.{Arithmetic, Lawful}
use Rattle.levels.specs.Words.{word_sum, word_multiple, code_sum}
use Rattle.levels.specs.Space.{Word, VectorSpace}
use Rattle.levels.specs.Generated.{Generates}
use Rattle.levels.specs.Basis.{Smallest, Echelon, LeastAlias}
use Rattle.levels.specs.Rows.{LeastMultiple}
use Rattle.levels.proofs.Digits.{word_legal}
use Rattle.levels.proofs.Space.{vector_space}
use Rattle.levels.proofs.Linear.{add_zero_word, gen_nil, gen_split}
use Rattle.levels.proofs.Generation.{space, generates_word, generates_zero, generates_place, generates_sum, generates_multiple, generates_left, generates_member}
use Rattle.levels.proofs.Lengths.{sum_code}
use Rattle.levels.proofs.Leads.{smallest_sum, smallest_multiple}

-- where there is a word, words form a vector space
pub space_at : (A : Arithmetic) → Lawful A → (n w : ℕ) → Word A n w → VectorSpace A n
space_at A L n w h = vector_space A L n (word_legal A n w h).low (word_legal A n w h).high

module _ (A : Arithmetic) (n : ℕ) where
  -- w is smallest by each row
  abbrev pub Clear : List ℕ → ℕ → Type 0
  Clear rows w = (i : ℕ) → i < length rows → Smallest A n (get_or rows i 0) w

  -- two words differ by a word that the list generates
  abbrev pub Differ : List ℕ → ℕ → ℕ → Type 0
  Differ ws w w' = (g : ℕ) × Generates A n ws g × (w' ≡ word_sum A n w g)

  -- no rows are in echelon form
  pub echelon_none : Echelon A n []
  echelon_none = record { words = λ i l. absurd (omega arith); nonzero = λ i l. absurd (omega arith); reduced = λ i j l k. absurd (omega arith) }

  -- rows without the first
  pub echelon_tail : (v : ℕ) (vs : List ℕ) → Echelon A n (v ∷ vs) → Echelon A n vs
  echelon_tail v vs e = record {
    words = λ i l. e.words (suc i) (omega arith);
    nonzero = λ i l. e.nonzero (suc i) (omega arith);
    reduced = λ i j l k. e.reduced (suc i) (suc j) (omega arith) (omega arith);
  }

  -- a place in a front of rows
  front_place : (k : ℕ) (rows : List ℕ) (i : ℕ) → i < length (take k rows) → (i < k) × (i < length rows)
  front_place k rows i l = (omega (arith, length-take k rows), omega (arith, length-take k rows))

  -- a front of rows
  pub echelon_take : (k : ℕ) (rows : List ℕ) → Echelon A n rows → Echelon A n (take k rows)
  echelon_take k rows e = record {
    words = λ i l. let p = front_place k rows i l in rw (get_or-take k rows i 0 p.0) (e.words i p.1);
    nonzero = λ i l. let p = front_place k rows i l in rw (get_or-take k rows i 0 p.0) (e.nonzero i p.1);
    reduced = λ i j l m.
        let p = front_place k rows j m in
        let q : i < k = omega (arith, p.0) in
        rw (get_or-take k rows i 0 q, get_or-take k rows j 0 p.0) (e.reduced i j l p.1);
  }

  -- one row more
  pub echelon_push : (rows : List ℕ) (r : ℕ) → Echelon A n rows → Word A n r → 0 < r → Clear rows r → Echelon A n (rows ++ r ∷ [])
  echelon_push rows r e word pos clear = record {
    words = λ i l. at i l (Word A n) (e.words i) word;
    nonzero = λ i l. at i l (λ x. 0 < x) (e.nonzero i) pos;
    reduced = λ i j l m.
        let k : i < length rows = omega (arith, length-append rows (r ∷ [])) in
        rw (get_or_append_left rows (r ∷ []) 0 i k) (at j m (Smallest A n (get_or rows i 0)) (e.reduced i j l) (clear i k));
  }
    where
      at : (i : ℕ) → i < length (rows ++ r ∷ []) → (P : ℕ → Type 0) → (i < length rows → P (get_or rows i 0)) → P r → P (get_or (rows ++ r ∷ []) i 0)
      at i l P before last = elim (cases_lt i (length rows)) [
        | inl k ↦ subst P (sym (get_or_append_left rows (r ∷ []) 0 i k)) (before k)
        | inr k ↦ let e : length rows ≡ i = omega (arith, length-append rows (r ∷ [])) in subst P (sym (get_or_push rows r 0 i e)) last
      ]

module _ (A : Arithmetic) (L : Lawful A) (n : ℕ) (V : VectorSpace A n) where
  -- adding 0 changes nothing
  sum_nothing : (a : ℕ) → Word A n a → word_sum A n a 0 ≡ a
  sum_nothing = add_zero_word (space A L n V)

  -- to each generated word a generated one that adds up to 0 with it
  pub generates_opposite : (ws : List ℕ) (g : ℕ) → Generates A n ws g → (h : ℕ) × Generates A n ws h × (word_sum A n g h ≡ 0)
  generates_opposite ws g G =
      let F = L.field in
      let o = F.opposite 1 F.two_levels in
      let wg = generates_word A L n V ws g G in (
        word_multiple A n o.0 g,
        generates_multiple A L n V ws o.0 g G,
        cc (V.multiple_plus 1 o.0 g F.two_levels o.1 wg, o.2, V.multiple_one g wg, V.multiple_zero g wg),
      )

  -- what words generate that are smallest by v is smallest by v
  pub smallest_generated : (v : ℕ) → Word A n v → (ws : List ℕ) → ((i : ℕ) → i < length ws → Word A n (get_or ws i 0)) → ((i : ℕ) → i < length ws → Smallest A n v (get_or ws i 0)) →
      (g : ℕ) → Generates A n ws g → Smallest A n v g
  smallest_generated v hv [] words small g G = rw (gen_nil (space A L n V) g G) (λ c lc. omega arith)
  smallest_generated v hv (w ∷ ws) words small g G =
      let p = gen_split (space A L n V) w ws g G in
      let hw = words 0 (omega arith) in
      rw p.4
      (smallest_sum A L n v hv (word_multiple A n p.0 w) p.1 (V.multiple_word p.0 w p.2 hw) (generates_word A L n V ws p.1 p.3)
      (smallest_multiple A L n v hv p.0 w p.2 hw (small 0 (omega arith)))
      (smallest_generated v hv ws (λ i l. words (suc i) (omega arith)) (λ i l. small (suc i) (omega arith)) p.1 p.3))

  -- no generated word makes a word smaller that is smallest by each row
  pub clear_least : (rows : List ℕ) → Echelon A n rows → (r : ℕ) → Word A n r → Clear A n rows r → (g : ℕ) → Generates A n rows g → r ≤ word_sum A n r g
  clear_least [] e r hr clear g G = rw (gen_nil (space A L n V) g G) (le_of_eq (sym (sum_nothing r hr)))
  clear_least (v ∷ vs) e r hr clear g G =
      let p = gen_split (space A L n V) v vs g G in
      let c = p.0 in
      let b = p.1 in
      let hv = e.words 0 (omega arith) in
      let hb = generates_word A L n V vs b p.3 in
      let hc = V.multiple_word c v p.2 hv in
      let rest = clear_least vs (echelon_tail A n v vs e) r hr (λ i l. clear (suc i) (omega arith)) b p.3 in
      let sb = smallest_generated v hv vs (λ i l. e.words (suc i) (omega arith)) (λ i l. e.reduced 0 (suc i) (omega arith) (omega arith)) b p.3 in
      let first = smallest_sum A L n v hv r b hr hb (clear 0 (omega arith)) sb c p.2 in
      let same : word_sum A n (word_sum A n r b) (word_multiple A n c v) ≡ word_sum A n r g
      = cc (V.sum_assoc r b (word_multiple A n c v) hr hb hc, V.sum_comm b (word_multiple A n c v) hb hc, p.4) in
      omega arith

  -- a generated word that is smallest by each row is 0
  pub clear_zero : (rows : List ℕ) → Echelon A n rows → (g : ℕ) → Generates A n rows g → Clear A n rows g → g ≡ 0
  clear_zero rows e g G clear =
      let o = generates_opposite rows g G in
      let le = clear_least rows e g (generates_word A L n V rows g G) clear o.0 o.1 in
      let z = o.2 in
      omega arith

  -- words that differ by a generated word have the same aliases
  shift : (ws : List ℕ) (w g h : ℕ) → Word A n w → Generates A n ws g → Generates A n ws h → (k : ℕ) × Generates A n ws k × (word_sum A n w h ≡ word_sum A n (word_sum A n w g) k)
  shift ws w g h hw G H =
      let o = generates_opposite ws g G in
      let K = generates_sum A L n V ws o.0 h o.1 H in
      let word = generates_word A L n V ws in (
        word_sum A n o.0 h,
        K,
        cc (
          V.sum_assoc w g (word_sum A n o.0 h) hw (word g G) (word (word_sum A n o.0 h) K),
          V.sum_assoc g o.0 h (word g G) (word o.0 o.1) (word h H),
          o.2,
          V.sum_zero h (word h H),
        ),
      )

  -- an alias that is smallest by each row is the least
  pub clear_alias : (rows : List ℕ) → Echelon A n rows → (w r : ℕ) → Word A n w → Differ A n rows w r → Clear A n rows r → LeastAlias A n rows w r
  clear_alias rows e w r hw d clear = record {
    alias = d;
    least = λ h H.
        let k = shift rows w d.0 h hw d.1 H in
        let hr : Word A n r = rw d.2 (V.sum_word w d.0 hw (generates_word A L n V rows d.0 d.1)) in
        let le = clear_least rows e r hr clear k.0 k.1 in
        let same : word_sum A n w h ≡ word_sum A n r k.0 = cc (k.2, d.2) in
        omega arith;
  }

  -- a least alias is a word
  pub alias_word : (ws : List ℕ) (w r : ℕ) → Word A n w → LeastAlias A n ws w r → Word A n r
  alias_word ws w r hw a = let d = a.alias in rw d.2 (V.sum_word w d.0 hw (generates_word A L n V ws d.0 d.1))

  -- and smallest by each word of the list
  pub alias_clear : (ws : List ℕ) (w r : ℕ) → ((i : ℕ) → i < length ws → Word A n (get_or ws i 0)) → Word A n w → LeastAlias A n ws w r → Clear A n ws r
  alias_clear ws w r words hw a i l c lc =
      let d = a.alias in
      let v = get_or ws i 0 in
      let G = generates_multiple A L n V ws c v (generates_place A L n V ws i (words i l)) in
      let le = a.least (word_sum A n d.0 (word_multiple A n c v)) (generates_sum A L n V ws d.0 (word_multiple A n c v) d.1 G) in
      let same : word_sum A n w (word_sum A n d.0 (word_multiple A n c v)) ≡ word_sum A n r (word_multiple A n c v)
      = cc (V.sum_assoc w d.0 (word_multiple A n c v) hw (generates_word A L n V ws d.0 d.1) (V.multiple_word c v lc (words i l)), d.2) in
      omega arith

  -- a word that differs from another has no larger least alias
  alias_order : (ws : List ℕ) (w w' r r' : ℕ) → Word A n w → LeastAlias A n ws w r → LeastAlias A n ws w' r' → Differ A n ws w w' → r ≤ r'
  alias_order ws w w' r r' hw a a' d =
      let d' = a'.alias in
      let word = generates_word A L n V ws in
      let le = a.least (word_sum A n d.0 d'.0) (generates_sum A L n V ws d.0 d'.0 d.1 d'.1) in
      let same : word_sum A n w (word_sum A n d.0 d'.0) ≡ r'
      = cc (V.sum_assoc w d.0 d'.0 hw (word d.0 d.1) (word d'.0 d'.1), d.2, d'.2) in
      omega arith

  -- to differ goes either way round
  pub differ_back : (ws : List ℕ) (w w' : ℕ) → Word A n w → Differ A n ws w w' → Differ A n ws w' w
  differ_back ws w w' hw d =
      let k = shift ws w d.0 0 hw d.1 (generates_zero A L n V ws) in
      (k.0, k.1, cc (k.2, d.2, sum_nothing w hw))

  -- the least aliases of words that differ by a generated word are equal
  pub differ_same : (ws : List ℕ) (w w' r r' : ℕ) → Word A n w → Word A n w' → LeastAlias A n ws w r → LeastAlias A n ws w' r' → Differ A n ws w w' → r ≡ r'
  differ_same ws w w' r r' hw hw' a a' d =
      let p = alias_order ws w w' r r' hw a a' d in
      let q = alias_order ws w' w r' r hw' a' a (differ_back ws w w' hw d) in
      omega arith

  -- words with the same least alias differ by a generated word
  pub same_differ : (ws : List ℕ) (w w' r r' : ℕ) → Word A n w → Word A n w' → LeastAlias A n ws w r → LeastAlias A n ws w' r' → r ≡ r' → Differ A n ws w w'
  same_differ ws w w' r r' hw hw' a a' e =
      let d = a.alias in
      let b = differ_back ws w' r' hw' a'.alias in
      let word = generates_word A L n V ws in (
        word_sum A n d.0 b.0,
        generates_sum A L n V ws d.0 b.0 d.1 b.1,
        cc (V.sum_assoc w d.0 b.0 hw (word d.0 d.1) (word b.0 b.1), d.2, b.2, e),
      )

  -- the least alias is 0 exactly if the word is generated
  pub alias_zero : (ws : List ℕ) (w r : ℕ) → Word A n w → LeastAlias A n ws w r → (r ≡ 0 → Generates A n ws w) × (Generates A n ws w → r ≡ 0)
  alias_zero ws w r hw a = (
    (λ e. let b = differ_back ws w r hw a.alias in
        let same : b.0 ≡ w = cc (e, b.2, V.sum_zero b.0 (generates_word A L n V ws b.0 b.1)) in
        subst (Generates A n ws) same b.1),
    (λ G. let o = generates_opposite ws w G in let le = a.least o.0 o.1 in let z = o.2 in omega arith),
  )

module _ (A : Arithmetic) (L : Lawful A) (n v w : ℕ) (hv : Word A n v) (hw : Word A n w) where
  -- of the multiples below 1 the word itself is the least
  pub least_first : LeastMultiple A n 1 v w w
  least_first =
      let V = space_at A L n w hw in
      let same : w ≡ word_sum A n w (word_multiple A n 0 v) = cc (V.multiple_zero v hv, sum_nothing A L n V w hw) in
      record { multiple = (0, omega arith, same); least = λ c l. let z : c ≡ 0 = omega arith in rw z (le_of_eq same) }

  -- the next multiple, as its code is summed
  next_multiple : (k o : ℕ) → k < A.s → o ≡ code_sum A w (word_multiple A n k v) → o ≡ word_sum A n w (word_multiple A n k v)
  next_multiple k o l e = e ∙ sym (sum_code A L n w (word_multiple A n k v) hw ((space_at A L n w hw).multiple_word k v l hv))

  -- the next multiple is no smaller
  least_keeps : (k r o : ℕ) → k < A.s → o ≡ code_sum A w (word_multiple A n k v) → r ≤ o → LeastMultiple A n k v w r → LeastMultiple A n (k + 1) v w r
  least_keeps k r o lk e le m = record {
    multiple = (m.multiple.0, omega (arith, m.multiple.1), m.multiple.2);
    least = λ c l. elim (cases_eq c k) [
      | inl same ↦ rw same (omega (arith, next_multiple k o lk e))
      | inr d ↦ m.least c (omega (arith, d))
    ];
  }

  -- the next multiple is smaller
  least_takes : (k r o : ℕ) → k < A.s → o ≡ code_sum A w (word_multiple A n k v) → o < r → LeastMultiple A n k v w r → LeastMultiple A n (k + 1) v w o
  least_takes k r o lk e lt m = record {
    multiple = (k, omega arith, next_multiple k o lk e);
    least = λ c l. elim (cases_eq c k) [
      | inl same ↦ rw same (le_of_eq (next_multiple k o lk e))
      | inr d ↦ omega (arith, m.least c (omega (arith, d)))
    ];
  }

  -- the smaller of the smallest so far and the next multiple is the smallest of one more
  pub least_more : (k r o : ℕ) → k < A.s → o ≡ code_sum A w (word_multiple A n k v) → LeastMultiple A n k v w r → LeastMultiple A n (k + 1) v w (min r o)
  least_more k r o lk e m = elim (cases_lt o r) [
    | inl lt ↦ let small : min r o ≡ o = omega arith in rw small (least_takes k r o lk e lt m)
    | inr le ↦ let small : min r o ≡ r = omega arith in rw small (least_keeps k r o lk e le m)
  ]

-- r is what is left of w by some rows: a word, smallest by each row, that differs from w by a generated word
pub record Left (A : Arithmetic) (n : ℕ) (rows : List ℕ) (w r : ℕ) : Type 0 where
  pub word : Word A n r
  pub differ : Differ A n rows w r
  pub clear : Clear A n rows r

-- by no rows, the word itself is left
pub left_first : (A : Arithmetic) → Lawful A → (n w : ℕ) → Word A n w → Left A n [] w w
left_first A L n w hw =
    let V = space_at A L n w hw in
    record { word = hw; differ = (0, generates_zero A L n V [], sym (sum_nothing A L n V w hw)); clear = λ i l. absurd (omega arith) }

-- by one row more, its least multiple is left
pub left_more : (A : Arithmetic) → Lawful A → (n : ℕ) (rows : List ℕ) (v w r r' : ℕ) → Echelon A n (rows ++ v ∷ []) → Word A n w →
    Left A n rows w r → LeastMultiple A n A.s v r r' → Left A n (rows ++ v ∷ []) w r'
left_more A L n rows v w r r' e hw p m = record {
  word = rw m.multiple.2 (V.sum_word r cv hr hcv);
  differ = (
    word_sum A n g cv,
    generates_sum A L n V all g cv (generates_left A L n V rows (v ∷ []) g p.differ.1) (generates_multiple A L n V all c v (generates_member A L n V rows v [] hv)),
    cc (m.multiple.2, p.differ.2, V.sum_assoc w g cv hw (generates_word A L n V rows g p.differ.1) hcv),
  );
  clear = λ i l. elim (cases_lt i (length rows)) [
    | inl k ↦ rw (get_or_append_left rows (v ∷ []) 0 i k, m.multiple.2) (earlier i k)
    | inr k ↦ let z : length rows ≡ i = omega (arith, length-append rows (v ∷ [])) in rw (get_or_push rows v 0 i z) last
  ];
}
  where
    all : List ℕ
    all = rows ++ v ∷ []

    V : VectorSpace A n
    V = space_at A L n w hw

    inside : length rows < length (rows ++ v ∷ [])
    inside = omega (arith, length-append rows (v ∷ []))

    hv : Word A n v
    hv = rw (get_or_push rows v 0 (length rows) refl) at (e.words (length rows) inside)

    hr : Word A n r
    hr = p.word

    g : ℕ
    g = p.differ.0

    c : ℕ
    c = m.multiple.0

    cv : ℕ
    cv = word_multiple A n c v

    hcv : Word A n cv
    hcv = V.multiple_word c v m.multiple.1 hv

    earlier : (i : ℕ) → i < length rows → Smallest A n (get_or rows i 0) (word_sum A n r cv)
    earlier i k =
        let j : i < length (rows ++ v ∷ []) = omega (arith, length-append rows (v ∷ [])) in
        let u = get_or rows i 0 in
        let hu : Word A n u = rw (get_or_append_left rows (v ∷ []) 0 i k) at (e.words i j) in
        let sv : Smallest A n u v = rw (get_or_append_left rows (v ∷ []) 0 i k, get_or_push rows v 0 (length rows) refl) at (e.reduced i (length rows) k inside) in
        smallest_sum A L n u hu r cv hr hcv (p.clear i k) (smallest_multiple A L n u hu c v m.multiple.1 hv sv)

    last : Smallest A n v r'
    last d ld =
        let le = m.least (A.plus c d) (L.field.plus_level c d m.multiple.1 ld) in
        let same : word_sum A n r (word_multiple A n (A.plus c d) v) ≡ word_sum A n r' (word_multiple A n d v)
        = cc (V.multiple_plus c d v m.multiple.1 ld hv, V.sum_assoc r cv (word_multiple A n d v) hr hcv (V.multiple_word d v ld hv), m.multiple.2) in
        omega arith

-- what is left by all rows is the least alias
pub left_least : (A : Arithmetic) → Lawful A → (n : ℕ) (rows : List ℕ) (w r : ℕ) → Echelon A n rows → Word A n w → Left A n rows w r → LeastAlias A n rows w r
left_least A L n rows w r e hw p = clear_alias A L n (space_at A L n w hw) rows e w r hw p.differ p.clear

-- two least aliases are equal exactly if the words differ by a generated word
pub least_same : (A : Arithmetic) → Lawful A → (n : ℕ) (ws : List ℕ) (w w' r r' : ℕ) → Word A n w → Word A n w' →
    LeastAlias A n ws w r → LeastAlias A n ws w' r' → (r ≡ r' → Differ A n ws w w') × (Differ A n ws w w' → r ≡ r')
least_same A L n ws w w' r r' hw hw' a a' =
    let V = space_at A L n w hw in
    (same_differ A L n V ws w w' r r' hw hw' a a', differ_same A L n V ws w w' r r' hw hw' a a')
