-- What putting words into a table makes of it.
use Rattle.std.proofs.Common.{◌≡◌, ℕ, zero, suc, ◌+◌, ◌-◌, ◌*◌, ◌/◌, ◌%◌, ◌^◌, ◌<◌, ◌≤◌, Bool, true, false, cond, not, ◌&&◌, ◌||◌, eqb, ◌⊎◌, List, [], ◌∷◌, ◌++◌, length, get_or, take, set, replicate, sym, refl, ap, ◌∙◌, subst, ap₂, inl, inr, add-zero, mod-eq_of_lt, one-mul, zero-mul, add-one, one-add, arith}
use mathlib.Core.Bool.{and-true, and_assoc, and_comm}
use native.Mathlib.Nat.{zero-mod}
use lib.Bits.{bit_and, bit_xor, and_mask, xor_mod, xor_self, xor_assoc, xor_zero_r, xor_lt}
use Rattle.std.proofs.lemmas.Nat.{pow_pos, mod-pow-add}
use Rattle.std.proofs.lemmas.List.{append-nil, append_assoc, length-set, length_push, get_or-set_same, get_or-set_other, get_or-replicate, get_or_past, get_or_push, get_or_append_left, take_at}
use Rattle.std.proofs.lemmas.Bool.{and_parts, cases_eq, cases_lt, cond_both, eqb-true, eqb-false, eq-eqb, ne_eqb, both_ways}
use Rattle.levels.specs.Arithmetic.{two}
use Rattle.levels.specs.Words.{legal}
use Rattle.levels.specs.Space.{Word, AllWords, VectorSpace}
use Rattle.levels.specs.Generated.{Generates, Independent}
use Rattle.levels.proofs.Any.{any_zero, any_sum, any_left, any_ind_left}
use Rattle.levels.proofs.Digits.{word_legal}
use Rattle.levels.proofs.Generation.{generates_member, independent_before}
use Rattle.levels.specs.Lawful.{lawful_two}
use Rattle.levels.proofs.Space.{vector_space}
use Rattle.aliasing.specs.Table.{odd, evens, legal_evens, empty_table, empty_below, placed, all_placed, Pivoted, Rows}
use Rattle.aliasing.proofs.Parity.{odd_sum, odd_blank}
use Rattle.aliasing.proofs.Evens.{word_below, below_word, sum_xor}

-- the vector space of words, for n in range
V : (n : ℕ) → 1 ≤ n → n ≤ 32 → VectorSpace two n
V n = vector_space two lawful_two n

-- every row of an even table is even
pub evens_at : (T : List ℕ) (x : ℕ) → evens T x ≡ true → (p : ℕ) → odd x (get_or T p 0) ≡ 0
evens_at [] x t p = odd_blank x
evens_at (r ∷ T) x t zero = eqb-true (odd x r) 0 (and_parts (eqb (odd x r) 0) (evens T x) t).0
evens_at (r ∷ T) x t (suc p) = evens_at T x (and_parts (eqb (odd x r) 0) (evens T x) t).1 p

-- exclusive or with a code twice changes nothing
xor_twice : (a b : ℕ) → bit_xor (bit_xor a b) b ≡ a
xor_twice a b = xor_assoc a b b ∙ ap (bit_xor a) (xor_self b) ∙ xor_zero_r a

-- the sum of two words is a word
xor_word : (n a b : ℕ) → Word two n a → Word two n b → Word two n (bit_xor a b)
xor_word n a b ha hb =
    let h = word_legal two n a ha in
    below_word n (bit_xor a b) h.low h.high (xor_lt n a b (word_below n a ha) (word_below n b hb))

-- v is w with rows of a table added: it has the parity of w in each run that the rows allow, and is generated with w
record Reduced (n : ℕ) (T : List ℕ) (w v : ℕ) : Type 0 where
  even : (x : ℕ) → x < 2 ^ n → evens T x ≡ true → odd x v ≡ odd x w
  there : (ws : List ℕ) → ((p : ℕ) → Generates two n ws (get_or T p 0)) → Generates two n ws w → Generates two n ws v
  back : (ws : List ℕ) → ((p : ℕ) → Generates two n ws (get_or T p 0)) → Generates two n ws v → Generates two n ws w

-- no row added
reduced_none : (n : ℕ) (T : List ℕ) (w : ℕ) → Reduced n T w w
reduced_none n T w = record { even = λ x l t. refl; there = λ ws g h. h; back = λ ws g h. h }

-- one row more
reduced_more : (n : ℕ) (T : List ℕ) (w p v : ℕ) → Pivoted n T → Word two n w → Reduced n T (bit_xor w (get_or T p 0)) v → Reduced n T w v
reduced_more n T w p v h hw r =
    let t = get_or T p 0 in
    let sum : (ws : List ℕ) (a : ℕ) → Word two n a → Generates two n ws t → Generates two n ws a → Generates two n ws (bit_xor a t) =
    λ ws a ha gt ga. subst (Generates two n ws) (sum_xor n a t ha (h.word p)) (any_sum two lawful_two n (V n) ws a t ga gt) in
    record {
      even = λ x l e. r.even x l e ∙ odd_sum n x w t l ∙ ap (λ k. (odd x w + k) % 2) (evens_at T x e p) ∙ omega arith;
      there = λ ws g gw. r.there ws g (sum ws w hw (g p) gw);
      back = λ ws g gv. subst (Generates two n ws) (xor_twice w t) (sum ws (bit_xor w t) (xor_word n w t hw (h.word p)) (g p) (r.back ws g gv));
    }

-- what putting a word into a table comes to: nothing is left of it, or what is left becomes a row at its lowest letter
record Outcome (n : ℕ) (T : List ℕ) (w : ℕ) (T' : List ℕ) : Type 0 where
  left : ℕ
  word : Word two n left
  reduced : Reduced n T w left
  done : ((left ≡ 0) × (T' ≡ T)) ⊎ ((p : ℕ) × (p < n) × (get_or T p 0 ≡ 0) × (left % 2 ^ suc p ≡ 2 ^ p) × (T' ≡ set T p left))

-- one place more: the digit there
low_digit : (w p : ℕ) → w % 2 ^ p ≡ 0 → w % 2 ^ suc p ≡ (w / 2 ^ p % 2) * 2 ^ p
low_digit w p z = omega (arith, subst (λ k. w % 2 ^ k ≡ (w / 2 ^ p % 2) * 2 ^ p + w % 2 ^ p) (one-add p) (mod-pow-add w 1 p))

-- the words of a table and what is left, from place p on
placed_outcome : (n : ℕ) (T : List ℕ) → Pivoted n T → (k p w : ℕ) → p + k ≡ n → Word two n w → w % 2 ^ p ≡ 0 → Outcome n T w (placed k p T w)
placed_outcome n T h zero p w e hw z =
    let pn : p ≡ n = omega arith in
    let w0 : w ≡ 0 = sym (mod-eq_of_lt (word_below n w hw)) ∙ subst (λ q. w % 2 ^ q ≡ 0) pn z in
    record { left = w; word = hw; reduced = reduced_none n T w; done = inl (w0, refl) }
placed_outcome n T h (suc k) p w e hw z =
    let t = get_or T p 0 in
    let e' : suc p + k ≡ n = omega arith in
    let digit = low_digit w p z in
    cond_both (eqb (w / 2 ^ p % 2) 0) (placed k (suc p) T w) (cond (eqb t 0) (set T p w) (placed k (suc p) T (bit_xor w t))) (Outcome n T w)
    (λ b. placed_outcome n T h k (suc p) w e' hw (digit ∙ ap (λ d. d * 2 ^ p) (eqb-true (w / 2 ^ p % 2) 0 b) ∙ zero-mul (2 ^ p)))
    (λ b.
    let d1 : w / 2 ^ p % 2 ≡ 1 = omega (arith, eqb-false (w / 2 ^ p % 2) 0 b) in
    let low : w % 2 ^ suc p ≡ 2 ^ p = digit ∙ ap (λ d. d * 2 ^ p) d1 ∙ one-mul (2 ^ p) in
    cond_both (eqb t 0) (set T p w) (placed k (suc p) T (bit_xor w t)) (Outcome n T w)
    (λ c. record { left = w; word = hw; reduced = reduced_none n T w; done = inr (p, omega arith, eqb-true t 0 c, low, refl) })
    (λ c.
    let tp : t % 2 ^ suc p ≡ 2 ^ p = elim (h.pivot p) [ inl y ↦ elim (eqb-false t 0 c y) [ ] | inr y ↦ y ] in
    let zero-low : bit_xor w t % 2 ^ suc p ≡ 0 = xor_mod w t (suc p) ∙ ap₂ bit_xor low tp ∙ xor_self (2 ^ p) in
    let o = placed_outcome n T h k (suc p) (bit_xor w t) e' (xor_word n w t hw (h.word p)) zero-low in
    record { left = o.left; word = o.word; reduced = reduced_more n T w p o.left h hw o.reduced; done = o.done }))

-- no number is below 0
none_below : (p : ℕ) → p < 0 → ⊥
none_below p l = omega arith

-- one place on
placed_step : (n p : ℕ) (T : List ℕ) (w : ℕ) → p < n → placed (n - p) p T w ≡
    cond (eqb (bit_and (w / 2 ^ p) 1) 0)
    (placed (n - (p + 1)) (p + 1) T w)
    (cond (eqb (get_or T p 0) 0) (set T p w) (placed (n - (p + 1)) (p + 1) T (bit_xor w (get_or T p 0))))
placed_step n p T w l =
    let next : n - p ≡ suc (n - (p + 1)) = omega arith in
    ap (λ k. placed k p T w) next
    ∙ ap₂ (λ d q. cond (eqb d 0) (placed (n - (p + 1)) q T w) (cond (eqb (get_or T p 0) 0) (set T p w) (placed (n - (p + 1)) q T (bit_xor w (get_or T p 0)))))
    (sym (and_mask (w / 2 ^ p) 1)) (sym (add-one p))

-- the lowest letter's place is empty: the word becomes its row
pub placed_row : (n p : ℕ) (T : List ℕ) (w : ℕ) → p < n → bit_and (w / 2 ^ p) 1 ≡ 1 → get_or T p 0 ≡ 0 → placed (n - p) p T w ≡ set T p w
placed_row n p T w l d e = placed_step n p T w l ∙ rw (d, eq-eqb (get_or T p 0) 0 e)

-- a row stands there: it is added
pub placed_added : (n p : ℕ) (T : List ℕ) (w : ℕ) → p < n → bit_and (w / 2 ^ p) 1 ≡ 1 → (get_or T p 0 ≡ 0 → ⊥) → placed (n - p) p T w ≡ placed (n - (p + 1)) (p + 1) T (bit_xor w (get_or T p 0))
placed_added n p T w l d ne = placed_step n p T w l ∙ rw (d, ne_eqb (get_or T p 0) 0 ne)

-- the word does not have the letter
pub placed_past : (n p : ℕ) (T : List ℕ) (w : ℕ) → p < n → (bit_and (w / 2 ^ p) 1 ≡ 1 → ⊥) → placed (n - p) p T w ≡ placed (n - (p + 1)) (p + 1) T w
placed_past n p T w l d =
    let z : bit_and (w / 2 ^ p) 1 ≡ 0 = omega (arith, d, and_mask (w / 2 ^ p) 1) in placed_step n p T w l ∙ rw z

-- one row more among the evens
evens_set : (T : List ℕ) (p v x : ℕ) → p < length T → get_or T p 0 ≡ 0 → evens (set T p v) x ≡ (evens T x && eqb (odd x v) 0)
evens_set [] p v x l z = elim (none_below p l) [ ]
evens_set (r ∷ T) zero v x l z =
    let row : eqb (odd x r) 0 ≡ true = eq-eqb (odd x r) 0 (ap (odd x) z ∙ odd_blank x) in
    and_comm (eqb (odd x v) 0) (evens T x) ∙ sym (ap (λ b. (b && evens T x) && eqb (odd x v) 0) row)
evens_set (r ∷ T) (suc p) v x l z =
    ap (λ b. eqb (odd x r) 0 && b) (evens_set T p v x (omega arith) z) ∙ sym (and_assoc (eqb (odd x r) 0) (evens T x) (eqb (odd x v) 0))

-- a word more among the legal ones
legal_evens_push : (n : ℕ) (ws : List ℕ) (w x : ℕ) → legal_evens n (ws ++ w ∷ []) x ≡ (legal_evens n ws x && (not (legal two n w) || eqb (odd x w) 0))
legal_evens_push n [] w x = and-true (not (legal two n w) || eqb (odd x w) 0)
legal_evens_push n (v ∷ ws) w x =
    ap (λ b. (not (legal two n v) || eqb (odd x v) 0) && b) (legal_evens_push n ws w x)
    ∙ sym (and_assoc (not (legal two n v) || eqb (odd x v) 0) (legal_evens n ws x) (not (legal two n w) || eqb (odd x w) 0))

-- a second test counts only where the first holds
both_same : (a b c : Bool) → (a ≡ true → b ≡ c) → (a && b) ≡ (a && c)
both_same true b c h = h refl
both_same false b c h = refl

-- a row at a place changes nothing of the places below it
empty_other : (T : List ℕ) (p v n : ℕ) → n ≤ p → empty_below (set T p v) n ≡ empty_below T n
empty_other T p v zero l = refl
empty_other T p v (suc n) l =
    ap₂ (λ r k. cond (eqb r 0) 1 0 + k) (get_or-set_other T p n v 0 (λ e. omega arith)) (empty_other T p v n (omega arith))

-- a row at an empty place takes it
empty_set : (T : List ℕ) (p v n : ℕ) → p < n → p < length T → get_or T p 0 ≡ 0 → (v ≡ 0 → ⊥) → suc (empty_below (set T p v) n) ≡ empty_below T n
empty_set T p v zero l s z ne = omega arith
empty_set T p v (suc n) l s z ne = elim (cases_eq n p) [
  | inl e ↦
      let here : get_or T n 0 ≡ 0 = ap (λ k. get_or T k 0) e ∙ z in
      let row : get_or (set T p v) n 0 ≡ v = ap (λ k. get_or (set T p v) k 0) e ∙ get_or-set_same T p v 0 s in
      let none : ◌≡◌ {A = ℕ} (cond (eqb (get_or (set T p v) n 0) 0) 1 0) 0 = ap (λ b. cond b 1 0) (ap (λ k. eqb k 0) row ∙ ne_eqb v 0 ne) in
      let one : ◌≡◌ {A = ℕ} (cond (eqb (get_or T n 0) 0) 1 0) 1 = ap (λ b. cond b 1 0) (eq-eqb (get_or T n 0) 0 here) in
      omega (arith, none, one, empty_other T p v n (omega arith))
  | inr d ↦
      let row : ◌≡◌ {A = ℕ} (cond (eqb (get_or (set T p v) n 0) 0) 1 0) (cond (eqb (get_or T n 0) 0) 1 0) = ap (λ r. cond (eqb r 0) 1 0) (get_or-set_other T p n v 0 d) in
      omega (arith, row, empty_set T p v n (omega arith) s z ne)
]

-- a table with a row more is in order
table_set : (n : ℕ) (T : List ℕ) (p v : ℕ) → Pivoted n T → Word two n v → v % 2 ^ suc p ≡ 2 ^ p → p < 32 → Pivoted n (set T p v)
table_set n T p v h hv low l =
    let at : p < length T = omega (arith, h.size) in
    let one : (q : ℕ) (P : ℕ → Type 0) → (q ≡ p → P v) → P (get_or T q 0) → P (get_or (set T p v) q 0) = λ q P new old. elim (cases_eq q p) [
      | inl e ↦ subst P (sym (ap (λ k. get_or (set T p v) k 0) e ∙ get_or-set_same T p v 0 at)) (new e)
      | inr d ↦ subst P (sym (get_or-set_other T p q v 0 d)) old
    ] in
    record {
      size = length-set T p v ∙ h.size;
      word = λ q. one q (Word two n) (λ e. hv) (h.word q);
      pivot = λ q. one q (λ r. (r ≡ 0) ⊎ (r % 2 ^ suc q ≡ 2 ^ q)) (λ e. inr (subst (λ k. v % 2 ^ suc k ≡ 2 ^ k) (sym e) low)) (h.pivot q);
    }

-- all words but the last are words
all_left : (n : ℕ) (ws : List ℕ) (w : ℕ) → AllWords two n (ws ++ w ∷ []) → AllWords two n ws
all_left n ws w all i l = subst (Word two n) (get_or_append_left ws (w ∷ []) 0 i l) (all i (omega (arith, length_push ws w)))

-- the last word is one
all_last : (n : ℕ) (ws : List ℕ) (w : ℕ) → AllWords two n (ws ++ w ∷ []) → Word two n w
all_last n ws w all = subst (Word two n) (get_or_push ws w 0 (length ws) refl) (all (length ws) (omega (arith, length_push ws w)))

-- a word that those before it generate is not independent of them
not_before : (n : ℕ) → 1 ≤ n → n ≤ 32 → (ws : List ℕ) (w : ℕ) → Independent two n (ws ++ w ∷ []) → Generates two n ws w → ⊥
not_before n low high ws w ind g =
    independent_before two lawful_two n (V n low high) (ws ++ w ∷ []) ind (length ws) (omega (arith, length_push ws w))
    (subst (λ v. Generates two n (take (length ws) (ws ++ w ∷ [])) v) (sym (get_or_push ws w 0 (length ws) refl))
    (subst (λ us. Generates two n us w) (sym (take_at ws (w ∷ []) (length ws) refl)) g))

-- an illegal word more leaves the table
rows_illegal : (n : ℕ) (ws T : List ℕ) (w : ℕ) → Rows n ws T → legal two n w ≡ false → Rows n (ws ++ w ∷ []) T
rows_illegal n ws T w r f = record {
  table = r.table;
  same = λ x l. r.same x l ∙ sym (legal_evens_push n ws w x ∙ ap (λ b. legal_evens n ws x && (not b || eqb (odd x w) 0)) f ∙ and-true (legal_evens n ws x));
  spans = λ p. any_left two lawful_two n (V n) ws (w ∷ []) (get_or T p 0) (r.spans p);
  rank = λ ind all. elim (both_ways (legal two n w) f (all_last n ws w all)) [ ];
}

-- a legal word more, by what putting it into the table comes to
rows_legal : (n : ℕ) (ws T : List ℕ) (w : ℕ) (T' : List ℕ) → Rows n ws T → Word two n w → Outcome n T w T' → Rows n (ws ++ w ∷ []) T'
rows_legal n ws T w T' r hw o =
    let range = word_legal two n w hw in
    let v = o.left in
    let wider : (u : ℕ) → Generates two n ws u → Generates two n (ws ++ w ∷ []) u = any_left two lawful_two n (V n) ws (w ∷ []) in
    let new : Generates two n (ws ++ w ∷ []) v =
    o.reduced.there (ws ++ w ∷ []) (λ p. wider (get_or T p 0) (r.spans p)) (generates_member two lawful_two n (V n range.low range.high) ws w [] hw) in
    let asked : (x : ℕ) → x < 2 ^ n → (evens T x && eqb (odd x v) 0) ≡ legal_evens n (ws ++ w ∷ []) x = λ x l.
    both_same (evens T x) (eqb (odd x v) 0) (eqb (odd x w) 0) (λ t. ap (λ k. eqb k 0) (o.reduced.even x l t))
    ∙ ap (λ b. b && eqb (odd x w) 0) (r.same x l)
    ∙ sym (legal_evens_push n ws w x ∙ ap (λ b. legal_evens n ws x && (not b || eqb (odd x w) 0)) hw) in
    elim o.done [
      | inl e ↦ subst (Rows n (ws ++ w ∷ [])) (sym e.1) (record {
        table = r.table;
        same = λ x l. sym (ap (λ b. evens T x && b) (eq-eqb (odd x v) 0 (ap (odd x) e.0 ∙ odd_blank x)) ∙ and-true (evens T x)) ∙ asked x l;
        spans = λ p. wider (get_or T p 0) (r.spans p);
        rank = λ ind all. elim (not_before n range.low range.high ws w ind
            (o.reduced.back ws r.spans (subst (Generates two n ws) (sym e.0) (any_zero two lawful_two n (V n) ws)))) [ ];
      })
      | inr e ↦
          let p = e.0 in
          let at : p < length T = omega (arith, e.1, range.high, r.table.size) in
          let some : v ≡ 0 → ⊥ = λ z. let y : 0 % 2 ^ suc p ≡ 2 ^ p = subst (λ k. k % 2 ^ suc p ≡ 2 ^ p) z e.3 in omega (arith, y, pow_pos p, zero-mod (2 ^ suc p)) in
          subst (Rows n (ws ++ w ∷ [])) (sym e.4) (record {
            table = table_set n T p v r.table o.word e.3 (omega (arith, e.1, range.high));
            same = λ x l. evens_set T p v x at e.2 ∙ asked x l;
            spans = λ q. elim (cases_eq q p) [
              | inl d ↦ subst (Generates two n (ws ++ w ∷ [])) (sym (ap (λ k. get_or (set T p v) k 0) d ∙ get_or-set_same T p v 0 at)) new
              | inr d ↦ subst (Generates two n (ws ++ w ∷ [])) (sym (get_or-set_other T p q v 0 d)) (wider (get_or T q 0) (r.spans q))
            ];
            rank = λ ind all.
                let before = r.rank (any_ind_left two lawful_two n (V n) ws (w ∷ []) ind) (all_left n ws w all) in
                omega (arith, before, empty_set T p v n e.1 at e.2 some, length_push ws w);
          })
    ]

-- one word more
rows_more : (n : ℕ) (ws T : List ℕ) (w : ℕ) → Rows n ws T → Rows n (ws ++ w ∷ []) (cond (legal two n w) (placed n 0 T w) T)
rows_more n ws T w r =
    cond_both (legal two n w) (placed n 0 T w) T (Rows n (ws ++ w ∷ []))
    (λ t. rows_legal n ws T w (placed n 0 T w) r t (placed_outcome n T r.table n 0 w (omega arith) t (omega arith)))
    (λ f. rows_illegal n ws T w r f)

-- all words of a list more
rows_all_placed : (n : ℕ) (done T ws : List ℕ) → Rows n done T → Rows n (done ++ ws) (all_placed n T ws)
rows_all_placed n done T [] r = subst (λ us. Rows n us T) (sym (append-nil done)) r
rows_all_placed n done T (w ∷ ws) r =
    let T' = cond (legal two n w) (placed n 0 T w) T in
    subst (λ us. Rows n us (all_placed n T' ws)) (append_assoc done (w ∷ []) ws) (rows_all_placed n (done ++ w ∷ []) T' ws (rows_more n done T w r))

-- an empty table has code 0 at each place
blank_at : (p : ℕ) → get_or empty_table p 0 ≡ 0
blank_at p = elim (cases_lt p 32) [ inl l ↦ get_or-replicate 32 p 0 0 l | inr g ↦ get_or_past empty_table p 0 g ]

-- it asks nothing
evens_blank : (k x : ℕ) → evens (replicate k 0) x ≡ true
evens_blank zero x = refl
evens_blank (suc k) x = ap₂ (λ a b. a && b) (eq-eqb (odd x 0) 0 (odd_blank x)) (evens_blank k x)

-- all its places are empty
empty_blank : (n : ℕ) → empty_below empty_table n ≡ n
empty_blank zero = refl
empty_blank (suc n) = ap₂ (λ b k. cond b 1 0 + k) (eq-eqb (get_or empty_table n 0) 0 (blank_at n)) (empty_blank n) ∙ one-add n

-- the table of a list of words
pub rows_of : (n : ℕ) → 1 ≤ n → n ≤ 32 → (ws : List ℕ) → Rows n ws (all_placed n empty_table ws)
rows_of n low high ws = rows_all_placed n [] empty_table ws (record {
  table = record {
    size = refl;
    word = λ p. subst (Word two n) (sym (blank_at p)) (below_word n 0 low high (pow_pos n));
    pivot = λ p. inl (blank_at p);
  };
  same = λ x l. evens_blank 32 x;
  spans = λ p. subst (Generates two n []) (sym (blank_at p)) (any_zero two lawful_two n (V n) []);
  rank = λ ind all. ap (λ k. k + 0) (empty_blank n) ∙ add-zero n;
})
