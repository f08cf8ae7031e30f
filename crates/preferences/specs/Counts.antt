-- Lists of counts in the order of their first difference, and the counts of alias sets and of tallies.
use Rattle.std.specs.Prelude.{◌≡◌, ℕ, zero, suc, ◌+◌, ◌-◌, ◌*◌, ◌%◌, ◌^◌, ◌<◌, ◌≤◌, true, false, cond, ◌&&◌, leb, ◌⊎◌, List, [], ◌∷◌, ◌++◌, map, length, ◌==◌, ◌≢◌, nat_eq, nat_le, nat_lt, slice_index, slice_index_or, refl}
use Rattle.std.specs.Ordering.{nat_cmp}
use Rattle.std.specs.Cmp.Lexicographic.{slice_cmp}
use Rattle.std.proofs.Common.{sym, ◌∙◌, ap, subst, inl, inr, arith, zero-add, add-zero, suc-add, mod-eq_of_lt}
use Rattle.std.proofs.Math.Nat.{mul-lt-mul_of_pos_left, pow-le-pow_right}
use Rattle.std.proofs.lemmas.List.{length-map, ext_get_or}
use Rattle.std.proofs.lemmas.Bool.{cases_order, eq-eqb, ne_eqb, lt-ltb, le-ltb, le-leb, lt-leb, leb-true, cases_Bool, both_ways, and_parts, and_right, cond-true, cond-false}
use Rattle.levels.specs.Arithmetic.{Arithmetic, Lawful}
use Rattle.levels.specs.Words.{legal, code, digits, zip_with, word_sum, word_length}
use Rattle.levels.specs.Space.{Word}
use Rattle.levels.specs.Generated.{combinations}
use Rattle.levels.specs.Alias.{of_length, aliases, alias_set, repeats, tallied}
use Rattle.levels.proofs.Places.{In}
use Rattle.levels.proofs.Space.{vector_space}
use Rattle.levels.proofs.Digits.{word_legal}
use Rattle.levels.proofs.Lengths.{length_at_most}
use Rattle.levels.proofs.Any.{any_length}
use Rattle.levels.proofs.Ascending.{how_many_none, how_many_most}
use Rattle.levels.proofs.Multiplicity.{in_alias_set_from, same_alias_set, aliases_times, repeats_positive}
use Rattle.preferences.specs.Relation.{fair, all_legal, PreferenceLaws}
use Rattle.preferences.specs.Built.{no_more, length_counts, tallies, all_tallies, least_aberration}
use Rattle.preferences.specs.Verdicts.{of_order, verdict_of}

-- lists that begin with the same count differ in the rest
pub same_first : (x y : ℕ) (xs ys : List ℕ) → x ≡ y → no_more (x ∷ xs) (y ∷ ys) ≡ no_more xs ys
same_first x y xs ys e = ap (λ t. cond t (no_more xs ys) (nat_lt x y)) (eq-eqb x y e)

-- the smaller first count is the better
pub first_smaller : (x y : ℕ) (xs ys : List ℕ) → x < y → no_more (x ∷ xs) (y ∷ ys) ≡ true
first_smaller x y xs ys l = ap (λ t. cond t (no_more xs ys) (nat_lt x y)) (ne_eqb x y (λ e. omega arith)) ∙ lt-ltb x y l

pub first_larger : (x y : ℕ) (xs ys : List ℕ) → y < x → no_more (x ∷ xs) (y ∷ ys) ≡ false
first_larger x y xs ys l = ap (λ t. cond t (no_more xs ys) (nat_lt x y)) (ne_eqb x y (λ e. omega arith)) ∙ le-ltb x y (omega arith)

-- of two lists one has no more
pub no_more_total : (xs ys : List ℕ) → (no_more xs ys ≡ true) ⊎ (no_more ys xs ≡ true)
no_more_total [] ys = inl refl
no_more_total (x ∷ xs) [] = inl refl
no_more_total (x ∷ xs) (y ∷ ys) =
    elim (cases_order x y) [
      | inl e ↦
          elim (no_more_total xs ys) [
            | inl h ↦ inl (same_first x y xs ys e ∙ h)
            | inr h ↦ inr (same_first y x ys xs (sym e) ∙ h)
          ]
      | inr (inl l) ↦ inl (first_smaller x y xs ys l)
      | inr (inr l) ↦ inr (first_smaller y x ys xs l)
    ]

-- the first count is not larger
not_larger : (x y : ℕ) (xs ys : List ℕ) → no_more (x ∷ xs) (y ∷ ys) ≡ true → (x ≡ y) ⊎ (x < y)
not_larger x y xs ys h =
    elim (cases_order x y) [
      | inl e ↦ inl e
      | inr (inl l) ↦ inr l
      | inr (inr l) ↦ elim (both_ways (no_more (x ∷ xs) (y ∷ ys)) (first_larger x y xs ys l) h) [ ]
    ]

-- on lists of one length the order is transitive
pub no_more_trans : (xs ys zs : List ℕ) → length xs ≡ length ys → length ys ≡ length zs → no_more xs ys ≡ true → no_more ys zs ≡ true → no_more xs zs ≡ true
no_more_trans [] ys zs e f p q = refl
no_more_trans (x ∷ xs) ys [] e f p q = refl
no_more_trans (x ∷ xs) [] (z ∷ zs) e f p q = let wrong : ⊥ = omega arith in elim wrong [ ]
no_more_trans (x ∷ xs) (y ∷ ys) (z ∷ zs) e f p q =
    elim (not_larger x y xs ys p) [
      | inl xy ↦
          elim (not_larger y z ys zs q) [
            | inl yz ↦
                same_first x z xs zs (xy ∙ yz)
                ∙ no_more_trans xs ys zs (omega arith) (omega arith) (sym (same_first x y xs ys xy) ∙ p) (sym (same_first y z ys zs yz) ∙ q)
            | inr yz ↦ first_smaller x z xs zs (omega arith)
          ]
      | inr xy ↦
          elim (not_larger y z ys zs q) [
            | inl yz ↦ first_smaller x z xs zs (omega arith)
            | inr yz ↦ first_smaller x z xs zs (omega arith)
          ]
    ]

-- a list has no more than itself
pub no_more_same : (xs : List ℕ) → no_more xs xs ≡ true
no_more_same [] = refl
no_more_same (x ∷ xs) = same_first x x xs xs refl ∙ no_more_same xs

-- counts that are all multiplied by one number are in the same order
pub no_more_times : (m : ℕ) → 0 < m → (xs ys : List ℕ) → no_more (map (λ x. m * x) xs) (map (λ x. m * x) ys) ≡ no_more xs ys
no_more_times m pos [] ys = refl
no_more_times m pos (x ∷ xs) [] = refl
no_more_times m pos (x ∷ xs) (y ∷ ys) =
    let nx = map (λ v. m * v) xs in
    let ny = map (λ v. m * v) ys in
    elim (cases_order x y) [
      | inl e ↦ same_first (m * x) (m * y) nx ny (ap (λ v. m * v) e) ∙ no_more_times m pos xs ys ∙ sym (same_first x y xs ys e)
      | inr (inl l) ↦ first_smaller (m * x) (m * y) nx ny (mul-lt-mul_of_pos_left l pos) ∙ sym (first_smaller x y xs ys l)
      | inr (inr l) ↦ first_larger (m * x) (m * y) nx ny (mul-lt-mul_of_pos_left l pos) ∙ sym (first_larger x y xs ys l)
    ]

-- what follows lists of one length does not matter where it is equal
pub no_more_ends : (xs ys zs : List ℕ) → length xs ≡ length ys → no_more (xs ++ zs) (ys ++ zs) ≡ no_more xs ys
no_more_ends [] [] zs e = no_more_same zs
no_more_ends [] (y ∷ ys) zs e = let wrong : ⊥ = omega arith in elim wrong [ ]
no_more_ends (x ∷ xs) [] zs e = let wrong : ⊥ = omega arith in elim wrong [ ]
no_more_ends (x ∷ xs) (y ∷ ys) zs e =
    ap (λ t. cond (x == y) t (nat_lt x y)) (no_more_ends xs ys zs (omega arith))

-- as many counts as asked for
pub counts_length : (A : Arithmetic) (ws : List ℕ) (i k : ℕ) → length (length_counts A ws i k) ≡ k
counts_length A ws i zero = refl
counts_length A ws i (suc k) = ap suc (counts_length A ws (suc i) k)

-- the first j counts, and then k more
pub counts_split : (A : Arithmetic) (ws : List ℕ) (i j k : ℕ) → length_counts A ws i (j + k) ≡ length_counts A ws i j ++ length_counts A ws (i + j) k
counts_split A ws i zero k = ap (length_counts A ws i) (zero-add k) ∙ sym (ap (λ v. length_counts A ws v k) (add-zero i))
counts_split A ws i (suc j) k =
    let at : suc i + j ≡ i + suc j = omega arith in
    ap (length_counts A ws i) (suc-add j k)
    ∙ ap (λ l. of_length A i ws ∷ l) (counts_split A ws (suc i) j k)
    ∙ ap (λ v. of_length A i ws ∷ (length_counts A ws (suc i) j ++ length_counts A ws v k)) at

-- lists with equally many words of each length from i on have the same counts
pub counts_same : (A : Arithmetic) (us vs : List ℕ) (i k : ℕ) → ((j : ℕ) → i ≤ j → of_length A j us ≡ of_length A j vs) → length_counts A us i k ≡ length_counts A vs i k
counts_same A us vs i zero h = refl
counts_same A us vs i (suc k) h =
    let here = h i (omega arith) in
    let rest = counts_same A us vs (suc i) k (λ j l. h j (omega arith)) in
    cc

-- an alias of a word is a word
pub alias_word : (A : Arithmetic) → Lawful A → (n : ℕ) (ws : List ℕ) (w x : ℕ) → Word A n w → In x (alias_set A n ws w) → Word A n x
alias_word A lawful n ws w x ww at =
    let r = in_alias_set_from A lawful n ws w x at in
    let l = word_legal A n w ww in
    let V = vector_space A lawful n l.low l.high in
    elim (cases_Bool (legal A n r.0)) [
      | inl t ↦ subst (Word A n) (sym r.2) (V.sum_word w r.0 ww t)
      | inr f ↦
          let none : word_sum A n w r.0 ≡ 0 = cond-false (legal A n w && legal A n r.0) (code A (zip_with A.plus (digits A n w) (digits A n r.0))) 0 (and_right (legal A n w) (legal A n r.0) f) in
          subst (Word A n) (sym (r.2 ∙ none)) V.zero_word
    ]

-- no alias of a word of n factors is longer than n
pub none_longer : (A : Arithmetic) → Lawful A → (n : ℕ) (ws : List ℕ) (w : ℕ) → Word A n w → (i : ℕ) → n < i → of_length A i (alias_set A n ws w) ≡ 0
none_longer A lawful n ws w ww i l =
    how_many_none (λ x. nat_eq (word_length A x) i) (alias_set A n ws w)
    (λ x at. let short = length_at_most A n x (alias_word A lawful n ws w x ww at) in ne_eqb (word_length A x) i (λ e. omega arith))

-- over a base list that can be judged by no count wraps: each is that of the alias set, as often as each word repeats
pub tally_count : (A : Arithmetic) → Lawful A → (n : ℕ) (ws : List ℕ) → fair A n ws ≡ true → (w : ℕ) → Word A n w → (i : ℕ) → tallied A n ws w i ≡ repeats A n ws * of_length A i (alias_set A n ws w)
tally_count A lawful n ws f w ww i =
    let count = of_length A i (aliases A n ws w) in
    let within = leb-true (length ws) A.limit (and_parts (nat_le (length ws) A.limit) (all_legal A n ws) f).0 in
    let two = lawful.field.two_levels in
    let grown : A.s ^ length ws ≤ A.s ^ A.limit = pow-le-pow_right (omega arith) within in
    let few = lawful.few in
    let most : count ≤ length (aliases A n ws w) = how_many_most (λ x. nat_eq (word_length A x) i) (aliases A n ws w) in
    let size : length (aliases A n ws w) ≡ A.s ^ length ws = length-map (combinations A n ws) (word_sum A n w) ∙ any_length A lawful n (vector_space A lawful n) ws in
    let small : count < 2 ^ 64 = omega arith in
    cond-true (legal A n w) (count % 2 ^ 64) 0 ww ∙ mod-eq_of_lt small ∙ aliases_times A lawful n ws w (λ x. nat_eq (word_length A x) i) ww

-- so are the lists of counts
pub tallies_counts : (A : Arithmetic) → Lawful A → (n : ℕ) (ws : List ℕ) → fair A n ws ≡ true → (w : ℕ) → Word A n w → (i k : ℕ) → tallies A n ws w i k ≡ map (λ x. repeats A n ws * x) (length_counts A (alias_set A n ws w) i k)
tallies_counts A lawful n ws f w ww i zero = refl
tallies_counts A lawful n ws f w ww i (suc k) =
    let here = tally_count A lawful n ws f w ww i in
    let rest = tallies_counts A lawful n ws f w ww (suc i) k in
    cc

-- tallies of more than n lengths are in the order of least aberration
pub tallies_order : (A : Arithmetic) → Lawful A → (n : ℕ) (ws : List ℕ) → fair A n ws ≡ true → (a b : ℕ) → Word A n a → Word A n b → (k : ℕ) → n < k → no_more (tallies A n ws a 0 k) (tallies A n ws b 0 k) ≡ least_aberration A n ws a b
tallies_order A lawful n ws f a b wa wb k l =
    let m = repeats A n ws in
    let ca = λ (i j : ℕ). length_counts A (alias_set A n ws a) i j in
    let cb = λ (i j : ℕ). length_counts A (alias_set A n ws b) i j in
    let e : k ≡ suc n + (k - suc n) = omega arith in
    let past : ca (0 + suc n) (k - suc n) ≡ cb (0 + suc n) (k - suc n) =
    counts_same A (alias_set A n ws a) (alias_set A n ws b) (0 + suc n) (k - suc n)
    (λ j at. none_longer A lawful n ws a wa j (omega arith) ∙ sym (none_longer A lawful n ws b wb j (omega arith))) in
    let end = cb (0 + suc n) (k - suc n) in
    let sa : ca 0 k ≡ ca 0 (suc n) ++ end = ap (ca 0) e ∙ counts_split A (alias_set A n ws a) 0 (suc n) (k - suc n) ∙ ap (λ t. ca 0 (suc n) ++ t) past in
    let sb : cb 0 k ≡ cb 0 (suc n) ++ end = ap (cb 0) e ∙ counts_split A (alias_set A n ws b) 0 (suc n) (k - suc n) in
    let size : length (ca 0 (suc n)) ≡ length (cb 0 (suc n)) = counts_length A (alias_set A n ws a) 0 (suc n) ∙ sym (counts_length A (alias_set A n ws b) 0 (suc n)) in
    ap (λ t. no_more t (tallies A n ws b 0 k)) (tallies_counts A lawful n ws f a wa 0 k)
    ∙ ap (no_more (map (λ x. m * x) (ca 0 k))) (tallies_counts A lawful n ws f b wb 0 k)
    ∙ no_more_times m (repeats_positive A lawful n ws) (ca 0 k) (cb 0 k)
    ∙ ap (λ t. no_more t (cb 0 k)) sa
    ∙ ap (no_more (ca 0 (suc n) ++ end)) sb
    ∙ no_more_ends (ca 0 (suc n)) (cb 0 (suc n)) end size

-- least aberration has the laws
pub least_aberration_laws : (A : Arithmetic) → Lawful A → PreferenceLaws A (least_aberration A)
least_aberration_laws A lawful = record {
  total = λ n base f a b wa wb.
      no_more_total (length_counts A (alias_set A n base a) 0 (suc n)) (length_counts A (alias_set A n base b) 0 (suc n));
  transitive = λ n base f a b c wa wb wc.
      let counts = λ (w : ℕ). length_counts A (alias_set A n base w) 0 (suc n) in
      let size = λ (w : ℕ). counts_length A (alias_set A n base w) 0 (suc n) in
      no_more_trans (counts a) (counts b) (counts c) (size a ∙ sym (size b)) (size b ∙ sym (size c));
  same_base = λ n us vs fu fv same a b wa wb.
      let sa = same_alias_set A lawful n us vs a same in
      let sb = same_alias_set A lawful n us vs b same in
      cc;
}

-- at place j of the tallies from length i on stands that of length i + j
pub tallies_at : (A : Arithmetic) (n : ℕ) (ws : List ℕ) (w i k j : ℕ) → j < k → slice_index (tallies A n ws w i k) j ≡ tallied A n ws w (i + j)
tallies_at A n ws w i zero j l = let wrong : ⊥ = omega arith in elim wrong [ ]
tallies_at A n ws w i (suc k) zero l = ap (tallied A n ws w) (sym (add-zero i))
tallies_at A n ws w i (suc k) (suc j) l =
    let at : suc i + j ≡ i + suc j = omega arith in
    tallies_at A n ws w (suc i) k j (omega arith) ∙ ap (tallied A n ws w) at

-- as many as asked for
pub tallies_length : (A : Arithmetic) (n : ℕ) (ws : List ℕ) (w i k : ℕ) → length (tallies A n ws w i k) ≡ k
tallies_length A n ws w i zero = refl
tallies_length A n ws w i (suc k) = ap suc (tallies_length A n ws w (suc i) k)

-- k numbers that are the tallies of the lengths below k are the list of them
pub tallies_from : (A : Arithmetic) (n : ℕ) (ws : List ℕ) (w : ℕ) (r : List ℕ) (k : ℕ) → length r ≡ k → ((i : ℕ) → i < k → slice_index r i ≡ tallied A n ws w i) → r ≡ tallies A n ws w 0 k
tallies_from A n ws w r k size each =
    ext_get_or 0 r (tallies A n ws w 0 k) (size ∙ sym (tallies_length A n ws w 0 k))
    (λ i l. let below : i < k = omega arith in each i below ∙ ap (tallied A n ws w) (sym (zero-add i)) ∙ sym (tallies_at A n ws w 0 k i below))

-- the verdict by tallies of 33 lengths is that of least aberration
pub tallies_of_words : (A : Arithmetic) → Lawful A → (n : ℕ) (ws : List ℕ) (a b : ℕ) → fair A n ws ≡ true → Word A n a → Word A n b →
    verdict_of (no_more (all_tallies A n ws a) (all_tallies A n ws b)) (no_more (all_tallies A n ws b) (all_tallies A n ws a)) ≡ verdict_of (least_aberration A n ws a b) (least_aberration A n ws b a)
unfolding all_tallies
tallies_of_words A lawful n ws a b f wa wb =
    let range = word_legal A n a wa in
    let high = range.high in
    let there = tallies_order A lawful n ws f a b wa wb 33 (omega arith) in
    let back = tallies_order A lawful n ws f b a wb wa 33 (omega arith) in
    cc

-- where lists first differ, the counts there decide
pub differ_at : (xs ys : List ℕ) (i : ℕ) → i < length xs → i < length ys → ((k : ℕ) → k < i → slice_index xs k ≡ slice_index ys k) → (slice_index xs i ≢ slice_index ys i) →
    no_more xs ys ≡ nat_le (slice_index xs i) (slice_index ys i)
differ_at [] ys i lx ly same ne = absurd (omega arith)
differ_at (x ∷ xs) [] i lx ly same ne = absurd (omega arith)
differ_at (x ∷ xs) (y ∷ ys) zero lx ly same ne =
    elim (cases_order x y) [
      | inl e ↦ absurd (ne e)
      | inr (inl l) ↦ first_smaller x y xs ys l ∙ sym (le-leb x y (omega arith))
      | inr (inr l) ↦ first_larger x y xs ys l ∙ sym (lt-leb x y l)
    ]
differ_at (x ∷ xs) (y ∷ ys) (suc i) lx ly same ne =
    same_first x y xs ys (same 0 (omega arith)) ∙ differ_at xs ys i (omega arith) (omega arith) (λ k l. same (suc k) (omega arith)) ne

-- lists of one length are in the library's order of lists
pub counts_verdict : (xs ys : List ℕ) → length xs ≡ length ys → of_order (slice_cmp nat_cmp xs ys) ≡ verdict_of (no_more xs ys) (no_more ys xs)
counts_verdict [] [] e = refl
counts_verdict [] (y ∷ ys) e = let wrong : ⊥ = omega arith in elim wrong [ ]
counts_verdict (x ∷ xs) [] e = let wrong : ⊥ = omega arith in elim wrong [ ]
counts_verdict (x ∷ xs) (y ∷ ys) e =
    elim (cases_order x y) [
      | inl same ↦ grind (arith, counts_verdict xs ys (omega arith))
      | inr (inl l) ↦ grind arith
      | inr (inr l) ↦ grind arith
    ]

-- at place j of the counts from length i on stands that of length i + j
pub counts_at : (A : Arithmetic) (ws : List ℕ) (i k j : ℕ) → j < k → slice_index (length_counts A ws i k) j ≡ of_length A (i + j) ws
counts_at A ws i zero j l = absurd (omega arith)
counts_at A ws i (suc k) zero l = ap (λ m. of_length A m ws) (sym (add-zero i))
counts_at A ws i (suc k) (suc j) l =
    let at : suc i + j ≡ i + suc j = omega arith in
    counts_at A ws (suc i) k j (omega arith) ∙ ap (λ m. of_length A m ws) at

-- one word is counted once, at its length
counted_once : (A : Arithmetic) (w k j : ℕ) → j < k → slice_index (length_counts A (w ∷ []) 0 k) j ≡ cond (word_length A w == j) 1 0
counted_once A w k j l =
    counts_at A (w ∷ []) 0 k j l
    ∙ ap (λ m. of_length A m (w ∷ [])) (zero-add j)
    ∙ add-zero (cond (word_length A w == j) 1 0)

-- the counts of two words of different lengths first differ at the shorter length, where the shorter word has one more
shorter_first : (A : Arithmetic) (v w k : ℕ) → word_length A v < word_length A w → word_length A w < k →
    (no_more (length_counts A (v ∷ []) 0 k) (length_counts A (w ∷ []) 0 k) ≡ false) × (no_more (length_counts A (w ∷ []) 0 k) (length_counts A (v ∷ []) 0 k) ≡ true)
shorter_first A v w k l m =
    let i = word_length A v in
    let xs = length_counts A (v ∷ []) 0 k in
    let ys = length_counts A (w ∷ []) 0 k in
    let lx : i < length xs = omega (arith, counts_length A (v ∷ []) 0 k) in
    let ly : i < length ys = omega (arith, counts_length A (w ∷ []) 0 k) in
    let one : slice_index_or xs i 0 ≡ 1 = counted_once A v k i (omega arith) ∙ cond-true (i == i) 1 0 (eq-eqb i i refl) in
    let none : slice_index_or ys i 0 ≡ 0 = counted_once A w k i (omega arith) ∙ cond-false (word_length A w == i) 1 0 (ne_eqb (word_length A w) i (λ e. omega arith)) in
    let before : (j : ℕ) → j < i → slice_index xs j ≡ slice_index_or ys j 0 = λ j b.
    counted_once A v k j (omega arith) ∙ cond-false (i == j) 1 0 (ne_eqb i j (λ e. omega arith))
    ∙ sym (counted_once A w k j (omega arith) ∙ cond-false (word_length A w == j) 1 0 (ne_eqb (word_length A w) j (λ e. omega arith))) in (
      differ_at xs ys i lx ly before (λ e. omega arith) ∙ lt-leb (slice_index xs i) (slice_index ys i) (omega arith),
      differ_at ys xs i ly lx (λ j b. sym (before j b)) (λ e. omega arith) ∙ le-leb (slice_index ys i) (slice_index xs i) (omega arith),
    )

-- equally long words have the same counts
equally_long : (A : Arithmetic) (v w i k : ℕ) → word_length A v ≡ word_length A w → length_counts A (v ∷ []) i k ≡ length_counts A (w ∷ []) i k
equally_long A v w i k e = counts_same A (v ∷ []) (w ∷ []) i k (λ j _. ap (λ m. cond (m == j) 1 0 + 0) e)

-- without base words the longer word has no more
pub longer_first : (A : Arithmetic) → Lawful A → (n a b : ℕ) → Word A n a → Word A n b → least_aberration A n [] a b ≡ nat_le (word_length A b) (word_length A a)
longer_first A lawful n a b wa wb =
    let l = word_legal A n a wa in
    let V = vector_space A lawful n l.low l.high in
    let own : (w : ℕ) → Word A n w → alias_set A n [] w ≡ w ∷ [] = λ w ww. ap (λ x. x ∷ []) (V.sum_comm w 0 ww V.zero_word ∙ V.sum_zero w ww) in
    let la = length_at_most A n a wa in
    let lb = length_at_most A n b wb in
    let k = suc n in
    ap (λ t. no_more (length_counts A t 0 k) (length_counts A (alias_set A n [] b) 0 k)) (own a wa)
    ∙ ap (λ t. no_more (length_counts A (a ∷ []) 0 k) (length_counts A t 0 k)) (own b wb)
    ∙ elim (cases_order (word_length A a) (word_length A b)) [
      | inl e ↦
          ap (λ t. no_more t (length_counts A (b ∷ []) 0 k)) (equally_long A a b 0 k e)
          ∙ no_more_same (length_counts A (b ∷ []) 0 k) ∙ sym (le-leb (word_length A b) (word_length A a) (omega arith))
      | inr (inl l) ↦ (shorter_first A a b k l (omega arith)).0 ∙ sym (lt-leb (word_length A b) (word_length A a) l)
      | inr (inr l) ↦ (shorter_first A b a k l (omega arith)).1 ∙ sym (le-leb (word_length A b) (word_length A a) (omega arith))
    ]

-- so the lengths decide
pub lengths_of_words : (A : Arithmetic) → Lawful A → (n : ℕ) (ws : List ℕ) (a b : ℕ) → ws ≡ [] → Word A n a → Word A n b →
    verdict_of (nat_le (word_length A b) (word_length A a)) (nat_le (word_length A a) (word_length A b)) ≡ verdict_of (least_aberration A n ws a b) (least_aberration A n ws b a)
lengths_of_words A lawful n ws a b none wa wb =
    let there : least_aberration A n ws a b ≡ leb (word_length A b) (word_length A a) = ap (λ us. least_aberration A n us a b) none ∙ longer_first A lawful n a b wa wb in
    let back : least_aberration A n ws b a ≡ leb (word_length A a) (word_length A b) = ap (λ us. least_aberration A n us b a) none ∙ longer_first A lawful n b a wb wa in
    cc
