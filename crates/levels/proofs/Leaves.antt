-- Lists of words plus multiples of words, and counts of words by length.
use Rattle.std.proofs.Common.{◌≡◌, ℕ, suc, ◌+◌, ◌*◌, ◌%◌, ◌^◌, ◌<◌, ◌≤◌, Bool, false, cond, eqb, List, [], ◌∷◌, ◌++◌, map, length, get_or, take, drop, set, replicate, sym, refl, ap, ◌∙◌, subst, inl, inr, add_assoc, mod-lt, mod-eq_of_lt, mul-le-mul_left, zero-add, mul_comm, mul-suc, add-one, arith}
use native.Mathlib.Nat.{mod-add-mod}
use Rattle.std.proofs.lemmas.Bool.{cases_eq, cond-true, cond-false, eq-eqb, ne_eqb}
use Rattle.std.proofs.lemmas.List.{get_or-set_same, get_or-set_other, get_or-replicate, map-append, length-map, length-append, length-take, append_assoc, map_more, take_all}
use Rattle.levels.specs.Arithmetic.{Arithmetic, Lawful}
use Rattle.levels.specs.Words.{legal, word_sum, word_multiple, word_length, code_sum}
use Rattle.levels.specs.Space.{Word, AllWords}
use Rattle.levels.specs.Generated.{combinations}
use Rattle.levels.specs.Alias.{how_many, of_length, aliases, tallied, Adds, multiples_below, with_multiples, with_all_multiples}
use Rattle.levels.proofs.Digits.{word_legal}
use Rattle.levels.proofs.Space.{vector_space}
use Rattle.levels.proofs.Lengths.{sum_code, length_at_most}
use Rattle.levels.proofs.Linear.{mul_word, mul_by_zero, gen_word}
use Rattle.levels.proofs.Generation.{space, combination_generated}
use Rattle.levels.proofs.Places.{in_map_from, in_each_from, length_each}
use Rattle.levels.proofs.Ascending.{how_many_append}

-- one more block of a width has room below a limit of blocks
pub block_room : (width level s : ℕ) → level < s → width * level + width ≤ width * s
block_room width level s l = let h : width * suc level ≤ width * s = mul-le-mul_left width l in omega (arith, mul-suc width level)

-- the words of a list plus each multiple by a level below k are k times as many
pub multiples_length : (A : Arithmetic) (n k w : ℕ) (xs : List ℕ) → length (multiples_below A n k w xs) ≡ k * length xs
multiples_length A n k w xs = length_each k (length xs) (λ c. map (word_sum A n (word_multiple A n c w)) xs) (λ c. length-map xs (word_sum A n (word_multiple A n c w)))

module _ (A : Arithmetic) where
  -- a count that has been added to is of 64 bits
  pub adds_fit : (xs before after : List ℕ) → Adds A xs before after → (i : ℕ) → i < 33 → get_or after i 0 < 2 ^ 64
  adds_fit xs before after h i l = rw (h i l) (mod-lt (get_or before i 0 + of_length A i xs) (omega arith))

  -- the words of two lists are added one list after the other
  pub adds_more : (xs ys before middle after : List ℕ) → Adds A xs before middle → Adds A ys middle after → Adds A (xs ++ ys) before after
  adds_more xs ys before middle after h k i l =
      let p : ℕ → Bool = λ w. eqb (word_length A w) i in
      k i l
      ∙ ap (λ v. (v + how_many p ys) % 2 ^ 64) (h i l)
      ∙ mod-add-mod (get_or before i 0 + how_many p xs) (2 ^ 64) (how_many p ys)
      ∙ ap (λ v. v % 2 ^ 64) (add_assoc (get_or before i 0) (how_many p xs) (how_many p ys) ∙ ap (λ v. get_or before i 0 + v) (sym (how_many_append p xs ys)))

  -- a word is added by one more at its length k
  pub adds_one : (x k : ℕ) (before : List ℕ) → k ≡ word_length A x → k < length before → ((i : ℕ) → i < 33 → get_or before i 0 < 2 ^ 64) →
      Adds A (x ∷ []) before (set before k ((get_or before k 0 + 1) % 2 ^ 64))
  adds_one x k before e inside fit i l =
      let v = (get_or before k 0 + 1) % 2 ^ 64 in
      let one : ℕ = cond (eqb (word_length A x) i) 1 0 in
      elim (cases_eq i k) [
        | inl s ↦
            let t : one ≡ 1 = cond-true (eqb (word_length A x) i) 1 0 (eq-eqb (word_length A x) i (sym (s ∙ e))) in
            let b : get_or before i 0 ≡ get_or before k 0 = ap (λ j. get_or before j 0) s in
            let m : get_or before k 0 + 1 ≡ get_or before i 0 + (one + 0) = omega arith in
            ap (λ j. get_or (set before k v) j 0) s ∙ get_or-set_same before k v 0 inside ∙ ap (λ j. j % 2 ^ 64) m
        | inr d ↦
            let t : one ≡ 0 = cond-false (eqb (word_length A x) i) 1 0 (ne_eqb (word_length A x) i (λ q. d (sym q ∙ sym e))) in
            let m : get_or before i 0 ≡ get_or before i 0 + (one + 0) = omega arith in
            get_or-set_other before k i v 0 d ∙ sym (mod-eq_of_lt (fit i l)) ∙ ap (λ j. j % 2 ^ 64) m
      ]

module _ (A : Arithmetic) (L : Lawful A) (n : ℕ) where
  -- every multiple is a word, where there is a word at all
  pub multiple_legal : (c w x : ℕ) → Word A n x → Word A n (word_multiple A n c w)
  multiple_legal c w x h =
      let l = word_legal A n x h in
      mul_word (space A L n (vector_space A L n l.low l.high)) c w

  -- a word plus a multiple is a word
  pub sum_legal : (c w x : ℕ) → Word A n x → Word A n (word_sum A n x (word_multiple A n c w))
  sum_legal c w x h =
      let l = word_legal A n x h in
      (vector_space A L n l.low l.high).sum_word x (word_multiple A n c w) h (multiple_legal c w x h)

  -- the sum of the codes of a word and a multiple is their sum
  pub code_legal : (c w x : ℕ) → Word A n x → code_sum A x (word_multiple A n c w) ≡ word_sum A n x (word_multiple A n c w)
  code_legal c w x h = sym (sum_code A L n x (word_multiple A n c w) h (multiple_legal c w x h))

  -- the sum of a word and a word of a list has one of 33 lengths
  pub leaf_length : (a : ℕ) (leaves : List ℕ) (k sum size : ℕ) → Word A n a → AllWords A n leaves → k < length leaves →
      sum ≡ code_sum A a (get_or leaves k 0) → size ≡ word_length A sum → size < 33
  leaf_length a leaves k sum size wa wl l es ez =
      let b = get_or leaves k 0 in
      let wb = wl k l in
      let r = word_legal A n a wa in
      let high = r.high in
      let short : word_length A (word_sum A n a b) ≤ n = length_at_most A n (word_sum A n a b) ((vector_space A L n r.low high).sum_word a b wa wb) in
      let same : word_length A sum ≡ word_length A (word_sum A n a b) = ap (word_length A) (es ∙ sym (sum_code A L n a b wa wb)) in
      omega arith

  -- a word plus the words of a list, and plus one more of them
  pub one_leaf_more : (a : ℕ) (leaves : List ℕ) (k sum size : ℕ) (before counts : List ℕ) → Word A n a → AllWords A n leaves → k < length leaves →
      sum ≡ code_sum A a (get_or leaves k 0) → size ≡ word_length A sum → length counts ≡ 33 → Adds A (map (word_sum A n a) (take k leaves)) before counts →
      Adds A (map (word_sum A n a) (take (k + 1) leaves)) before (set counts size ((get_or counts size 0 + 1) % 2 ^ 64))
  one_leaf_more a leaves k sum size before counts wa wl l es ez long added =
      let front = map (word_sum A n a) (take k leaves) in
      let after = set counts size ((get_or counts size 0 + 1) % 2 ^ 64) in
      let value : sum ≡ word_sum A n a (get_or leaves k 0) = es ∙ sym (sum_code A L n a (get_or leaves k 0) wa (wl k l)) in
      let inside : size < length counts = omega (arith, leaf_length a leaves k sum size wa wl l es ez) in
      subst (λ xs. Adds A xs before after)
      (ap (λ x. front ++ x ∷ []) value ∙ sym (map_more (word_sum A n a) leaves k 0 l))
      (adds_more A front (sum ∷ []) before counts after added (adds_one A sum size counts ez inside (adds_fit A front before counts added)))

  -- adding the multiple by 0 changes no word
  pub zero_multiple : (w x : ℕ) → Word A n x → word_sum A n (word_multiple A n 0 w) x ≡ x
  zero_multiple w x h =
      let l = word_legal A n x h in
      let V = vector_space A L n l.low l.high in
      ap (λ z. word_sum A n z x) (mul_by_zero (space A L n V) w) ∙ V.sum_zero x h

  -- nor a list of words
  pub zero_multiples : (w : ℕ) (xs : List ℕ) → AllWords A n xs → map (word_sum A n (word_multiple A n 0 w)) xs ≡ xs
  zero_multiples w [] h = refl
  zero_multiples w (x ∷ xs) h =
      let e = zero_multiple w x (h 0 (omega arith)) in
      let r = zero_multiples w xs (λ i l. h (suc i) (omega arith)) in
      cc

  -- words plus multiples of words are words
  pub all_multiples_words : (ws xs : List ℕ) → AllWords A n xs → AllWords A n (with_all_multiples A n ws xs)
  all_multiples_words [] xs h i l = h i l
  all_multiples_words (w ∷ ws) xs h i l =
      let ys = with_all_multiples A n ws xs in
      let k = all_multiples_words ws xs h in
      let p = in_each_from A.s (λ c. map (word_sum A n (word_multiple A n c w)) ys) (get_or (with_multiples A n w ys) i 0) (i, l, refl) in
      let q = in_map_from (word_sum A n (word_multiple A n p.0 w)) ys (get_or (with_multiples A n w ys) i 0) p.2 in
      let wy : Word A n q.0 = subst (Word A n) q.1.2 (k q.1.0 q.1.1) in
      let r = word_legal A n q.0 wy in
      subst (Word A n) (sym q.2)
      ((vector_space A L n r.low r.high).sum_word (word_multiple A n p.0 w) q.0 (multiple_legal p.0 w q.0 wy) wy)

  -- words plus multiples of w by the levels below k, then plus its multiple m by k, and one more of these, for which there is room
  pub one_sum_more : (k w m sum i : ℕ) (xs sums : List ℕ) → k < A.s → length xs * A.s ≤ 81 → AllWords A n xs → m ≡ word_multiple A n k w → i < length xs →
      sums ≡ multiples_below A n k w xs ++ map (word_sum A n m) (take i xs) → sum ≡ code_sum A m (get_or xs i 0) →
      take 81 (sums ++ sum ∷ []) ≡ multiples_below A n k w xs ++ map (word_sum A n m) (take (i + 1) xs)
  one_sum_more k w m sum i xs sums lk room words em li e ex =
      let x = get_or xs i 0 in
      let start = multiples_below A n k w xs in
      let wx : Word A n x = words i li in
      let wm : Word A n m = subst (Word A n) (sym em) (multiple_legal k w x wx) in
      let value : sum ≡ word_sum A n m x = ex ∙ sym (sum_code A L n m x wm wx) in
      let more = start ++ map (word_sum A n m) (take (i + 1) xs) in
      let one : sums ++ sum ∷ [] ≡ more =
      ap (λ ys. ys ++ sum ∷ []) e
      ∙ append_assoc start (map (word_sum A n m) (take i xs)) (sum ∷ [])
      ∙ ap (λ y. start ++ (map (word_sum A n m) (take i xs) ++ y ∷ [])) value
      ∙ ap (λ ys. start ++ ys) (sym (map_more (word_sum A n m) xs i 0 li)) in
      let long : length more ≤ 81 =
      omega (
        arith,
        length-append start (map (word_sum A n m) (take (i + 1) xs)),
        length-map (take (i + 1) xs) (word_sum A n m),
        length-take (i + 1) xs,
        multiples_length A n k w xs,
        block_room (length xs) k A.s lk,
        mul_comm k (length xs),
      ) in
      ap (take 81) one ∙ take_all 81 more long

  -- adding two words one after the other
  pub sum_twice : (a b : ℕ) (xs : List ℕ) → Word A n a → Word A n b → AllWords A n xs → map (word_sum A n a) (map (word_sum A n b) xs) ≡ map (word_sum A n (word_sum A n a b)) xs
  sum_twice a b [] wa wb h = refl
  sum_twice a b (x ∷ xs) wa wb h =
      let l = word_legal A n a wa in
      let e = (vector_space A L n l.low l.high).sum_assoc a b x wa wb (h 0 (omega arith)) in
      let r = sum_twice a b xs wa wb (λ i m. h (suc i) (omega arith)) in
      cc

  -- a start plus words plus multiples of w, by one level more
  pub one_level_more : (a k w : ℕ) (xs : List ℕ) → Word A n a → AllWords A n xs →
      map (word_sum A n a) (multiples_below A n (suc k) w xs) ≡ map (word_sum A n a) (multiples_below A n k w xs) ++ map (word_sum A n (word_sum A n a (word_multiple A n k w))) xs
  one_level_more a k w xs wa h =
      map-append (word_sum A n a) (multiples_below A n k w xs) (map (word_sum A n (word_multiple A n k w)) xs)
      ∙ ap (λ ys. map (word_sum A n a) (multiples_below A n k w xs) ++ ys) (sum_twice a (word_multiple A n k w) xs wa (multiple_legal k w a wa) h)

  -- a start plus words plus multiples of w by levels below k, and plus the multiple by k
  pub one_level_counted : (a k w sum : ℕ) (xs before middle after : List ℕ) → Word A n a → AllWords A n xs → sum ≡ word_sum A n a (word_multiple A n k w) →
      Adds A (map (word_sum A n a) (multiples_below A n k w xs)) before middle → Adds A (map (word_sum A n sum) xs) middle after →
      Adds A (map (word_sum A n a) (multiples_below A n (k + 1) w xs)) before after
  one_level_counted a k w sum xs before middle after wa wl value first next =
      let front = map (word_sum A n a) (multiples_below A n k w xs) in
      subst (λ ys. Adds A ys before after)
      (ap (λ b. front ++ map (word_sum A n b) xs) value
      ∙ sym (one_level_more a k w xs wa wl)
      ∙ ap (λ j. map (word_sum A n a) (multiples_below A n j w xs)) (sym (add-one k)))
      (adds_more A front (map (word_sum A n sum) xs) before middle after first next)

  -- all sums of multiples of words and further words
  pub combinations_append : (us vs : List ℕ) → combinations A n (us ++ vs) ≡ with_all_multiples A n us (combinations A n vs)
  combinations_append [] vs = refl
  combinations_append (u ∷ us) vs = ap (with_multiples A n u) (combinations_append us vs)

  -- a start plus the sums of multiples of the first words and of the last ones are all its aliases
  pub all_aliases : (ws first sums : List ℕ) (x : ℕ) → first ++ drop (length first) ws ≡ ws → sums ≡ combinations A n (drop (length first) ws) →
      map (word_sum A n x) (with_all_multiples A n first sums) ≡ aliases A n ws x
  all_aliases ws first sums x whole e =
      ap (map (word_sum A n x))
      (ap (with_all_multiples A n first) e
      ∙ sym (combinations_append first (drop (length first) ws))
      ∙ ap (combinations A n) whole)

  -- an illegal start has no tally
  pub no_tally : (ws : List ℕ) (x i : ℕ) → legal A n x ≡ false → 0 ≡ tallied A n ws x i
  no_tally ws x i h = sym (cond-false (legal A n x) (of_length A i (aliases A n ws x) % 2 ^ 64) 0 h)

  -- the aliases of a word, added to counts of 0, are its tally
  pub tally_from : (ws : List ℕ) (x : ℕ) (after : List ℕ) → Word A n x → Adds A (aliases A n ws x) (replicate 33 0) after →
      (i : ℕ) → i < 33 → get_or after i 0 ≡ tallied A n ws x i
  tally_from ws x after wx h i l =
      let z : get_or (replicate 33 0) i 0 ≡ 0 = get_or-replicate 33 i 0 0 l in
      h i l
      ∙ ap (λ m. m % 2 ^ 64) (ap (λ m. m + of_length A i (aliases A n ws x)) z ∙ zero-add (of_length A i (aliases A n ws x)))
      ∙ sym (cond-true (legal A n x) (of_length A i (aliases A n ws x) % 2 ^ 64) 0 wx)

  -- all sums of multiples are words, where there is a word at all
  pub combinations_words : (ws : List ℕ) (x : ℕ) → Word A n x → AllWords A n (combinations A n ws)
  combinations_words ws x h i l =
      let r = word_legal A n x h in
      let V = vector_space A L n r.low r.high in
      gen_word (space A L n V) ws (get_or (combinations A n ws) i 0) (combination_generated A L n V ws (get_or (combinations A n ws) i 0) (i, l, refl))

  -- so are the numbers of a list that is these sums
  pub sums_words : (ws sums : List ℕ) (x : ℕ) → sums ≡ combinations A n ws → Word A n x → AllWords A n sums
  sums_words ws sums x e h = subst (AllWords A n) (sym e) (combinations_words ws x h)
