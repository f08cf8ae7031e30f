-- A list of words again plus each further multiple of a row, written over memory.
use Rattle.std.proofs.Common.{◌≡◌, ℕ, zero, suc, ◌+◌, ◌*◌, ◌<◌, ◌≤◌, List, [], ◌∷◌, ◌++◌, map, length, get_or, take, drop, min, sym, refl, ap, ◌∙◌, subst, inl, inr, mul-le-mul_right, one-mul, mul_comm, mul-suc, mul-one, mul-le-mul_left, add-one, arith, length-take}
use Rattle.std.specs.List.{flat_map}
use Rattle.std.proofs.lemmas.Grind.{flat_map-append}
use Rattle.std.proofs.lemmas.Bool.{cases_eq, cases_lt}
use Rattle.std.proofs.lemmas.List.{append-nil, take-append-drop, take_all, take_at, take_more, length-map}
use Rattle.levels.specs.Arithmetic.{Arithmetic, Lawful}
use Rattle.levels.specs.Words.{word_sum, word_multiple, code_sum}
use Rattle.levels.specs.Space.{Word, AllWords}
use Rattle.levels.proofs.Space.{zero_level}
use Rattle.levels.proofs.Reduced.{space_at}
use Rattle.levels.proofs.Lengths.{sum_code}
use Rattle.levels.proofs.Places.{In}
use Rattle.levels.proofs.Ascending.{in_ascending}
use Rattle.levels.proofs.Sets.{ascending_rising, rising_places}
use Rattle.aliasing.specs.Blocks.{sums_below, block}
use Rattle.aliasing.specs.Filled.{filled}
use Rattle.aliasing.proofs.Filled.{chained, filled_length, filled_own, filled_front, filled_over, filled_beyond}
use Rattle.aliasing.proofs.Joins.{joined_length}
use Rattle.aliasing.proofs.Ladders.{in_sums, in_block_from, block-length}

module _ (A : Arithmetic) (L : Lawful A) (n : ℕ) where
  -- of words the sums of codes are the sums of words
  sums-same : (m : ℕ) → Word A n m → (F : List ℕ) → AllWords A n F → map (code_sum A m) F ≡ map (word_sum A n m) F
  sums-same m hm [] h = refl
  sums-same m hm (x ∷ F) h = cc (sum_code A L n m x hm (h 0 (omega arith)), sums-same m hm F (λ i l. h (suc i) (omega arith)))

  -- adding 0 changes no word
  sums-none : (F : List ℕ) → AllWords A n F → map (word_sum A n 0) F ≡ F
  sums-none [] h = refl
  sums-none (x ∷ F) h = cc ((space_at A L n x (h 0 (omega arith))).sum_zero x (h 0 (omega arith)), sums-none F (λ i l. h (suc i) (omega arith)))

  module _ (v : ℕ) (hv : Word A n v) (pv : 0 < v) where
    -- code 0 is a word
    pub zero-word : Word A n 0
    zero-word = (space_at A L n v hv).zero_word

    -- the smallest multiple is 0
    block-first : get_or (block A n v 0) 0 0 ≡ 0
    block-first =
        let V = space_at A L n v hv in
        let B = block A n v 0 in
        let e : word_sum A n 0 (word_multiple A n 0 v) ≡ 0 = cc (V.multiple_zero v hv, V.sum_zero 0 V.zero_word) in
        let p = in_ascending (sums_below A n A.s v 0) 0 (subst (λ z. In z (sums_below A n A.s v 0)) e (in_sums A L n v 0 0 (zero_level A L))) in
        elim (cases_eq p.0 0) [
          | inl z ↦ ap (λ i. get_or B i 0) (sym z) ∙ p.2
          | inr d ↦ absurd (let l = rising_places B (ascending_rising (sums_below A n A.s v 0)) 0 p.0 (omega (arith, d)) p.1 in let q = p.2 in omega arith)
        ]

    -- every multiple is a word
    pub block-word : (i : ℕ) → i < A.s → Word A n (get_or (block A n v 0) i 0)
    block-word i l =
        let V = space_at A L n v hv in
        let q = in_block_from A L n v 0 (get_or (block A n v 0) i 0) (i, omega (arith, block-length A L n v 0 hv pv zero-word), refl) in
        rw q.2 (V.sum_word 0 (word_multiple A n q.0 v) V.zero_word (V.multiple_word q.0 v q.1 hv))

    module _ (F : List ℕ) (h : AllWords A n F) where
      -- the list once for each of so many multiples
      abbrev pub repeats_upto : ℕ → List ℕ
      repeats_upto p = flat_map (λ m. map (word_sum A n m) F) (take p (block A n v 0))

      upto-length : (p : ℕ) → p ≤ A.s → length (repeats_upto p) ≡ p * length F
      upto-length p l =
          joined_length (λ m. map (word_sum A n m) F) (length F) (take p (block A n v 0)) (λ i k. length-map F (word_sum A n (get_or (take p (block A n v 0)) i 0)))
          ∙ ap (λ k. k * length F) (let e : length (take p (block A n v 0)) ≡ p = omega (arith, length-take p (block A n v 0), block-length A L n v 0 hv pv zero-word) in e)

      -- they begin with the list
      begins : (B : List ℕ) → get_or B 0 0 ≡ 0 → 0 < length B → (p : ℕ) → take (length F) (flat_map (λ m. map (word_sum A n m) F) (take (suc p) B)) ≡ F
      begins [] e l p = absurd (omega arith)
      begins (b ∷ B) e l p =
          ap (λ zs. take (length F) (zs ++ flat_map (λ m. map (word_sum A n m) F) (take p B))) (ap (λ m. map (word_sum A n m) F) e ∙ sums-none F h)
          ∙ take_at F (flat_map (λ m. map (word_sum A n m) F) (take p B)) (length F) refl

      upto-begins : (p : ℕ) → 0 < p → take (length F) (repeats_upto p) ≡ F
      upto-begins zero l = absurd (omega arith)
      upto-begins (suc p) l = begins (block A n v 0) block-first (omega (arith, block-length A L n v 0 hv pv zero-word, zero_level A L)) p

      -- with the multiple by 0 alone they are the list
      upto-one : repeats_upto 1 ≡ F
      upto-one =
          ap (λ l. flat_map (λ m. map (word_sum A n m) F) l) (take_more (block A n v 0) 0 0 (omega (arith, block-length A L n v 0 hv pv zero-word, zero_level A L)))
          ∙ append-nil (map (word_sum A n (get_or (block A n v 0) 0 0)) F)
          ∙ ap (λ m. map (word_sum A n m) F) block-first
          ∙ sums-none F h

      upto-more : (p : ℕ) → p < A.s → repeats_upto (p + 1) ≡ repeats_upto p ++ map (word_sum A n (get_or (block A n v 0) p 0)) F
      upto-more p l =
          let B = block A n v 0 in
          let f : ℕ → List ℕ = λ m. map (word_sum A n m) F in
          ap (flat_map f) (take_more B p 0 (omega (arith, block-length A L n v 0 hv pv zero-word)))
          ∙ flat_map-append f (take p B) (get_or B p 0 ∷ [])
          ∙ ap (λ zs. flat_map f (take p B) ++ zs) (append-nil (f (get_or B p 0)))

    -- the list with all multiples begins with the list
    pub all-begin : (F : List ℕ) → AllWords A n F → (more : List ℕ) × (flat_map (λ m. map (word_sum A n m) F) (block A n v 0) ≡ F ++ more)
    all-begin F h =
        let X = flat_map (λ m. map (word_sum A n m) F) (block A n v 0) in
        let e : repeats_upto F h A.s ≡ X =
        ap (flat_map (λ m. map (word_sum A n m) F)) (take_all A.s (block A n v 0) (omega (arith, block-length A L n v 0 hv pv zero-word))) in (
          drop (length F) X,
          sym (take-append-drop (length F) X) ∙ ap (λ zs. zs ++ drop (length F) X) (ap (take (length F)) (sym e) ∙ upto-begins F h A.s (zero_level A L)),
        )

    -- what memory holds of a list is enough for what it holds of the list with all multiples
    pub repeats_filled : (S old : List ℕ) (len : ℕ) → AllWords A n S → AllWords A n (take len S) → len ≡ min (length S) (length old) →
        filled (flat_map (λ m. map (word_sum A n m) (take len (filled S old))) (block A n v 0)) (filled S old) ≡ filled (flat_map (λ m. map (word_sum A n m) S) (block A n v 0)) old
    repeats_filled S old len h h' e =
        let M = filled S old in
        let long = filled_length S old in
        let f : List ℕ → List ℕ = λ F. flat_map (λ m. map (word_sum A n m) F) (block A n v 0) in
        let b = all-begin S h in
        ap (λ F. filled (f F) M) (filled_front S old len (omega arith) (omega arith))
        ∙ elim (cases_lt (length old) (length S)) [
          | inl l ↦
              let b' = all-begin (take len S) h' in
              ap (λ zs. filled zs M) b'.1
              ∙ filled_beyond (take len S) b'.0 M (omega (arith, length-take len S))
              ∙ ap (λ zs. filled zs M) (sym (filled_front S old len (omega arith) (omega arith)))
              ∙ filled_own len M
              ∙ sym (ap (λ zs. filled zs old) b.1 ∙ filled_beyond S b.0 old (omega arith))
          | inr g ↦
              ap (λ F. filled (f F) M) (take_all len S (omega arith))
              ∙ ap (λ zs. filled zs M) b.1
              ∙ filled_over S b.0 old
              ∙ ap (λ zs. filled zs old) (sym b.1)
        ]

    -- and as many are written
    pub repeats_count : (S old : List ℕ) (len : ℕ) → len ≡ min (length S) (length old) →
        min (len * A.s) (length old) ≡ min (length (flat_map (λ m. map (word_sum A n m) S) (block A n v 0))) (length old)
    repeats_count S old len e =
        let many : length (flat_map (λ m. map (word_sum A n m) S) (block A n v 0)) ≡ length (block A n v 0) * length S =
        joined_length (λ m. map (word_sum A n m) S) (length S) (block A n v 0) (λ i k. length-map S (word_sum A n (get_or (block A n v 0) i 0))) in
        let one = zero_level A L in
        let some : length S * 1 ≤ length S * A.s = mul-le-mul_left (length S) one in
        let full : length old * 1 ≤ length old * A.s = mul-le-mul_left (length old) one in
        let all = ap (λ k. k * length S) (block-length A L n v 0 hv pv zero-word) in
        elim (cases_lt (length old) (length S)) [
          | inl l ↦ let same : len * A.s ≡ length old * A.s = ap (λ k. k * A.s) (let f : len ≡ length old = omega arith in f) in omega (arith, mul_comm A.s (length S), mul-one (length S), mul-one (length old))
          | inr g ↦ let same : len * A.s ≡ length S * A.s = ap (λ k. k * A.s) (let f : len ≡ length S = omega arith in f) in omega (arith, mul_comm A.s (length S))
        ]

  -- so many repeats of the front of memory are written
  pub record Repeated (v front place len : ℕ) (now old : List ℕ) : Type 0 where
    pub count : len ≡ min (front * place) (length old)
    pub stored : now ≡ filled (flat_map (λ m. map (word_sum A n m) (take front old)) (take place (block A n v 0))) old

  module _ (v : ℕ) (hv : Word A n v) (pv : 0 < v) (front : ℕ) (old : List ℕ) (room : front ≤ length old) (h : AllWords A n (take front old)) where
    long : length (take front old) ≡ front
    long = omega (arith, length-take front old)

    -- the front itself is there
    pub repeated_first : Repeated v front 1 front old old
    repeated_first = record {
      count = omega arith;
      stored = sym (ap (λ l. filled l old) (upto-one v hv pv (take front old) h) ∙ filled_own front old);
    }

    -- the front is among the codes that are there
    pub repeated_room : (place len : ℕ) (now : List ℕ) → 0 < place → Repeated v front place len now old → (front ≤ len) × (len ≤ length now)
    repeated_room place len now p r =
        let m : 1 * front ≤ place * front = mul-le-mul_right front p in
        let k = r.count in (
          omega (arith, one-mul front, mul_comm front place),
          omega (arith, ap length r.stored, filled_length (flat_map (λ m. map (word_sum A n m) (take front old)) (take place (block A n v 0))) old),
        )

    -- one multiple more
    pub repeated_more : (place len len' m : ℕ) (now now' : List ℕ) → 0 < place → place < A.s → m ≡ get_or (block A n v 0) place 0 → Repeated v front place len now old →
        len' ≡ min (len + front) (length now) → now' ≡ filled (take len now ++ map (code_sum A m) (take front now)) now → Repeated v front (place + 1) len' now' old
    repeated_more place len len' m now now' p l e r c s =
        let F = take front old in
        let S = repeats_upto v hv pv F h place in
        let k = r.count in
        let is = r.stored in
        let many : length S ≡ front * place = omega (arith, upto-length v hv pv F h place (omega arith), mul_comm front place, ap (λ j. place * j) long) in
        let le : 1 * front ≤ place * front = mul-le-mul_right front p in
        let hm : Word A n m = subst (Word A n) (sym e) (block-word v hv pv place l) in
        record {
          count = omega (arith, ap length is, filled_length S old, mul-suc front place, add-one place, ap (λ j. front * j) (add-one place));
          stored =
              s
              ∙ ap (λ zs. filled (take len zs ++ map (code_sum A m) (take front zs)) zs) is
              ∙ chained (code_sum A m) S old front len (omega (arith, one-mul front, mul_comm front place)) room (omega arith)
              ∙ ap (λ zs. filled (S ++ map (code_sum A m) zs) old) (ap (λ j. take j S) (sym long) ∙ upto-begins v hv pv F h place p)
              ∙ ap (λ zs. filled (S ++ zs) old) (sums-same m hm F h ∙ ap (λ j. map (word_sum A n j) F) e)
              ∙ ap (λ zs. filled zs old) (sym (upto-more v hv pv F h place l));
        }

    -- with all multiples the whole block is gone through
    pub repeated_all : (place len : ℕ) (now : List ℕ) → place ≡ A.s → Repeated v front place len now old →
        (len ≡ min (front * A.s) (length old)) × (now ≡ filled (flat_map (λ m. map (word_sum A n m) (take front old)) (block A n v 0)) old)
    repeated_all place len now e r = (
      r.count ∙ ap (λ p. min (front * p) (length old)) e,
      r.stored
          ∙ ap (λ B. filled (flat_map (λ m. map (word_sum A n m) (take front old)) B) old)
          (take_all place (block A n v 0) (omega (arith, block-length A L n v 0 hv pv (zero-word v hv pv)))),
    )
