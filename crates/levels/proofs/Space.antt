-- Legal words of n factors form a vector space over the levels.
use Rattle.std.specs.List.{AllByRecursion}
use Rattle.std.proofs.Common.{◌≡◌, ℕ, zero, suc, ◌*◌, ◌<◌, ◌≤◌, false, ◌&&◌, ltb, List, [], ◌∷◌, map, length, replicate, sym, refl, ap, ◌∙◌, inl, inr, arith}
use native.Mathlib.Nat.{zero-div, zero-mod}
use Rattle.std.proofs.lemmas.List.{length-map}
use Rattle.std.proofs.lemmas.Nat.{pow_pos}
use Rattle.std.proofs.lemmas.Bool.{and_from, and_left, and_right, cases_Bool, cond-true, cond-false, lt-ltb, le-ltb}
use Rattle.levels.specs.Arithmetic.{Arithmetic, Lawful}
use Rattle.levels.specs.Words.{digits, code, legal, zip_with, word_sum, word_multiple}
use Rattle.levels.specs.Space.{Word, VectorSpace}
use Rattle.levels.proofs.Digits.{digits_length, code_digits, digits_of_code, code_word, word_legal, legal_word}

-- every digit of code 0 is 0
pub zero_digits : (A : Arithmetic) (n : ℕ) → digits A n 0 ≡ replicate n 0
zero_digits A zero = refl
zero_digits A (suc n) = rw (zero-mod, zero-div, zero_digits A n)

-- digit by digit keeps the number of digits
pub zip_length : (f : ℕ → ℕ → ℕ) (xs ys : List ℕ) → length xs ≡ length ys → length (zip_with f xs ys) ≡ length xs
zip_length f [] ys e = refl
zip_length f (x ∷ xs) [] e = sym e
zip_length f (x ∷ xs) (y ∷ ys) e = ap suc (zip_length f xs ys (omega arith))

module _ (A : Arithmetic) (L : Lawful A) where
  -- a list of levels
  abbrev Levels : List ℕ → Type 0
  Levels ds = AllByRecursion (λ d. d < A.s) ds

  -- 0 is a level
  pub zero_level : 0 < A.s
  zero_level = omega (arith, L.field.two_levels)

  -- 0 times a level is 0
  pub times_zero : (d : ℕ) → d < A.s → A.times 0 d ≡ 0
  times_zero d l =
      let F = L.field in
      let z = A.times d 0 in
      let lz : z < A.s = F.times_level d 0 l zero_level in
      let o = F.opposite z lz in
      cc (
        F.times_comm 0 d zero_level l,
        F.distribute d 0 0 l zero_level zero_level,
        F.plus_zero 0 zero_level,
        F.plus_assoc z z o.0 lz lz o.1,
        o.2,
        F.plus_comm z 0 lz zero_level,
        F.plus_zero z lz,
      )

  -- sums of levels, digit by digit, are levels
  zip_levels : (xs ys : List ℕ) → Levels xs → Levels ys → Levels (zip_with A.plus xs ys)
  zip_levels [] ys f g = tt
  zip_levels (x ∷ xs) [] f g = tt
  zip_levels (x ∷ xs) (y ∷ ys) f g = (L.field.plus_level x y f.0 g.0, zip_levels xs ys f.1 g.1)

  -- and so are multiples by a level
  map_levels : (c : ℕ) → c < A.s → (xs : List ℕ) → Levels xs → Levels (map (A.times c) xs)
  map_levels c l [] f = tt
  map_levels c l (x ∷ xs) f = (L.field.times_level c x l f.0, map_levels c l xs f.1)

  -- the sum digit by digit, either way round
  zip_comm : (xs ys : List ℕ) → Levels xs → Levels ys → zip_with A.plus xs ys ≡ zip_with A.plus ys xs
  zip_comm [] [] f g = refl
  zip_comm [] (y ∷ ys) f g = refl
  zip_comm (x ∷ xs) [] f g = refl
  zip_comm (x ∷ xs) (y ∷ ys) f g = cc (L.field.plus_comm x y f.0 g.0, zip_comm xs ys f.1 g.1)

  -- in either grouping
  zip_assoc : (xs ys zs : List ℕ) → Levels xs → Levels ys → Levels zs →
      zip_with A.plus (zip_with A.plus xs ys) zs ≡ zip_with A.plus xs (zip_with A.plus ys zs)
  zip_assoc [] ys zs f g h = refl
  zip_assoc (x ∷ xs) [] zs f g h = refl
  zip_assoc (x ∷ xs) (y ∷ ys) [] f g h = refl
  zip_assoc (x ∷ xs) (y ∷ ys) (z ∷ zs) f g h = cc (L.field.plus_assoc x y z f.0 g.0 h.0, zip_assoc xs ys zs f.1 g.1 h.1)

  -- with zeros
  zip_zero : (xs : List ℕ) → Levels xs → zip_with A.plus (replicate (length xs) 0) xs ≡ xs
  zip_zero [] f = refl
  zip_zero (x ∷ xs) f = cc (L.field.plus_zero x f.0, zip_zero xs f.1)

  -- digits that add up to 0 with the given ones
  zip_opposite : (xs : List ℕ) → Levels xs → (ys : List ℕ) × (length ys ≡ length xs) × Levels ys × (zip_with A.plus xs ys ≡ replicate (length xs) 0)
  zip_opposite [] f = ([], refl, tt, refl)
  zip_opposite (x ∷ xs) f =
      let o = L.field.opposite x f.0 in
      let r = zip_opposite xs f.1 in
      (o.0 ∷ r.0, ap suc r.1, (o.1, r.2), cc (o.2, r.3))

  -- 0 times each digit is 0
  map_zero : (xs : List ℕ) → Levels xs → map (A.times 0) xs ≡ replicate (length xs) 0
  map_zero [] f = refl
  map_zero (x ∷ xs) f = cc (times_zero x f.0, map_zero xs f.1)

  -- 1 times each digit is the digit
  map_one : (xs : List ℕ) → Levels xs → map (A.times 1) xs ≡ xs
  map_one [] f = refl
  map_one (x ∷ xs) f = cc (L.field.times_one x f.0, map_one xs f.1)

  -- two products after one another are one product
  map_times : (c d : ℕ) → c < A.s → d < A.s → (xs : List ℕ) → Levels xs → map (A.times c) (map (A.times d) xs) ≡ map (A.times (A.times c d)) xs
  map_times c d lc ld [] f = refl
  map_times c d lc ld (x ∷ xs) f = cc (L.field.times_assoc c d x lc ld f.0, map_times c d lc ld xs f.1)

  -- a sum of two levels times each digit
  map_plus : (c d : ℕ) → c < A.s → d < A.s → (xs : List ℕ) → Levels xs →
      map (A.times (A.plus c d)) xs ≡ zip_with A.plus (map (A.times c) xs) (map (A.times d) xs)
  map_plus c d lc ld [] f = refl
  map_plus c d lc ld (x ∷ xs) f =
      let F = L.field in
      cc (
        F.times_comm (A.plus c d) x (F.plus_level c d lc ld) f.0,
        F.distribute x c d f.0 lc ld,
        F.times_comm x c f.0 lc,
        F.times_comm x d f.0 ld,
        map_plus c d lc ld xs f.1,
      )

  -- a level times a sum, digit by digit
  map_sum : (c : ℕ) → c < A.s → (xs ys : List ℕ) → Levels xs → Levels ys →
      map (A.times c) (zip_with A.plus xs ys) ≡ zip_with A.plus (map (A.times c) xs) (map (A.times c) ys)
  map_sum c l [] ys f g = refl
  map_sum c l (x ∷ xs) [] f g = refl
  map_sum c l (x ∷ xs) (y ∷ ys) f g = cc (L.field.distribute c x y l f.0 g.0, map_sum c l xs ys f.1 g.1)

  -- the digits of a word are levels
  word_levels : (n w : ℕ) → Word A n w → Levels (digits A n w)
  word_levels n w h = (word_legal A n w h).levels

  -- a word is the code of its digits
  pub word_code : (n w : ℕ) → Word A n w → code A (digits A n w) ≡ w
  word_code n w h = code_digits A n w (word_legal A n w h).below

  -- code 0 is a word
  pub zero_is_word : (n : ℕ) → 1 ≤ n → n ≤ 32 → Word A n 0
  zero_is_word n low high = legal_word A n 0 (record { low = low; high = high; below = pow_pos (A.bits * n); levels = zeros n })
    where
      zeros : (k : ℕ) → Levels (digits A k 0)
      zeros zero = tt
      zeros (suc k) = rw (zero-mod, zero-div) (zero_level, zeros k)

  -- the sum of two words is the code of the sums of their digits
  pub sum_is : (n a b : ℕ) → Word A n a → Word A n b → word_sum A n a b ≡ code A (zip_with A.plus (digits A n a) (digits A n b))
  sum_is n a b ha hb =
      cond-true (legal A n a && legal A n b) (code A (zip_with A.plus (digits A n a) (digits A n b))) 0 (and_from (legal A n a) (legal A n b) ha hb)

  -- it has n digits
  zip_count : (n a b : ℕ) → length (zip_with A.plus (digits A n a) (digits A n b)) ≡ n
  zip_count n a b =
      zip_length A.plus (digits A n a) (digits A n b) (digits_length A n a ∙ sym (digits_length A n b)) ∙ digits_length A n a

  -- its digits are those sums
  pub sum_digits : (n a b : ℕ) → Word A n a → Word A n b → digits A n (word_sum A n a b) ≡ zip_with A.plus (digits A n a) (digits A n b)
  sum_digits n a b ha hb =
      ap (digits A n) (sum_is n a b ha hb)
      ∙ digits_of_code A L n (zip_with A.plus (digits A n a) (digits A n b)) (zip_count n a b)
      (zip_levels (digits A n a) (digits A n b) (word_levels n a ha) (word_levels n b hb))

  -- it is a word
  pub sum_is_word : (n a b : ℕ) → Word A n a → Word A n b → Word A n (word_sum A n a b)
  sum_is_word n a b ha hb =
      let l = word_legal A n a ha in
      rw (sum_is n a b ha hb)
      (code_word A L n l.low l.high (zip_with A.plus (digits A n a) (digits A n b)) (zip_count n a b)
      (zip_levels (digits A n a) (digits A n b) (word_levels n a ha) (word_levels n b hb)))

  -- a multiple is the code of the products of its digits
  pub multiple_is : (n c w : ℕ) → c < A.s → Word A n w → word_multiple A n c w ≡ code A (map (A.times c) (digits A n w))
  multiple_is n c w l h =
      cond-true (ltb c A.s && legal A n w) (code A (map (A.times c) (digits A n w))) 0 (and_from (ltb c A.s) (legal A n w) (lt-ltb c A.s l) h)

  -- it has n digits
  map_count : (n c w : ℕ) → length (map (A.times c) (digits A n w)) ≡ n
  map_count n c w = length-map (digits A n w) (A.times c) ∙ digits_length A n w

  -- its digits are those products
  pub multiple_digits : (n c w : ℕ) → c < A.s → Word A n w → digits A n (word_multiple A n c w) ≡ map (A.times c) (digits A n w)
  multiple_digits n c w l h =
      ap (digits A n) (multiple_is n c w l h)
      ∙ digits_of_code A L n (map (A.times c) (digits A n w)) (map_count n c w) (map_levels c l (digits A n w) (word_levels n w h))

  -- it is a word
  pub multiple_is_word : (n c w : ℕ) → c < A.s → Word A n w → Word A n (word_multiple A n c w)
  multiple_is_word n c w l h =
      let k = word_legal A n w h in
      rw (multiple_is n c w l h)
      (code_word A L n k.low k.high (map (A.times c) (digits A n w)) (map_count n c w) (map_levels c l (digits A n w) (word_levels n w h)))

  -- as many zeros as a word has digits are the digits of code 0
  zeros_of : (n w : ℕ) → replicate (length (digits A n w)) 0 ≡ digits A n 0
  zeros_of n w = ap (λ k. replicate k 0) (digits_length A n w) ∙ sym (zero_digits A n)

  -- and their code is 0
  zero_code : (n : ℕ) → code A (digits A n 0) ≡ 0
  zero_code n = code_digits A n 0 (pow_pos (A.bits * n))

  -- words add up either way round
  sum_comm : (n a b : ℕ) → Word A n a → Word A n b → word_sum A n a b ≡ word_sum A n b a
  sum_comm n a b ha hb =
      sum_is n a b ha hb ∙ ap (code A) (zip_comm (digits A n a) (digits A n b) (word_levels n a ha) (word_levels n b hb)) ∙ sym (sum_is n b a hb ha)

  -- in either grouping
  sum_assoc : (n a b c : ℕ) → Word A n a → Word A n b → Word A n c → word_sum A n (word_sum A n a b) c ≡ word_sum A n a (word_sum A n b c)
  sum_assoc n a b c ha hb hc =
      cc (
        sum_is n (word_sum A n a b) c (sum_is_word n a b ha hb) hc,
        sum_digits n a b ha hb,
        zip_assoc (digits A n a) (digits A n b) (digits A n c) (word_levels n a ha) (word_levels n b hb) (word_levels n c hc),
        sum_digits n b c hb hc,
        sum_is n a (word_sum A n b c) ha (sum_is_word n b c hb hc),
      )

  -- word 0 adds nothing
  sum_zero : (n a : ℕ) → Word A n 0 → Word A n a → word_sum A n 0 a ≡ a
  sum_zero n a h0 ha = cc (sum_is n 0 a h0 ha, zeros_of n a, zip_zero (digits A n a) (word_levels n a ha), word_code n a ha)

  -- to each word there is one that adds up to 0 with it
  sum_opposite : (n a : ℕ) → Word A n a → (b : ℕ) × Word A n b × (word_sum A n a b ≡ 0)
  sum_opposite n a ha =
      let l = word_legal A n a ha in
      let o = zip_opposite (digits A n a) (word_levels n a ha) in
      let count : length o.0 ≡ n = o.1 ∙ digits_length A n a in
      let hb = code_word A L n l.low l.high o.0 count o.2 in
      (code A o.0, hb, cc (sum_is n a (code A o.0) ha hb, digits_of_code A L n o.0 count o.2, o.3, zeros_of n a, zero_code n))

  -- 0 times a word is 0
  multiple_zero : (n a : ℕ) → Word A n a → word_multiple A n 0 a ≡ 0
  multiple_zero n a ha = cc (multiple_is n 0 a zero_level ha, map_zero (digits A n a) (word_levels n a ha), zeros_of n a, zero_code n)

  -- 1 times a word is the word
  pub multiple_one : (n a : ℕ) → Word A n a → word_multiple A n 1 a ≡ a
  multiple_one n a ha = cc (multiple_is n 1 a L.field.two_levels ha, map_one (digits A n a) (word_levels n a ha), word_code n a ha)

  -- two products after one another are one product
  multiple_times : (n c d a : ℕ) → c < A.s → d < A.s → Word A n a → word_multiple A n c (word_multiple A n d a) ≡ word_multiple A n (A.times c d) a
  multiple_times n c d a lc ld ha =
      cc (
        multiple_is n c (word_multiple A n d a) lc (multiple_is_word n d a ld ha),
        multiple_digits n d a ld ha,
        map_times c d lc ld (digits A n a) (word_levels n a ha),
        multiple_is n (A.times c d) a (L.field.times_level c d lc ld) ha,
      )

  -- a sum of two levels times a word
  multiple_plus : (n c d a : ℕ) → c < A.s → d < A.s → Word A n a →
      word_multiple A n (A.plus c d) a ≡ word_sum A n (word_multiple A n c a) (word_multiple A n d a)
  multiple_plus n c d a lc ld ha =
      cc (
        multiple_is n (A.plus c d) a (L.field.plus_level c d lc ld) ha,
        map_plus c d lc ld (digits A n a) (word_levels n a ha),
        multiple_digits n c a lc ha,
        multiple_digits n d a ld ha,
        sum_is n (word_multiple A n c a) (word_multiple A n d a) (multiple_is_word n c a lc ha) (multiple_is_word n d a ld ha),
      )

  -- twice a word is its sum with itself
  pub multiple_double : (n a : ℕ) → Word A n a → word_multiple A n (A.plus 1 1) a ≡ word_sum A n a a
  multiple_double n a ha = let one = L.field.two_levels in cc (multiple_plus n 1 1 a one one ha, multiple_one n a ha)

  -- a level times a sum of two words
  multiple_sum : (n c a b : ℕ) → c < A.s → Word A n a → Word A n b →
      word_multiple A n c (word_sum A n a b) ≡ word_sum A n (word_multiple A n c a) (word_multiple A n c b)
  multiple_sum n c a b l ha hb =
      cc (
        multiple_is n c (word_sum A n a b) l (sum_is_word n a b ha hb),
        sum_digits n a b ha hb,
        map_sum c l (digits A n a) (digits A n b) (word_levels n a ha) (word_levels n b hb),
        multiple_digits n c a l ha,
        multiple_digits n c b l hb,
        sum_is n (word_multiple A n c a) (word_multiple A n c b) (multiple_is_word n c a l ha) (multiple_is_word n c b l hb),
      )

  -- words of n factors form a vector space over the levels
  pub vector_space : (n : ℕ) → 1 ≤ n → n ≤ 32 → VectorSpace A n
  vector_space n low high = record {
    zero_word = zero_is_word n low high;
    sum_word = sum_is_word n;
    sum_comm = sum_comm n;
    sum_assoc = sum_assoc n;
    sum_zero = λ a. sum_zero n a (zero_is_word n low high);
    opposite = sum_opposite n;
    multiple_word = multiple_is_word n;
    multiple_zero = multiple_zero n;
    multiple_one = multiple_one n;
    multiple_times = multiple_times n;
    multiple_plus = multiple_plus n;
    multiple_sum = multiple_sum n;
  }

module _ (A : Arithmetic) where
  -- there are no words unless the number of factors is from 1 to 32
  pub no_words : (n : ℕ) → ((1 ≤ n) × (n ≤ 32) → ⊥) → (w : ℕ) → legal A n w ≡ false
  no_words n out w =
      elim (cases_Bool (legal A n w)) [ inl t ↦ absurd (out ((word_legal A n w t).low, (word_legal A n w t).high)) | inr f ↦ f ]

  -- an illegal word has code 0 as each multiple
  pub illegal_multiple : (n c w : ℕ) → legal A n w ≡ false → word_multiple A n c w ≡ 0
  illegal_multiple n c w f =
      cond-false (ltb c A.s && legal A n w) (code A (map (A.times c) (digits A n w))) 0 (and_right (ltb c A.s) (legal A n w) f)

  -- and so has each word times a number that is no level
  pub no_level_multiple : (n c w : ℕ) → A.s ≤ c → word_multiple A n c w ≡ 0
  no_level_multiple n c w g =
      cond-false (ltb c A.s && legal A n w) (code A (map (A.times c) (digits A n w))) 0 (and_left (ltb c A.s) (legal A n w) (le-ltb c A.s g))

-- 0 times a code is 0, legal or not
pub zero_times : (A : Arithmetic) → Lawful A → (n w : ℕ) → word_multiple A n 0 w ≡ 0
zero_times A L n w = elim (cases_Bool (legal A n w)) [ inl h ↦ multiple_zero A L n w h | inr f ↦ illegal_multiple A n 0 w f ]
