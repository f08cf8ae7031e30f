-- Each count is exact: the generated words of a length come in groups of s − 1, the multiples of a word by the levels other than 0.
use Rattle.std.specs.List.{AllByRecursion}
use Rattle.std.proofs.Common.{◌≡◌, ℕ, zero, suc, ◌+◌, ◌-◌, ◌*◌, ◌/◌, ◌<◌, ◌≤◌, Bool, true, false, cond, ◌&&◌, eqb, leb, List, [], ◌∷◌, map, sym, refl, ap, ◌∙◌, subst, inl, inr, suc-mul, one-mul, mul-zero, zero-mul, arith}
use native.Mathlib.Nat.{mul-div_cancel_left}
use Rattle.std.proofs.lemmas.Bool.{cases_eq, eqb-true, ne_eqb}
use Rattle.std.proofs.lemmas.Bool.Decides.{nat_tests, same_from_decides, Decides-like, Decides-eqb}
use Rattle.levels.specs.Arithmetic.{Arithmetic, Lawful}
use Rattle.levels.specs.Words.{digits, nonzero, word_length, word_multiple}
use Rattle.levels.specs.Space.{Word}
use Rattle.levels.specs.Generated.{combinations, generated, ascending}
use Rattle.levels.specs.Alias.{how_many, of_length}
use Rattle.levels.proofs.Digits.{word_legal}
use Rattle.levels.proofs.Space.{times_zero, zero_level, multiple_digits, multiple_is_word, vector_space}
use Rattle.levels.proofs.Lengths.{length_digits, zero_length}
use Rattle.levels.proofs.Leads.{no_divisors}
use Rattle.levels.proofs.Places.{In, in_map_from, in_map}
use Rattle.levels.proofs.Generation.{generates_word}
use Rattle.levels.proofs.Any.{in_range_or_none, none_generates, any_multiple}
use Rattle.levels.proofs.Ascending.{in_ascending, in_ascending_from, ascending_same, ascending_once, how_many_map, how_many_same, how_many_none, how_many_moved, how_many_times}
use Rattle.levels.proofs.Multiplicity.{in_generated, in_generated_from}
use Rattle.aliasing.specs.Pattern.{Divides}

-- the first digit that is not 0; 0 if there is none
abbrev first : List ℕ → ℕ
first [] = 0
first (d ∷ ds) = cond (eqb d 0) (first ds) d

-- where a digit is not 0, the first is not
first_positive : (ds : List ℕ) → 1 ≤ nonzero ds → 1 ≤ first ds
first_positive [] h = absurd (omega arith)
first_positive (d ∷ ds) h = elim (cases_eq d 0) [
  | inl e ↦ let k : 1 ≤ nonzero ds = grind (arith, nat_tests) in let r = first_positive ds k in grind (arith, nat_tests)
  | inr n ↦ grind (arith, nat_tests)
]

-- it is a level where all digits are
first_level : (s : ℕ) → 0 < s → (ds : List ℕ) → AllByRecursion (λ d. d < s) ds → first ds < s
first_level s p [] f = p
first_level s p (d ∷ ds) f = let k = first_level s p ds f.1 in let h = f.0 in grind (arith, nat_tests)

-- one value more of f
one_more : (p : ℕ → Bool) (f : ℕ → ℕ) (k : ℕ) (xs : List ℕ) → how_many (λ x. p x && leb (f x) (suc k)) xs ≡ how_many (λ x. p x && leb (f x) k) xs + how_many (λ x. p x && eqb (f x) (suc k)) xs
one_more p f k [] = refl
one_more p f k (x ∷ xs) = let r = one_more p f k xs in let h = here (p x) (f x) in omega arith
  where
    here : (b : Bool) (v : ℕ) → ◌≡◌ {A = ℕ} (cond (b && leb v (suc k)) 1 0) (cond (b && leb v k) 1 0 + cond (b && eqb v (suc k)) 1 0)
    here b v = grind (arith, nat_tests)

-- what passes a test where f is from 1 to k, if m do at each value
by_value : (p : ℕ → Bool) (f : ℕ → ℕ) (m k : ℕ) (xs : List ℕ) → ((x : ℕ) → In x xs → p x ≡ true → 1 ≤ f x) →
    ((d : ℕ) → 1 ≤ d → d ≤ k → how_many (λ x. p x && eqb (f x) d) xs ≡ m) → how_many (λ x. p x && leb (f x) k) xs ≡ k * m
by_value p f m zero xs low each =
    how_many_none (λ x. p x && leb (f x) 0) xs (λ x i. none (p x) (f x) (low x i)) ∙ sym (zero-mul m)
  where
    none : (b : Bool) (v : ℕ) → (b ≡ true → 1 ≤ v) → (b && leb v 0) ≡ false
    none true v h = let l = h refl in grind (arith, nat_tests)
    none false v h = refl
by_value p f m (suc k) xs low each =
    let r = by_value p f m k xs low (λ d l h. each d l (omega arith)) in
    omega (arith, one_more p f k xs, each (suc k) (omega arith) (omega arith), suc-mul k m)

module _ (A : Arithmetic) (L : Lawful A) where
  -- a level times 0 is 0
  zero_times : (c : ℕ) → c < A.s → A.times c 0 ≡ 0
  zero_times c l = L.field.times_comm c 0 l (zero_level A L) ∙ times_zero A L c l

  -- a product of levels other than 0 is not 0
  product_zero : (c d : ℕ) → c < A.s → 0 < c → d < A.s → eqb (A.times c d) 0 ≡ eqb d 0
  product_zero c d lc pc ld =
      same_from_decides (eqb (A.times c d) 0) (eqb d 0)
      (Decides-like (eqb (A.times c d) 0)
      (λ e. no_divisors A L d c ld lc pc (L.field.times_comm d c ld lc ∙ e))
      (λ e. ap (A.times c) e ∙ zero_times c lc)
      (Decides-eqb (A.times c d) 0))
      (Decides-eqb d 0)

  -- as many digits of a multiple are not 0
  nonzero_multiple : (c : ℕ) → c < A.s → 0 < c → (ds : List ℕ) → AllByRecursion (λ d. d < A.s) ds → nonzero (map (A.times c) ds) ≡ nonzero ds
  nonzero_multiple c lc pc [] f = refl
  nonzero_multiple c lc pc (d ∷ ds) f = cc (product_zero c d lc pc f.0, nonzero_multiple c lc pc ds f.1)

  -- the first digit of a multiple is the multiple of the first
  first_multiple : (c : ℕ) → c < A.s → 0 < c → (ds : List ℕ) → AllByRecursion (λ d. d < A.s) ds → first (map (A.times c) ds) ≡ A.times c (first ds)
  first_multiple c lc pc [] f = sym (zero_times c lc)
  first_multiple c lc pc (d ∷ ds) f =
      cc (product_zero c d lc pc f.0, first_multiple c lc pc ds f.1, into (eqb d 0) (first ds) d)
    where
      into : (b : Bool) (x y : ℕ) → cond b (A.times c x) (A.times c y) ≡ A.times c (cond b x y)
      into true x y = refl
      into false x y = refl

  -- a multiple of a level by c is c exactly if the level is 1
  times_self : (c x : ℕ) → c < A.s → 0 < c → x < A.s → eqb (A.times c x) c ≡ eqb x 1
  times_self c x lc pc lx =
      let F = L.field in
      let i = F.inverse c lc pc in
      let b = i.0 in
      same_from_decides (eqb (A.times c x) c) (eqb x 1)
      (Decides-like (eqb (A.times c x) c)
      (λ e. cc (F.times_assoc b c x i.1 lc lx, F.times_comm b c i.1 lc, i.2, F.times_one x lx))
      (λ e. cc (F.times_comm c 1 lc F.two_levels, F.times_one c lc))
      (Decides-eqb (A.times c x) c))
      (Decides-eqb x 1)

  module _ (n : ℕ) where
    -- the first digit of a word that is not 0
    abbrev head : ℕ → ℕ
    head w = first (digits A n w)

    -- a multiple by a level other than 0 is as long
    pub multiple-length : (c w : ℕ) → c < A.s → 0 < c → Word A n w → word_length A (word_multiple A n c w) ≡ word_length A w
    multiple-length c w lc pc h =
        length_digits A n (word_multiple A n c w) (multiple_is_word A L n c w lc h)
        ∙ ap nonzero (multiple_digits A L n c w lc h)
        ∙ nonzero_multiple c lc pc (digits A n w) (word_legal A n w h).levels
        ∙ sym (length_digits A n w h)

    -- its first digit is the multiple of the first
    multiple-head : (c w : ℕ) → c < A.s → 0 < c → Word A n w → head (word_multiple A n c w) ≡ A.times c (head w)
    multiple-head c w lc pc h =
        ap first (multiple_digits A L n c w lc h) ∙ first_multiple c lc pc (digits A n w) (word_legal A n w h).levels

    module _ (low : 1 ≤ n) (high : n ≤ 32) (ws : List ℕ) where
      -- a multiple, and its multiple by the inverse, is the word
      multiple-back : (c d w : ℕ) → c < A.s → d < A.s → A.times c d ≡ 1 → Word A n w → word_multiple A n c (word_multiple A n d w) ≡ w
      multiple-back c d w lc ld e h =
          let S = vector_space A L n low high in
          S.multiple_times c d w lc ld h ∙ ap (λ k. word_multiple A n k w) e ∙ S.multiple_one w h

      -- what stands in the list of generated words is a word
      member-word : (x : ℕ) → In x (generated A n ws) → Word A n x
      member-word x q = generates_word A L n (vector_space A L n low high) ws x (in_generated_from A L n ws x q)

      -- a multiple of a generated word is one
      member-multiple : (c x : ℕ) → In x (generated A n ws) → In (word_multiple A n c x) (generated A n ws)
      member-multiple c x q =
          in_generated A L n ws (word_multiple A n c x) (any_multiple A L n (vector_space A L n) ws c x (in_generated_from A L n ws x q))

      -- a test passes as often in the multiples of all generated words by a level other than 0
      multiples-many : (c : ℕ) → c < A.s → 0 < c → (p : ℕ → Bool) → how_many p (map (word_multiple A n c) (generated A n ws)) ≡ how_many p (generated A n ws)
      multiples-many c lc pc p =
          let cs = combinations A n ws in
          let gs = generated A n ws in
          let f = word_multiple A n c in
          let i = L.field.inverse c lc pc in
          let b = i.0 in
          let forth : A.times b c ≡ 1 = L.field.times_comm b c i.1 lc ∙ i.2 in
          let back : (x : ℕ) → In x gs → word_multiple A n b (f x) ≡ x = λ x q. multiple-back b c x i.1 lc forth (member-word x q) in
          let once = how_many_times p 1 (map f gs)
          (λ x q. let r = in_map_from f gs x q in
          ap (λ v. how_many (eqb v) (map f gs)) r.2
          ∙ how_many_moved f r.0 gs (λ y t e. sym (back r.0 r.1) ∙ ap (word_multiple A n b) e ∙ back y t)
          ∙ ascending_once cs r.0 (in_ascending_from cs r.0 r.1)) in
          let same : ascending (map f gs) ≡ gs = ascending_same (map f gs) cs
          (λ z q. let r = in_map_from f gs z q in
          subst (λ v. In v cs) (sym r.2) (in_ascending_from cs (f r.0) (member-multiple c r.0 r.1)))
          (λ z q. let g = in_ascending cs z q in
          subst (λ v. In v (map f gs)) (multiple-back c b z lc i.1 i.2 (member-word z g)) (in_map f gs (word_multiple A n b z) (member-multiple b z g))) in
          once ∙ one-mul (how_many p (ascending (map f gs))) ∙ ap (how_many p) same

      -- as many generated words of a length begin with a level other than 0 as begin with 1
      same-heads : (i c : ℕ) → c < A.s → 0 < c →
          how_many (λ w. eqb (word_length A w) i && eqb (head w) c) (generated A n ws) ≡ how_many (λ w. eqb (word_length A w) i && eqb (head w) 1) (generated A n ws)
      same-heads i c lc pc =
          let gs = generated A n ws in
          let f = word_multiple A n c in
          sym (multiples-many c lc pc (λ w. eqb (word_length A w) i && eqb (head w) c))
          ∙ how_many_map (λ w. eqb (word_length A w) i && eqb (head w) c) f gs
          ∙ how_many_same (λ w. eqb (word_length A (f w)) i && eqb (head (f w)) c) (λ w. eqb (word_length A w) i && eqb (head w) 1) gs
          (λ w q. let h = member-word w q in
          cc (
            multiple-length c w lc pc h,
            multiple-head c w lc pc h,
            times_self c (head w) lc pc (first_level A.s (zero_level A L) (digits A n w) (word_legal A n w h).levels),
          ))

      -- the generated words of a length are s − 1 times those that begin with 1
      by_heads : (i : ℕ) → 1 ≤ i → of_length A i (generated A n ws) ≡ (A.s - 1) * how_many (λ w. eqb (word_length A w) i && eqb (head w) 1) (generated A n ws)
      by_heads i l =
          let gs = generated A n ws in
          let p : ℕ → Bool = λ w. eqb (word_length A w) i in
          let two = L.field.two_levels in
          how_many_same p (λ w. p w && leb (head w) (A.s - 1)) gs
          (λ w q. within (p w) (head w) (first_level A.s (zero_level A L) (digits A n w) (word_legal A n w (member-word w q)).levels))
          ∙ by_value p head (how_many (λ w. p w && eqb (head w) 1) gs) (A.s - 1) gs
          (λ w q e. first_positive (digits A n w) (omega (arith, length_digits A n w (member-word w q), eqb-true (word_length A w) i e)))
          (λ d ld hd. same-heads i d (omega arith) (omega arith))
        where
          within : (b : Bool) (v : ℕ) → v < A.s → b ≡ (b && leb v (A.s - 1))
          within b v h = grind (arith, nat_tests)

-- a multiple of s − 1 is s − 1 times its quotient
exact : (k m x : ℕ) → 0 < k → x ≡ k * m → x ≡ k * (x / k)
exact k m x p e = e ∙ ap (λ v. k * v) (sym (ap (λ v. v / k) e ∙ mul-div_cancel_left m p))

-- the division by s − 1 leaves no rest
pub generated_divides : (A : Arithmetic) → Lawful A → (n : ℕ) (ws : List ℕ) → Divides A (generated A n ws)
generated_divides A L n ws i l =
    let p : 0 < A.s - 1 = omega (arith, L.field.two_levels) in
    elim (in_range_or_none A n) [
      | inl r ↦ exact (A.s - 1) (how_many (λ w. eqb (word_length A w) i && eqb (head A L n w) 1) (generated A n ws)) (of_length A i (generated A n ws)) p (by_heads A L n r.0 r.1 ws i l)
      | inr z ↦ exact (A.s - 1) 0 (of_length A i (generated A n ws)) p
          (how_many_none (λ w. eqb (word_length A w) i) (generated A n ws)
          (λ w q. let e = ap (word_length A) ((none_generates A L n z ws w).0 (in_generated_from A L n ws w q)) ∙ zero_length A in
          ne_eqb (word_length A w) i (λ t. omega arith))
          ∙ sym (mul-zero (A.s - 1)))
    ]
