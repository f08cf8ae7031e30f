-- The digit of one word at the highest digit of another that is not 0: where it is 0, the one is smallest by the other.
use Rattle.std.specs.List.{AllByRecursion}
use Rattle.std.proofs.Common.{◌≡◌, ℕ, ◌^◌, ◌<◌, ◌≤◌, Bool, true, false, cond, eqb, List, [], ◌∷◌, map, length, sym, refl, ap, ◌∙◌, inl, inr, le_of_eq, arith}
use Rattle.std.proofs.lemmas.Nat.{mul-add-lt}
use Rattle.std.proofs.lemmas.Bool.{cases_eq}
use Rattle.std.proofs.lemmas.Bool.Decides.{nat_tests}
use Rattle.levels.specs.Arithmetic.{Arithmetic, Lawful}
use Rattle.levels.specs.Words.{digits, code, zip_with, nonzero, word_sum, word_multiple}
use Rattle.levels.specs.Space.{Word}
use Rattle.levels.specs.Basis.{Smallest}
use Rattle.levels.proofs.Digits.{digits_length, digits_fit, word_legal}
use Rattle.levels.proofs.Space.{times_zero, zero_level, word_code, sum_digits, multiple_digits, sum_is_word, multiple_is_word, vector_space}

-- the digit of xs at the highest place where vs has a digit other than 0; 0 if there is no such place
abbrev pub lead : List ℕ → List ℕ → ℕ
lead [] xs = 0
lead (v ∷ vs) [] = 0
lead (v ∷ vs) (x ∷ xs) = cond (eqb (nonzero vs) 0) (cond (eqb v 0) 0 x) (lead vs xs)

-- a choice of two results, digit by digit
cond_zip : (f : ℕ → ℕ → ℕ) (b : Bool) (x x' y y' : ℕ) → cond b (f x y) (f x' y') ≡ f (cond b x x') (cond b y y')
cond_zip f true x x' y y' = refl
cond_zip f false x x' y y' = refl

-- and of one
cond_map : (f : ℕ → ℕ) (b : Bool) (x x' : ℕ) → cond b (f x) (f x') ≡ f (cond b x x')
cond_map f true x x' = refl
cond_map f false x x' = refl

-- the lead of a sum, digit by digit, is the sum of the leads
lead_zip : (f : ℕ → ℕ → ℕ) → f 0 0 ≡ 0 → (vs xs ys : List ℕ) → length xs ≡ length ys → lead vs (zip_with f xs ys) ≡ f (lead vs xs) (lead vs ys)
lead_zip f e [] xs ys l = sym e
lead_zip f e (v ∷ vs) [] [] l = sym e
lead_zip f e (v ∷ vs) [] (y ∷ ys) l = absurd (omega arith)
lead_zip f e (v ∷ vs) (x ∷ xs) [] l = absurd (omega arith)
lead_zip f e (v ∷ vs) (x ∷ xs) (y ∷ ys) l =
    cc (
      e,
      lead_zip f e vs xs ys (omega arith),
      cond_zip f (eqb v 0) 0 x 0 y,
      cond_zip f (eqb (nonzero vs) 0) (cond (eqb v 0) 0 x) (lead vs xs) (cond (eqb v 0) 0 y) (lead vs ys),
    )

-- the lead of a multiple is the multiple of the lead
lead_map : (f : ℕ → ℕ) → f 0 ≡ 0 → (vs xs : List ℕ) → lead vs (map f xs) ≡ f (lead vs xs)
lead_map f e [] xs = sym e
lead_map f e (v ∷ vs) [] = sym e
lead_map f e (v ∷ vs) (x ∷ xs) =
    cc (e, lead_map f e vs xs, cond_map f (eqb v 0) 0 x, cond_map f (eqb (nonzero vs) 0) (cond (eqb v 0) 0 x) (lead vs xs))

-- where a digit is not 0, the lead by the list itself is not 0
lead_self : (vs : List ℕ) → 0 < nonzero vs → 0 < lead vs vs
lead_self [] h = h
lead_self (v ∷ vs) h = elim (cases_eq (nonzero vs) 0) [
  | inl e ↦ grind (arith, nat_tests)
  | inr d ↦ let k = lead_self vs (omega (arith, d)) in grind (arith, nat_tests)
]

-- where all digits are 0, so is the lead
lead_none : (vs xs : List ℕ) → nonzero vs ≡ 0 → lead vs xs ≡ 0
lead_none [] xs e = refl
lead_none (v ∷ vs) [] e = refl
lead_none (v ∷ vs) (x ∷ xs) e = grind (arith, nat_tests)

-- a lead is one of the digits, or 0
lead_below : (s : ℕ) → 0 < s → (vs xs : List ℕ) → AllByRecursion (λ d. d < s) xs → lead vs xs < s
lead_below s p [] xs f = p
lead_below s p (v ∷ vs) [] f = p
lead_below s p (v ∷ vs) (x ∷ xs) f = let k = lead_below s p vs xs f.1 in let h = f.0 in grind (arith, nat_tests)

-- xs and ys are as long as vs, and alike above the highest digit of vs that is not 0
abbrev Alike : List ℕ → List ℕ → List ℕ → Type 0
Alike [] xs ys = Unit {0}
Alike (v ∷ vs) [] ys = ⊥
Alike (v ∷ vs) (x ∷ xs) [] = ⊥
Alike (v ∷ vs) (x ∷ xs) (y ∷ ys) = (nonzero vs ≡ 0 → xs ≡ ys) × Alike vs xs ys

-- alike either way round
alike_back : (vs xs ys : List ℕ) → Alike vs xs ys → Alike vs ys xs
alike_back [] xs ys h = tt
alike_back (v ∷ vs) [] ys h = absurd h
alike_back (v ∷ vs) (x ∷ xs) [] h = absurd h
alike_back (v ∷ vs) (x ∷ xs) (y ∷ ys) h = ((λ e. sym (h.0 e)), alike_back vs xs ys h.1)

-- lists alike above the lead compare as their leads do
code_order : (A : Arithmetic) (vs xs ys : List ℕ) → AllByRecursion (λ d. d < 2 ^ A.bits) xs → Alike vs xs ys → lead vs xs < lead vs ys → code A xs < code A ys
code_order A [] xs ys f h l = absurd (omega arith)
code_order A (v ∷ vs) [] ys f h l = absurd h
code_order A (v ∷ vs) (x ∷ xs) [] f h l = absurd h
code_order A (v ∷ vs) (x ∷ xs) (y ∷ ys) f h l = elim (cases_eq (nonzero vs) 0) [
  | inl e ↦
      let k : x < y = grind (arith, nat_tests) in
      rw (h.0 e) (omega arith)
  | inr d ↦
      let k : lead vs xs < lead vs ys = grind (arith, nat_tests) in
      omega (arith, mul-add-lt (code A xs) (2 ^ A.bits) x (code A ys) (code_order A vs xs ys f.1 h.1 k) f.0)
]

module _ (A : Arithmetic) (L : Lawful A) where
  -- adding multiples of zeros changes nothing
  zip_nothing : (c : ℕ) → c < A.s → (vs xs : List ℕ) → nonzero vs ≡ 0 → length xs ≡ length vs → AllByRecursion (λ d. d < A.s) xs →
      xs ≡ zip_with A.plus xs (map (A.times c) vs)
  zip_nothing c lc vs [] e l f = refl
  zip_nothing c lc [] (x ∷ xs) e l f = absurd (omega arith)
  zip_nothing c lc (v ∷ vs) (x ∷ xs) e l f =
      let F = L.field in
      let z = zero_level A L in
      let h : v ≡ 0 = grind (arith, nat_tests) in
      cc (
        h,
        F.times_comm c 0 lc z,
        times_zero A L c lc,
        F.plus_comm x 0 f.0 z,
        F.plus_zero x f.0,
        zip_nothing c lc vs xs (omega arith) (omega arith) f.1,
      )

  -- adding a multiple of vs changes nothing above its highest digit that is not 0
  alike_zip : (c : ℕ) → c < A.s → (vs xs : List ℕ) → length xs ≡ length vs → AllByRecursion (λ d. d < A.s) xs →
      Alike vs xs (zip_with A.plus xs (map (A.times c) vs))
  alike_zip c lc [] xs l f = tt
  alike_zip c lc (v ∷ vs) [] l f = absurd (omega arith)
  alike_zip c lc (v ∷ vs) (x ∷ xs) l f =
      ((λ e. zip_nothing c lc vs xs e (omega arith) f.1), alike_zip c lc vs xs (omega arith) f.1)

  -- a product of levels other than 0 is not 0
  pub no_divisors : (a b : ℕ) → a < A.s → b < A.s → 0 < b → A.times a b ≡ 0 → a ≡ 0
  no_divisors a b la lb pb e =
      let F = L.field in
      let i = F.inverse b lb pb in
      cc (F.times_assoc a b i.0 la lb i.1, i.2, F.times_comm a 1 la F.two_levels, F.times_one a la, times_zero A L i.0 i.1)

  -- some multiple of a level other than 0 cancels a given level
  cancels : (a b : ℕ) → a < A.s → b < A.s → 0 < b → (c : ℕ) × (c < A.s) × (A.plus a (A.times c b) ≡ 0)
  cancels a b la lb pb =
      let F = L.field in
      let o = F.opposite a la in
      let i = F.inverse b lb pb in (
        A.times o.0 i.0,
        F.times_level o.0 i.0 o.1 i.1,
        cc (
          F.times_assoc o.0 i.0 b o.1 i.1 lb,
          F.times_comm i.0 b i.1 lb,
          i.2,
          F.times_comm o.0 1 o.1 F.two_levels,
          F.times_one o.0 o.1,
          o.2,
        ),
      )

module _ (A : Arithmetic) (L : Lawful A) (n v : ℕ) (hv : Word A n v) where
  -- the digit of w at the highest digit of v that is not 0
  abbrev Lead : ℕ → ℕ
  Lead w = lead (digits A n v) (digits A n w)

  -- w and a multiple of v
  abbrev Plus : ℕ → ℕ → ℕ
  Plus w c = word_sum A n w (word_multiple A n c v)

  -- as many digits as v has
  same_count : (w : ℕ) → length (digits A n w) ≡ length (digits A n v)
  same_count w = digits_length A n w ∙ sym (digits_length A n v)

  -- a lead is a level
  lead_level : (w : ℕ) → Word A n w → Lead w < A.s
  lead_level w hw = lead_below A.s (zero_level A L) (digits A n v) (digits A n w) (word_legal A n w hw).levels

  -- the lead of a sum is the sum of the leads
  lead_sum : (a b : ℕ) → Word A n a → Word A n b → Lead (word_sum A n a b) ≡ A.plus (Lead a) (Lead b)
  lead_sum a b ha hb =
      ap (lead (digits A n v)) (sum_digits A L n a b ha hb)
      ∙ lead_zip A.plus (L.field.plus_zero 0 (zero_level A L)) (digits A n v) (digits A n a) (digits A n b) (digits_length A n a ∙ sym (digits_length A n b))

  -- the lead of a multiple is the multiple of the lead
  lead_multiple : (c a : ℕ) → c < A.s → Word A n a → Lead (word_multiple A n c a) ≡ A.times c (Lead a)
  lead_multiple c a lc ha =
      ap (lead (digits A n v)) (multiple_digits A L n c a lc ha)
      ∙ lead_map (A.times c) (L.field.times_comm c 0 lc (zero_level A L) ∙ times_zero A L c lc) (digits A n v) (digits A n a)

  -- the digits of w and a multiple of v
  plus_digits : (w c : ℕ) → Word A n w → c < A.s → digits A n (Plus w c) ≡ zip_with A.plus (digits A n w) (map (A.times c) (digits A n v))
  plus_digits w c hw lc =
      cc (sum_digits A L n w (word_multiple A n c v) hw (multiple_is_word A L n c v lc hv), multiple_digits A L n c v lc hv)

  -- w and a multiple of v is a word
  plus_word : (w c : ℕ) → Word A n w → c < A.s → Word A n (Plus w c)
  plus_word w c hw lc = sum_is_word A L n w (word_multiple A n c v) hw (multiple_is_word A L n c v lc hv)

  -- w and w with a multiple of v are alike above the lead
  alike_plus : (w c : ℕ) → Word A n w → c < A.s → Alike (digits A n v) (digits A n w) (digits A n (Plus w c))
  alike_plus w c hw lc = rw (plus_digits w c hw lc) (alike_zip A L c lc (digits A n v) (digits A n w) (same_count w) (word_legal A n w hw).levels)

  -- the lead of w and a multiple of v
  lead_plus : (w c : ℕ) → Word A n w → c < A.s → Lead (Plus w c) ≡ A.plus (Lead w) (A.times c (Lead v))
  lead_plus w c hw lc =
      cc (lead_sum w (word_multiple A n c v) hw (multiple_is_word A L n c v lc hv), lead_multiple c v lc hv)

  -- a smallest word has lead 0
  pub smallest_clear : (w : ℕ) → Word A n w → Smallest A n v w → Lead w ≡ 0
  smallest_clear w hw small = elim (cases_eq (nonzero (digits A n v)) 0) [
    | inl e ↦ lead_none (digits A n v) (digits A n w) e
    | inr d ↦
        let k = cancels A L (Lead w) (Lead v) (lead_level w hw) (lead_level v hv) (lead_self (digits A n v) (omega (arith, d))) in
        let e = lead_plus w k.0 hw k.1 in
        let z = k.2 in
        let le = small k.0 k.1 in
        elim (cases_eq (Lead w) 0) [
          | inl z ↦ z
          | inr p ↦
              let lt = code_order A (digits A n v) (digits A n (Plus w k.0)) (digits A n w) (digits_fit A n (Plus w k.0))
              (alike_back (digits A n v) (digits A n w) (digits A n (Plus w k.0)) (alike_plus w k.0 hw k.1))
              (omega (arith, p)) in
              absurd (omega (arith, word_code A L n w hw, word_code A L n (Plus w k.0) (plus_word w k.0 hw k.1)))
        ]
  ]

  -- a word with lead 0 is smallest
  pub clear_smallest : (w : ℕ) → Word A n w → Lead w ≡ 0 → Smallest A n v w
  clear_smallest w hw e c lc =
      let same : nonzero (digits A n v) ≡ 0 → w ≤ Plus w c
      = λ none. le_of_eq (cc (
        zip_nothing A L c lc (digits A n v) (digits A n w) none (same_count w) (word_legal A n w hw).levels,
        plus_digits w c hw lc,
        word_code A L n w hw,
        word_code A L n (Plus w c) (plus_word w c hw lc),
      )) in
      let V = vector_space A L n (word_legal A n w hw).low (word_legal A n w hw).high in
      let level = L.field.times_level c (Lead v) lc (lead_level v hv) in
      elim (cases_eq (nonzero (digits A n v)) 0) [
        | inl none ↦ same none
        | inr d ↦ elim (cases_eq (A.times c (Lead v)) 0) [
          | inl z ↦
              let c0 = no_divisors A L c (Lead v) lc (lead_level v hv) (lead_self (digits A n v) (omega (arith, d))) z in
              le_of_eq (cc (c0, V.multiple_zero v hv, V.sum_comm w 0 hw V.zero_word, V.sum_zero w hw))
          | inr p ↦
              let le = lead_plus w c hw lc in
              let pz = L.field.plus_zero (A.times c (Lead v)) level in
              let more : Lead (Plus w c) ≡ A.times c (Lead v) = cc in
              let lt = code_order A (digits A n v) (digits A n w) (digits A n (Plus w c)) (digits_fit A n w) (alike_plus w c hw lc) (omega (arith, p)) in
              omega (arith, word_code A L n w hw, word_code A L n (Plus w c) (plus_word w c hw lc))
        ]
      ]

  -- smallest words are closed under sums
  pub smallest_sum : (a b : ℕ) → Word A n a → Word A n b → Smallest A n v a → Smallest A n v b → Smallest A n v (word_sum A n a b)
  smallest_sum a b ha hb sa sb =
      clear_smallest (word_sum A n a b) (sum_is_word A L n a b ha hb)
      (cc (lead_sum a b ha hb, smallest_clear a ha sa, smallest_clear b hb sb, L.field.plus_zero 0 (zero_level A L)))

  -- and under multiples
  pub smallest_multiple : (c a : ℕ) → c < A.s → Word A n a → Smallest A n v a → Smallest A n v (word_multiple A n c a)
  smallest_multiple c a lc ha sa =
      clear_smallest (word_multiple A n c a) (multiple_is_word A L n c a lc ha)
      (cc (lead_multiple c a lc ha, smallest_clear a ha sa, L.field.times_comm c 0 lc (zero_level A L), times_zero A L c lc))
