-- Every arithmetic of two levels that keeps its laws is that of two levels.
use Rattle.std.specs.List.{AllByRecursion}
use Rattle.std.proofs.Common.{◌≡◌, ℕ, zero, suc, ◌<◌, cond, ◌&&◌, eqb, ltb, List, [], ◌∷◌, get_or, map, sym, refl, ap, ◌∙◌, subst, inl, inr, arith}
use Rattle.std.proofs.lemmas.Bool.{cases_lt, cond-true, eq-eqb}
use Rattle.levels.specs.Arithmetic.{Arithmetic, Field, Lawful, two, plus_modulo, times_modulo}
use Rattle.levels.specs.Words.{digits, code, legal, zip_with, word_sum, word_multiple}
use Rattle.levels.specs.Generated.{combination, Generates, Independent, SameWords, others}
use Rattle.levels.specs.Space.{AllWords}
use Rattle.levels.proofs.Digits.{digits_fit}
use Rattle.levels.proofs.Generation.{multiple_no_level}
use Rattle.contents.specs.Content.{Content, Kept, both}
use Rattle.contents.proofs.Membership.{limit_small}

-- a digit below 2 is 0 or 1
zero_or_one : (P : ℕ → Type 0) → P 0 → P 1 → (a : ℕ) → a < 2 → P a
zero_or_one P p0 p1 zero l = p0
zero_or_one P p0 p1 (suc zero) l = p1
zero_or_one P p0 p1 (suc (suc a)) l = absurd (omega arith)

-- functions that agree on the numbers of a list
map_same : (f g : ℕ → ℕ) (xs : List ℕ) → AllByRecursion (λ x. x < 2) xs → ((x : ℕ) → x < 2 → f x ≡ g x) → map f xs ≡ map g xs
map_same f g [] h same = refl
map_same f g (x ∷ xs) h same =
    ap (λ y. y ∷ map f xs) (same x h.0) ∙ ap (λ ys. g x ∷ ys) (map_same f g xs h.1 same)

-- functions that agree on the pairs of numbers of two lists
zip_same : (f g : ℕ → ℕ → ℕ) (xs ys : List ℕ) → AllByRecursion (λ x. x < 2) xs → AllByRecursion (λ y. y < 2) ys → ((x y : ℕ) → x < 2 → y < 2 → f x y ≡ g x y) → zip_with f xs ys ≡ zip_with g xs ys
zip_same f g [] ys h k same = refl
zip_same f g (x ∷ xs) [] h k same = refl
zip_same f g (x ∷ xs) (y ∷ ys) h k same =
    ap (λ z. z ∷ zip_with f xs ys) (same x y h.0 k.0) ∙ ap (λ zs. g x y ∷ zs) (zip_same f g xs ys h.1 k.1 same)

module _ (limit : ℕ) (plus times : ℕ → ℕ → ℕ) (F : Field 2 plus times) where
  -- an arithmetic of two levels, of one bit each
  abbrev other : Arithmetic
  other = record { s = 2; bits = 1; limit = limit; plus = plus; times = times }

  -- 0 is neutral on the right too
  one_zero : plus 1 0 ≡ 1
  one_zero = F.plus_comm 1 0 (omega arith) (omega arith) ∙ F.plus_zero 1 (omega arith)

  -- 1 has an opposite, and that is not 0
  one_one : plus 1 1 ≡ 0
  one_one =
      let o = F.opposite 1 (omega arith) in
      zero_or_one (λ b. plus 1 b ≡ 0 → plus 1 1 ≡ 0)
      (λ e. let z : ◌≡◌ {A = ℕ} 1 0 = sym one_zero ∙ e in absurd (omega arith)) (λ e. e) o.0 o.1 o.2

  -- the sum of two digits
  plus_same : (a b : ℕ) → a < 2 → b < 2 → plus a b ≡ plus_modulo 2 a b
  plus_same a b la lb =
      zero_or_one (λ x. plus x b ≡ plus_modulo 2 x b)
      (zero_or_one (λ y. plus 0 y ≡ plus_modulo 2 0 y) (F.plus_zero 0 (omega arith)) (F.plus_zero 1 (omega arith)) b lb)
      (zero_or_one (λ y. plus 1 y ≡ plus_modulo 2 1 y) one_zero one_one b lb)
      a la

  -- 1 is neutral on the right too
  zero_one : times 0 1 ≡ 0
  zero_one = F.times_comm 0 1 (omega arith) (omega arith) ∙ F.times_one 0 (omega arith)

  -- 0 is 1 + 1, and 0 times it is 0 + 0
  zero_zero : times 0 0 ≡ 0
  zero_zero =
      ap (times 0) (sym one_one) ∙ F.distribute 0 1 1 (omega arith) (omega arith) (omega arith)
      ∙ ap (λ x. plus x x) zero_one ∙ F.plus_zero 0 (omega arith)

  -- the product of two digits
  times_same : (a b : ℕ) → a < 2 → b < 2 → times a b ≡ times_modulo 2 a b
  times_same a b la lb =
      zero_or_one (λ x. times x b ≡ times_modulo 2 x b)
      (zero_or_one (λ y. times 0 y ≡ times_modulo 2 0 y) zero_zero zero_one b lb)
      (zero_or_one (λ y. times 1 y ≡ times_modulo 2 1 y) (F.times_one 0 (omega arith)) (F.times_one 1 (omega arith)) b lb)
      a la

  -- the sum of two words
  sum_same : (n a b : ℕ) → word_sum other n a b ≡ word_sum two n a b
  sum_same n a b =
      ap (λ ds. cond (legal two n a && legal two n b) (code two ds) 0)
      (zip_same plus (plus_modulo 2) (digits two n a) (digits two n b) (digits_fit two n a) (digits_fit two n b) plus_same)

  -- the multiples of a word
  multiple_same : (n c w : ℕ) → word_multiple other n c w ≡ word_multiple two n c w
  multiple_same n c w = elim (cases_lt c 2) [
    | inl l ↦
        ap (λ ds. cond (ltb c 2 && legal two n w) (code two ds) 0)
        (map_same (times c) (times_modulo 2 c) (digits two n w) (digits_fit two n w) (λ d. λ m. times_same c d l m))
    | inr g ↦ multiple_no_level other n c w g ∙ sym (multiple_no_level two n c w g)
  ]

  -- the sums of multiples
  other_combination : (n : ℕ) (cs ws : List ℕ) → combination other n cs ws ≡ combination two n cs ws
  other_combination n cs [] = refl
  other_combination n [] (w ∷ ws) = refl
  other_combination n (c ∷ cs) (w ∷ ws) =
      sum_same n (word_multiple other n c w) (combination other n cs ws)
      ∙ ap (λ x. word_sum two n x (combination other n cs ws)) (multiple_same n c w)
      ∙ ap (word_sum two n (word_multiple two n c w)) (other_combination n cs ws)

module _ (A : Arithmetic) (L : Lawful A) (e : A.s ≡ 2) where
  -- a digit takes one bit
  one_bit : A.bits ≡ 1
  one_bit = L.width ∙ cond-true (eqb A.s 2) 1 2 (eq-eqb A.s 2 e)

  -- sums of multiples are those of two levels
  pub same_combination : (n : ℕ) (cs ws : List ℕ) → combination A n cs ws ≡ combination two n cs ws
  same_combination n cs ws =
      subst (λ b. combination (record { s = A.s; bits = b; limit = A.limit; plus = A.plus; times = A.times }) n cs ws ≡ combination two n cs ws)
      (sym one_bit)
      (subst (λ s. Field s A.plus A.times → combination (record { s = s; bits = 1; limit = A.limit; plus = A.plus; times = A.times }) n cs ws ≡ combination two n cs ws)
      (sym e) (λ F. other_combination A.limit A.plus A.times F n cs ws) L.field)

  -- a list generates what it generates with two levels
  pub generates_two : (n : ℕ) (ws : List ℕ) (w : ℕ) → Generates A n ws w → Generates two n ws w
  generates_two n ws w g = (g.0, g.1 ∙ same_combination n g.0 ws)

  -- and the other way round
  pub generates_from_two : (n : ℕ) (ws : List ℕ) (w : ℕ) → Generates two n ws w → Generates A n ws w
  generates_from_two n ws w g = (g.0, g.1 ∙ sym (same_combination n g.0 ws))

  -- lists that generate the same words do so with two levels
  pub same_words_two : (n : ℕ) (us vs : List ℕ) → SameWords A n us vs → SameWords two n us vs
  same_words_two n us vs same w = (
    (λ g. generates_two n vs w ((same w).0 (generates_from_two n us w g))),
    (λ g. generates_two n us w ((same w).1 (generates_from_two n vs w g))),
  )

  -- a code is legal if it is with two levels
  legal_two : (n w : ℕ) → legal A n w ≡ legal two n w
  legal_two n w =
      subst (λ b. legal (record { s = A.s; bits = b; limit = A.limit; plus = A.plus; times = A.times }) n w ≡ legal two n w) (sym one_bit)
      (subst (λ s. legal (record { s = s; bits = 1; limit = A.limit; plus = A.plus; times = A.times }) n w ≡ legal two n w) (sym e) refl)

  -- words are words of two levels
  pub all_words_two : (n : ℕ) (ws : List ℕ) → AllWords A n ws → AllWords two n ws
  all_words_two n ws h i l = sym (legal_two n (get_or ws i 0)) ∙ h i l

  -- independent lists are independent with two levels
  pub independent_two : (n : ℕ) (ws : List ℕ) → Independent A n ws → Independent two n ws
  independent_two n ws h i l g = h i l (generates_from_two n (others ws i) (get_or ws i 0) g)

-- what a plan of two levels keeps it keeps under the arithmetic of two levels
pub kept_two : (A : Arithmetic) → Lawful A → A.s ≡ 2 → (p : Content) → Kept A p → Kept two p
kept_two A L e p k = record {
  low = k.low;
  high = k.high;
  few = omega (arith, k.few, limit_small A L);
  words = all_words_two A L e p.factors (both p) k.words;
  independent = independent_two A L e p.factors (both p) k.independent;
}
