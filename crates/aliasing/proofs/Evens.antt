-- Every word that a list generates is even exactly if every legal word of the list is.
use Rattle.std.proofs.Common.{◌≡◌, ℕ, suc, ◌+◌, ◌%◌, ◌^◌, ◌<◌, ◌≤◌, true, not, ◌&&◌, ◌||◌, eqb, List, [], ◌∷◌, Decides, sym, refl, ap, ◌∙◌, subst, ap₂, inl, inr, one-mul, arith}
use lib.Bits.{bit_xor}
use Rattle.std.proofs.lemmas.Bool.{and_parts, and_from, or_left, or_right, or_cases, cases_Bool, cases_lt, cond_both, eqb-true, eq-eqb, not-true, not_from_false}
use Rattle.std.proofs.lemmas.Bool.Decides.{same_from_decides}
use Rattle.levels.specs.Arithmetic.{two}
use Rattle.levels.specs.Words.{digits, code, zip_with, legal, word_sum, word_multiple}
use Rattle.levels.specs.Space.{Word, AllWords}
use Rattle.levels.specs.Generated.{combination, generated, holds, Generates}
use Rattle.levels.proofs.Any.{any_tail}
use Rattle.levels.proofs.Digits.{digits_fit, word_legal, legal_word}
use Rattle.levels.proofs.Generation.{generates_head}
use Rattle.levels.specs.Lawful.{lawful_two}
use Rattle.levels.proofs.Masks.{xor_sum}
use Rattle.levels.proofs.Sets.{generated_holds, holds_here, holds_there, holds_split}
use Rattle.levels.proofs.Space.{sum_is, multiple_one, illegal_multiple, no_level_multiple, zero_times, vector_space}
use Rattle.aliasing.specs.Runs.{all_even, is_run, Run}
use Rattle.aliasing.specs.Table.{odd, evens, legal_evens}
use Rattle.aliasing.proofs.Parity.{odd_sum, odd_blank, all_even_bits}

-- a legal code has no letter beyond factor n
pub word_below : (n w : ℕ) → Word two n w → w < 2 ^ n
word_below n w h = subst (λ k. w < 2 ^ k) (one-mul n) (word_legal two n w h).below

-- a run is below 2 to the power of n
pub run_below : (n : ℕ) (ws : List ℕ) (m x : ℕ) → Run n ws m x → x < 2 ^ n
run_below n ws m x run = subst (λ k. x < 2 ^ k) (one-mul n) (word_legal two n x (and_parts _ _ run.runs).0).below

-- a code without a letter beyond factor n is legal
pub below_word : (n w : ℕ) → 1 ≤ n → n ≤ 32 → w < 2 ^ n → Word two n w
below_word n w low high l =
    legal_word two n w (record { low = low; high = high; below = rw (one-mul n) l; levels = digits_fit two n w })

-- the sum of two words is the exclusive or of their codes
pub sum_xor : (n a b : ℕ) → Word two n a → Word two n b → word_sum two n a b ≡ bit_xor a b
sum_xor n a b ha hb = sum_is two lawful_two n a b ha hb ∙ sym (xor_sum n a b (word_below n a ha) (word_below n b hb))

-- the sum of even words is even
even_sum : (n x a b : ℕ) → x < 2 ^ n → odd x a ≡ 0 → odd x b ≡ 0 → odd x (word_sum two n a b) ≡ 0
even_sum n x a b l ea eb =
    cond_both (legal two n a && legal two n b) (code two (zip_with two.plus (digits two n a) (digits two n b))) 0 (λ v. odd x v ≡ 0)
    (λ t. let p = and_parts (legal two n a) (legal two n b) t in
    ap (odd x) (sym (xor_sum n a b (word_below n a p.0) (word_below n b p.1))) ∙ odd_sum n x a b l ∙ ap₂ (λ c d. (c + d) % 2) ea eb)
    (λ f. odd_blank x)

-- a multiple of a word that is even where it is legal is even
even_multiple : (n x c w : ℕ) → (Word two n w → odd x w ≡ 0) → odd x (word_multiple two n c w) ≡ 0
even_multiple n x c w e = elim (cases_Bool (legal two n w)) [
  | inr f ↦ ap (odd x) (illegal_multiple two n c w f) ∙ odd_blank x
  | inl t ↦ elim (cases_lt c 2) [
    | inr g ↦ ap (odd x) (no_level_multiple two n c w g) ∙ odd_blank x
    | inl l ↦ elim (cases_lt c 1) [
      | inl z ↦
          let e₀ : c ≡ 0 = omega arith in
          ap (odd x) (ap (λ k. word_multiple two n k w) e₀ ∙ zero_times two lawful_two n w) ∙ odd_blank x
      | inr o ↦
          let e₁ : c ≡ 1 = omega arith in
          ap (odd x) (ap (λ k. word_multiple two n k w) e₁ ∙ multiple_one two lawful_two n w t) ∙ e t
    ]
  ]
]

-- a word is even if it is legal, as one test
legal_even : (n x w : ℕ) → (not (legal two n w) || eqb (odd x w) 0) ≡ true → Word two n w → odd x w ≡ 0
legal_even n x w t h = elim (or_cases (not (legal two n w)) (eqb (odd x w) 0) t) [
  | inl f ↦ let z : ◌≡◌ {A = ℕ} 0 1 = cc (not-true (legal two n w) f) in omega arith
  | inr e ↦ eqb-true (odd x w) 0 e
]

-- sums of multiples of even words are even
even_combination : (n x : ℕ) → x < 2 ^ n → (ws : List ℕ) → legal_evens n ws x ≡ true → (cs : List ℕ) → odd x (combination two n cs ws) ≡ 0
even_combination n x l [] t cs = odd_blank x
even_combination n x l (w ∷ ws) t [] = odd_blank x
even_combination n x l (w ∷ ws) t (c ∷ cs) =
    let p = and_parts (not (legal two n w) || eqb (odd x w) 0) (legal_evens n ws x) t in
    even_sum n x (word_multiple two n c w) (combination two n cs ws) l (even_multiple n x c w (legal_even n x w p.0)) (even_combination n x l ws p.1 cs)

-- legal words are even where all that the list generates is
words_even : (n x : ℕ) → 1 ≤ n → n ≤ 32 → (ws : List ℕ) → ((w : ℕ) → Generates two n ws w → odd x w ≡ 0) → legal_evens n ws x ≡ true
words_even n x low high [] all = refl
words_even n x low high (w ∷ ws) all =
    let V = vector_space two lawful_two n in
    and_from (not (legal two n w) || eqb (odd x w) 0) (legal_evens n ws x)
    (elim (cases_Bool (legal two n w)) [
      | inl t ↦ or_right (not (legal two n w)) (eqb (odd x w) 0) (eq-eqb (odd x w) 0 (all w (generates_head two lawful_two n (V low high) w ws t)))
      | inr f ↦ or_left (not (legal two n w)) (eqb (odd x w) 0) (not_from_false (legal two n w) f)
    ])
    (words_even n x low high ws (λ v g. all v (any_tail two lawful_two n V w ws v g)))

-- all words of a list are even, one by one
evens_hold : (x : ℕ) (ws : List ℕ) → Decides (evens ws x) ((w : ℕ) → holds ws w ≡ true → odd x w ≡ 0)
evens_hold x [] = ((λ t w h. let z : ◌≡◌ {A = ℕ} 0 1 = cc in omega arith), λ all. refl)
evens_hold x (v ∷ vs) = (
  (λ t w h.
      let p = and_parts (eqb (odd x v) 0) (evens vs x) t in
      elim (holds_split v vs w h) [ inl e ↦ ap (odd x) (sym e) ∙ eqb-true (odd x v) 0 p.0 | inr g ↦ (evens_hold x vs).0 p.1 w g ]),
  (λ all.
      and_from (eqb (odd x v) 0) (evens vs x) (eq-eqb (odd x v) 0 (all v (holds_here v vs)))
      ((evens_hold x vs).1 (λ w h. all w (holds_there v vs w h)))),
)

-- everything generated is even exactly if the legal words are
pub evens_generated : (n x : ℕ) → 1 ≤ n → n ≤ 32 → x < 2 ^ n → (ws : List ℕ) → evens (generated two n ws) x ≡ legal_evens n ws x
evens_generated n x low high l ws =
    let h = evens_hold x (generated two n ws) in
    let g = generated_holds two lawful_two n ws in
    same_from_decides {P = (w : ℕ) → Generates two n ws w → odd x w ≡ 0} (evens (generated two n ws) x) (legal_evens n ws x)
    ((λ t w i. h.0 t w ((g w).1 i)), λ all. h.1 (λ w t. all w ((g w).0 t)))
    ((λ t w i. ap (odd x) i.1 ∙ even_combination n x l ws t i.0), words_even n x low high ws)

-- where all words are legal, the legal ones are all
pub legal_evens_all : (n : ℕ) (ws : List ℕ) (x : ℕ) → AllWords two n ws → legal_evens n ws x ≡ evens ws x
legal_evens_all n [] x all = refl
legal_evens_all n (w ∷ ws) x all =
    ap₂ (λ a b. (not a || eqb (odd x w) 0) && b) (all 0 (omega arith)) (legal_evens_all n ws x (λ i l. all (suc i) (omega arith)))

-- a run of what the words generate, by the legal words alone
pub run_test : (n x : ℕ) → 1 ≤ n → n ≤ 32 → x < 2 ^ n → (ws : List ℕ) → is_run n (generated two n ws) x ≡ legal_evens n ws x
run_test n x low high l ws =
    ap (λ b. b && all_even n (generated two n ws) x) (below_word n x low high l)
    ∙ all_even_bits n (generated two n ws) x l
    ∙ evens_generated n x low high l ws

-- where all words are legal, the runs of what they generate are their runs
pub runs_by_words : (n : ℕ) (ws : List ℕ) (x : ℕ) → AllWords two n ws → is_run n (generated two n ws) x ≡ is_run n ws x
runs_by_words n ws x all = elim (cases_Bool (legal two n x)) [
  | inr f ↦ ap (λ b. b && all_even n (generated two n ws) x) f ∙ sym (ap (λ b. b && all_even n ws x) f)
  | inl t ↦
      let h = word_legal two n x t in
      let l = word_below n x t in
      run_test n x h.low h.high l ws ∙ legal_evens_all n ws x all ∙ sym (all_even_bits n ws x l) ∙ sym (ap (λ b. b && all_even n ws x) t)
]
