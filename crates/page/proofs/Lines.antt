-- A line is written field by field, a word digit by digit.
use Rattle.std.proofs.Common.{◌≡◌, ℕ, suc, ◌+◌, ◌-◌, ◌/◌, ◌%◌, ◌^◌, ◌<◌, ◌≤◌, zero, cond, eqb, List, [], ◌∷◌, ◌++◌, length, get_or, take, drop, decimal, refl, sym, ap, ◌∙◌, add-one, arith}
use Rattle.std.proofs.lemmas.List.{append_assoc, append-nil, length-append, length-take, at_drop_more, at_drop_all, take_all}
use Rattle.std.proofs.lemmas.Bool.{cond-false, ne_eqb}
use Rattle.levels.specs.Arithmetic.{Arithmetic}
use Rattle.levels.specs.Words.{digits}
use Rattle.page.specs.Page.{fields, letter_of, letters, line}
use Rattle.page.specs.Written.{written}
use Rattle.page.specs.declared.sheet.Sheet.{Sheet}

-- the length of a line
pub length_line : (label rest : List ℕ) → length (line label rest) ≡ length label + length rest + 1
length_line label rest = length-append (label ++ rest) (10 ∷ []) ∙ ap (λ k. k + 1) (length-append label rest)

-- what had no room is not missed where more is cut off
pub cut_more : (N : ℕ) (xs ys : List ℕ) → take N (take N xs ++ ys) ≡ take N (xs ++ ys)
cut_more zero xs ys = refl
cut_more (suc N) [] ys = refl
cut_more (suc N) (x ∷ xs) ys = ap (λ zs. x ∷ zs) (cut_more N xs ys)

-- more behind what was written before
pub then_more : (N : ℕ) (all more before now : List ℕ) → before ≡ take N all → now ≡ take N (before ++ more) → now ≡ take N (all ++ more)
then_more N all more before now b n = n ∙ ap (λ zs. take N (zs ++ more)) b ∙ cut_more N all more

-- nothing more leaves a sheet as it is
pub nothing_more : (sheet : Sheet) (xs : List ℕ) → xs ≡ [] → written sheet ≡ take 1024 (written sheet ++ xs)
nothing_more sheet xs e =
    let whole : take 1024 (written sheet) ≡ written sheet =
    take_all 1024 (written sheet) (omega (arith, length-take sheet.bytes.len sheet.bytes.places, sheet.bytes.few)) in
    sym (ap (λ zs. take 1024 (written sheet ++ zs)) e ∙ ap (take 1024) (append-nil (written sheet)) ∙ whole)

module _ (N : ℕ) (show : ℕ → List ℕ) (so_far start : List ℕ) (xs : List ℕ) (i : ℕ) (left : take N (so_far ++ fields show (drop i xs)) ≡ take N (start ++ fields show xs)) where
  -- one field more: a space, and what is shown
  pub field_more : i < length xs → (space next : List ℕ) → space ≡ take N (so_far ++ 32 ∷ []) → next ≡ take N (space ++ show (get_or xs i 0)) → take N (next ++ fields show (drop (i + 1) xs)) ≡ take N (start ++ fields show xs)
  field_more h space next s e =
      let x = show (get_or xs i 0) in
      let rest = fields show (drop (i + 1) xs) in
      let field = then_more N (so_far ++ 32 ∷ []) x space next s e in
      then_more N (so_far ++ 32 ∷ [] ++ x) rest next (take N (next ++ rest)) field refl
      ∙ ap (take N) (ap (λ zs. zs ++ rest) (append_assoc so_far (32 ∷ []) x) ∙ append_assoc so_far (32 ∷ x) rest ∙ ap (λ zs. so_far ++ zs) (sym (at_drop_more (fields show) xs i 0 h)))
      ∙ left

  -- a label, all fields and a newline are a line
  pub line_all : length xs ≤ i → (before label after : List ℕ) → start ≡ take N (before ++ label) → after ≡ take N (so_far ++ 10 ∷ []) → after ≡ take N (before ++ line label (fields show xs))
  line_all h before label after s e =
      let rest = fields show xs in
      let none : so_far ≡ so_far ++ fields show (drop i xs) = sym (append-nil so_far) ∙ ap (λ zs. so_far ++ zs) (sym (at_drop_all (fields show) xs i h)) in
      let all = ap (take N) none ∙ left ∙ then_more N (before ++ label) rest start (take N (start ++ rest)) s refl in
      then_more N (before ++ label ++ rest) (10 ∷ []) (take N so_far) after all (e ∙ sym (cut_more N so_far (10 ∷ [])))
      ∙ ap (take N) (ap (λ zs. zs ++ 10 ∷ []) (append_assoc before label rest) ∙ append_assoc before (label ++ rest) (10 ∷ []))

-- the letter of one digit, and the digit
abbrev pub mark : ℕ → ℕ → List ℕ
mark i d = cond (eqb d 0) [] (letter_of i ∷ cond (eqb d 1) [] (decimal d))

-- a digit above 1 stands behind its letter
pub mark_above : (i d : ℕ) → (d ≡ 0 → ⊥) → (d ≡ 1 → ⊥) → letters i (d ∷ []) ≡ letter_of i ∷ decimal d
mark_above i d a b =
    append-nil (mark i d) ∙ cond-false (eqb d 0) [] (letter_of i ∷ cond (eqb d 1) [] (decimal d)) (ne_eqb d 0 a)
    ∙ ap (λ zs. letter_of i ∷ zs) (cond-false (eqb d 1) [] (decimal d) (ne_eqb d 1 b))

module _ (N : ℕ) (A : Arithmetic) (n i rest : ℕ) (so_far all : List ℕ) (left : take N (so_far ++ letters i (digits A (n - i) rest)) ≡ all) (h : i < n) where
  -- the digits that are left: the next one and those behind it
  next_digit : letters i (digits A (n - i) rest) ≡ mark i (rest % 2 ^ A.bits) ++ letters (i + 1) (digits A (n - (i + 1)) (rest / 2 ^ A.bits))
  next_digit =
      let k : n - i ≡ suc (n - (i + 1)) = omega arith in
      ap (λ m. letters i (digits A m rest)) k
      ∙ ap (λ j. mark i (rest % 2 ^ A.bits) ++ letters j (digits A (n - (i + 1)) (rest / 2 ^ A.bits))) (sym (add-one i))

  -- one digit more
  pub digit_more : (next : List ℕ) → next ≡ take N (so_far ++ letters i (rest % 2 ^ A.bits ∷ [])) → take N (next ++ letters (i + 1) (digits A (n - (i + 1)) (rest / 2 ^ A.bits))) ≡ all
  digit_more next e =
      let m = mark i (rest % 2 ^ A.bits) in
      let more = letters (i + 1) (digits A (n - (i + 1)) (rest / 2 ^ A.bits)) in
      then_more N (so_far ++ m) more next (take N (next ++ more)) (e ∙ ap (λ zs. take N (so_far ++ zs)) (append-nil m)) refl
      ∙ ap (take N) (append_assoc so_far m more ∙ ap (λ zs. so_far ++ zs) (sym next_digit)) ∙ left
