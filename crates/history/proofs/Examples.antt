-- The reference plans compute.
use Rattle.std.proofs.Common.{◌≡◌, ℕ, ◌+◌, T, ltb, List, [], ◌∷◌, ◌++◌, codes, decimal, refl, ap, ◌∙◌, lit<}
use Rattle.std.proofs.lemmas.Fmt.{decimal_digit}
use Rattle.levels.specs.Arithmetic.{two}
use Rattle.page.specs.Page.{fields, line, page}
use Rattle.levels.specs.Words.{word_length}
use Rattle.history.specs.Questions.{in_bytes}
use Rattle.history.specs.Reference.{ReferencePlans, eight, printed}

-- a number below ten is one digit
one : (n : ℕ) → T (ltb n 10) → decimal n ≡ (48 + n) ∷ []
one n t = decimal_digit n (lit< t)

-- the lines with numbers, before the numbers are spelt
abbrev lines : (ℕ → List ℕ) → List ℕ → List ℕ → List ℕ
lines show defining blocks =
    line (codes "plan") (fields show (2 ∷ 8 ∷ 3 ∷ 3 ∷ []))
    ++ line (codes "resolution") (fields show (4 ∷ 5 ∷ []))
    ++ line (codes "pattern") (fields show (0 ∷ 0 ∷ 0 ∷ 5 ∷ 0 ∷ 2 ∷ 0 ∷ 0 ∷ []))
    ++ defining ++ blocks ++ line (codes "clear") (fields show (4 ∷ []))

printed_lines : page two eight ≡ lines decimal (line (codes "defining ABCF ABDG ACEH") []) (line (codes "blocks AD BD CD") [])
unfolding word_length
printed_lines = refl

in_digits : (defining blocks : List ℕ) → lines decimal defining blocks ≡ lines (λ n. (48 + n) ∷ []) defining blocks
in_digits defining blocks = simp (one 0 tt, one 2 tt, one 3 tt, one 4 tt, one 5 tt, one 8 tt)

page_of_eight : page two eight ≡ printed
page_of_eight = printed_lines ∙ in_digits (line (codes "defining ABCF ABDG ACEH") []) (line (codes "blocks AD BD CD") [])

pub reference_plans : ReferencePlans
unfolding word_length
reference_plans = record {
  eight_is_left = refl;
  longest_blocks = λ m. refl;
  least_aberration_blocks = λ m. refl;
  page_of_eight = λ m. ap (λ bytes. in_bytes bytes m) page_of_eight;
  alias_set_of_six = λ m. refl;
  members_of_six = refl;
  cheapest_blocks = λ m. refl;
  three_level_pattern = λ m. refl;
  three_level_shortest = λ m. refl;
  runs_of_three = refl;
  two_runs_of_three = λ m. refl;
  known_words = refl;
  six_factors = refl;
  six_factors_take_63 = refl;
  one_factor_of_three_levels = refl;
  one_factor_takes_2 = refl;
  starts = refl;
  three_level_sum = refl;
}
