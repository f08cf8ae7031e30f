-- The trial page, byte by byte.
use Rattle.std.specs.Prelude.{ℕ, suc, ◌+◌, cond, List, [], ◌∷◌, ◌++◌, length, Some, None, codes, decimal, Option, ◌==◌, nat_lt}
use Rattle.levels.specs.Arithmetic.{Arithmetic}
use Rattle.levels.specs.Words.{digits}
use Rattle.preferences.specs.Built.{shortest, least_aberration}
use Rattle.aliasing.specs.Pattern.{pattern, resolution}
use Rattle.aliasing.specs.Clear.{clear_bytes, ones_in}
use Rattle.contents.specs.declared.side.Side.TheVariants.{Defining, Block}
use Rattle.contents.specs.Content.{Content}
use Rattle.plan.specs.Answers.{defined, chosen}

-- the letter of a factor, from 0: A to Z, then a to f
abbrev pub letter_of : ℕ → ℕ
letter_of i = cond (nat_lt i 26) (65 + i) (71 + i)

-- the letters of a word's digits, from factor i on: a digit other than 0 and 1 follows its letter
abbrev pub letters : ℕ → List ℕ → List ℕ
letters i [] = []
letters i (d ∷ ds) = cond (d == 0) [] (letter_of i ∷ cond (d == 1) [] (decimal d)) ++ letters (suc i) ds

abbrev pub shown : Arithmetic → ℕ → ℕ → List ℕ
shown A n w = letters 0 (digits A n w)

-- fields, each behind one space
abbrev pub fields : (ℕ → List ℕ) → List ℕ → List ℕ
fields show [] = []
fields show (x ∷ xs) = 32 ∷ show x ++ fields show xs

-- a line: its label, its fields, and a newline
abbrev pub line : List ℕ → List ℕ → List ℕ
line label rest = label ++ rest ++ 10 ∷ []

-- the resolution and its count, or none
abbrev pub resolution_fields : Option (ℕ × ℕ) → List ℕ
resolution_fields None = codes " none"
resolution_fields (Some r) = fields decimal (r.0 ∷ r.1 ∷ [])

-- the page: what the plan holds, what its defining words generate, the generators of both sides, clear pairs with two levels
abbrev pub page : Arithmetic → Content → List ℕ
page A p =
    line (codes "plan") (fields decimal (A.s ∷ p.factors ∷ length p.defining ∷ length p.block ∷ []))
    ++ line (codes "resolution") (resolution_fields (resolution A p.factors (defined A p)))
    ++ line (codes "pattern") (fields decimal (pattern A p.factors (defined A p)))
    ++ line (codes "defining") (fields (shown A p.factors) (chosen A (shortest A) Defining p))
    ++ line (codes "blocks") (fields (shown A p.factors) (chosen A (least_aberration A) Block p))
    ++ cond (A.s == 2) (line (codes "clear") (fields decimal (ones_in (clear_bytes p.factors p.defining) ∷ []))) []
