-- The lines of the page, one by one.
use Rattle.std.specs.Prelude.{ℕ, cond, List, [], ◌∷◌, length, codes, decimal, ◌==◌}
use Rattle.levels.specs.Arithmetic.{Arithmetic}
use Rattle.preferences.specs.Relation.{Relation}
use Rattle.aliasing.specs.Pattern.{pattern, resolution}
use Rattle.aliasing.specs.Clear.{clear_bytes, ones_in}
use Rattle.contents.specs.declared.side.Side.{Side}
use Rattle.contents.specs.Content.{Content}
use Rattle.plan.specs.Answers.{chosen, defined}
use Rattle.page.specs.Page.{fields, line, resolution_fields, shown}

-- levels, factors and counts of words
abbrev pub head_line : Arithmetic → Content → List ℕ
head_line A p = line (codes "plan") (fields decimal (A.s ∷ p.factors ∷ length p.defining ∷ length p.block ∷ []))

-- the resolution
abbrev pub resolution_line : Arithmetic → Content → List ℕ
resolution_line A p = line (codes "resolution") (resolution_fields (resolution A p.factors (defined A p)))

-- the wordlength pattern
abbrev pub pattern_line : Arithmetic → Content → List ℕ
pattern_line A p = line (codes "pattern") (fields decimal (pattern A p.factors (defined A p)))

-- the generators of a side, behind a label
abbrev pub generators_line : Arithmetic → List ℕ → Relation → Side → Content → List ℕ
generators_line A label good side p = line label (fields (shown A p.factors) (chosen A good side p))

-- the number of clear pairs, with two levels alone
abbrev pub clear_line : Arithmetic → Content → List ℕ
clear_line A p = cond (A.s == 2) (line (codes "clear") (fields decimal (ones_in (clear_bytes p.factors p.defining) ∷ []))) []
