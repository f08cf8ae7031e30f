-- A basis of the words of a plan.
use Rattle.std.specs.Prelude.{ℕ, List}
use Rattle.levels.specs.Arithmetic.{Arithmetic}
use Rattle.levels.specs.Generated.{SameWords}
use Rattle.levels.specs.Basis.{Echelon}
use Rattle.contents.specs.Content.{Content, both}

-- rows are a basis of the words of a plan: in echelon form, and they generate what both lists generate together
pub record BasisOf (A : Arithmetic) (p : Content) (rows : List ℕ) : Type 0 where
  pub echelon : Echelon A p.factors rows
  pub same : SameWords A p.factors rows (both p)
