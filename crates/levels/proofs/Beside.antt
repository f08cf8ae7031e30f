-- What stands beside a word among opposites.
use Rattle.std.proofs.Common.{◌≡◌, ℕ}
use Rattle.std.specs.Bool.{OnTrue, OnFalse}
use Rattle.levels.specs.Arithmetic.{Arithmetic}
use Rattle.levels.specs.Words.{legal}
use Rattle.levels.specs.Leaves.{AreOpposite}

-- the opposite of a word, and code 0 where it is none
abbrev pub Beside : Arithmetic → ℕ → ℕ → ℕ → Type 0
Beside A n w o = OnTrue (legal A n w) (AreOpposite A n w o) × OnFalse (legal A n w) (o ≡ 0)
