-- From the relation "at least as good" to the answer of a preference's question, and what a score is.
use Rattle.std.specs.Prelude.{◌≡◌, ℕ, ◌≤◌, Bool, true, false, cond, ◌&&◌, List, nat_le}
use Rattle.levels.specs.Arithmetic.{Arithmetic}
use Rattle.levels.specs.Words.{legal}
use Rattle.levels.specs.Space.{Word}
use Rattle.preferences.specs.Relation.{Relation, fair}
use Rattle.std.specs.declared.cmp.Ordering.{Ordering}
use Rattle.std.specs.declared.cmp.Ordering.TheVariants.{Less, Greater, Equal as Alike}
use Rattle.preferences.specs.declared.preference.Verdict.{Verdict}
use Rattle.preferences.specs.declared.preference.Verdict.TheVariants.{First, Second, Equal}

-- the verdict on two words, from the order of two numbers that they have: what is less is better
abbrev pub of_order : Ordering → Verdict
of_order Less = First
of_order Greater = Second
of_order Alike = Equal

-- the verdict on two words: whether the first is as good as the second, and the second as the first
abbrev pub verdict_of : Bool → Bool → Verdict
verdict_of true true = Equal
verdict_of true false = First
verdict_of false true = Second
verdict_of false false = Equal

-- the verdict on the two words in the other order
abbrev pub turned : Verdict → Verdict
turned First = Second
turned Second = First
turned Equal = Equal

-- the answer for any two codes: they are equal where one is illegal, or nothing can be judged by the base list
abbrev pub verdict : Arithmetic → Relation → ℕ → List ℕ → ℕ → ℕ → Verdict
verdict A good n base a b = cond (fair A n base && (legal A n a && legal A n b)) (verdict_of (good n base a b) (good n base b a)) Equal

-- A score of words: the smaller it is, the better the word; none is above 2,097,120, which is 32 times 65,535, and what is illegal
-- has 0.
pub record Scores (A : Arithmetic) (good : Relation) (score : ℕ → ℕ → ℕ) : Type 0 where
  pub bounded : (n w : ℕ) → score n w ≤ 2097120
  pub illegal : (n w : ℕ) → legal A n w ≡ false → score n w ≡ 0
  pub ranks : (n : ℕ) (base : List ℕ) (a b : ℕ) → Word A n a → Word A n b → good n base a b ≡ nat_le (score n a) (score n b)
