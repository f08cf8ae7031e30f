-- A sum costs what a code does that differs from 0 at the same places.
use Rattle.std.proofs.Common.{◌≡◌, ℕ, ◌+◌, ◌-◌, ◌*◌, ◌/◌, ◌^◌, ◌<◌, ◌≤◌, Bool, cond, eqb, List, [], ◌∷◌, drop, sym, refl, ap, ◌∙◌, arith}
use lib.Bits.{bit_xor}
use Rattle.std.proofs.Math.Nat.{div-eq_of_lt}
use Rattle.levels.specs.Arithmetic.{Arithmetic, Lawful}
use Rattle.levels.specs.Words.{digits, word_sum}
use Rattle.levels.specs.Space.{Word}
use Rattle.levels.proofs.Digits.{word_legal}
use Rattle.levels.proofs.Apart.{empty, below, sum_empty, sum_is_one}
use Rattle.preferences.specs.Built.{cost}
use Rattle.preferences.proofs.Tables.{cost_split, cost_none}

-- what the digits cost that are not 0
abbrev filled_cost : List ℕ → List Bool → ℕ
filled_cost costs [] = 0
filled_cost [] (t ∷ ts) = 0
filled_cost (c ∷ costs) (t ∷ ts) = cond t 0 c + filled_cost costs ts

cost_filled : (costs ds : List ℕ) → cost costs ds ≡ filled_cost costs (empty ds)
cost_filled costs [] = refl
cost_filled [] (d ∷ ds) = refl
cost_filled (c ∷ costs) (d ∷ ds) = ap (λ m. cond (eqb d 0) 0 c + m) (cost_filled costs ds)

-- a code that takes n digits costs what these do
cost_under : (A : Arithmetic) (costs : List ℕ) (n x : ℕ) → n ≤ 32 → x < 2 ^ (A.bits * n) → cost costs (digits A 32 x) ≡ cost costs (digits A n x)
cost_under A costs n x high below =
    let e : n + (32 - n) ≡ 32 = omega arith in
    let none : x / 2 ^ (A.bits * n) ≡ 0 = div-eq_of_lt below in
    let rest = ap (λ v. cost (drop n costs) (digits A (32 - n) v)) none ∙ cost_none A (drop n costs) (32 - n) in
    let all = ap (λ k. cost costs (digits A k x)) e in
    omega (arith, cost_split A costs n (32 - n) x, rest, all)

-- so the costs are equal
pub apart_cost : (A : Arithmetic) (L : Lawful A) (n a b o : ℕ) → Word A n a → Word A n b → Word A n o → word_sum A n b o ≡ 0 → (costs : List ℕ) →
    cost costs (digits A 32 (bit_xor a o)) ≡ cost costs (digits A 32 (word_sum A n a b))
apart_cost A L n a b o wa wb wo none costs =
    let high = (word_legal A n a wa).high in
    let w = word_sum A n a b in
    cost_under A costs n (bit_xor a o) high (below A L n a b o wa wb wo none)
    ∙ cost_filled costs (digits A n (bit_xor a o)) ∙ ap (filled_cost costs) (sum_empty A L n a b o wa wb wo none) ∙ sym (cost_filled costs (digits A n w))
    ∙ sym (cost_under A costs n w high (word_legal A n w (sum_is_one A L n a b o wa wb wo none)).below)
