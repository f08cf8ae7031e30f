-- What the scores of words are: bounded, 0 for an illegal code, and the smaller is better.
use Rattle.std.proofs.Common.{◌≡◌, ℕ, suc, ◌+◌, ◌-◌, ◌*◌, ◌<◌, ◌≤◌, eqb, ◌⊎◌, List, [], ◌∷◌, length, get_or, drop, refl, ap, ◌∙◌, inl, inr, arith}
use Rattle.std.proofs.lemmas.List.{at_drop_all}
use Rattle.std.proofs.lemmas.Bool.{cond_both, cond-false}
use Rattle.levels.specs.Arithmetic.{Arithmetic}
use Rattle.levels.specs.Words.{legal, digits, word_length}
use Rattle.levels.proofs.Lengths.{length_most}
use Rattle.preferences.specs.Built.{shortest, length_score, cost, cheapest, cost_score}
use Rattle.preferences.specs.Verdicts.{Scores}

-- lengths are scores
pub length_scores : (A : Arithmetic) → Scores A (shortest A) (length_score A)
length_scores A = record {
  bounded = λ n w. cond_both (legal A n w) (word_length A w) 0 (λ x. x ≤ 2097120) (λ _. omega (arith, length_most A w)) (λ _. omega arith);
  illegal = λ n w e. cond-false (legal A n w) (word_length A w) 0 e;
  ranks = λ n base a b wa wb. refl;
}

-- a cost is at most 65,535 a factor
pub cost_most : (costs ds : List ℕ) → ((i : ℕ) → get_or costs i 0 < 65536) → cost costs ds ≤ 65535 * length costs
cost_most costs [] small = omega arith
cost_most [] (d ∷ ds) small = omega arith
cost_most (c ∷ costs) (d ∷ ds) small =
    let rest = cost_most costs ds (λ i. small (suc i)) in
    let here : c < 65536 = small 0 in
    cond_both (eqb d 0) 0 c (λ x. x + cost costs ds ≤ 65535 * suc (length costs)) (λ _. omega arith) (λ _. omega arith)

-- costs by a table of 32 are scores
pub cost_scores : (A : Arithmetic) (costs : List ℕ) → length costs ≡ 32 → ((i : ℕ) → get_or costs i 0 < 65536) → Scores A (cheapest A costs) (cost_score A costs)
cost_scores A costs size small = record {
  bounded = λ n w. cond_both (legal A n w) (cost costs (digits A n w)) 0 (λ x. x ≤ 2097120) (λ _. omega (arith, cost_most costs (digits A n w) small)) (λ _. omega arith);
  illegal = λ n w e. cond-false (legal A n w) (cost costs (digits A n w)) 0 e;
  ranks = λ n base a b wa wb. refl;
}

-- without costs there is none
pub no_costs : (ds : List ℕ) → cost [] ds ≡ 0
no_costs [] = refl
no_costs (d ∷ ds) = refl

-- past the last factor or the last cost there is none
pub cost_past : (A : Arithmetic) (costs : List ℕ) (n i w : ℕ) → (length costs ≤ i) ⊎ (n ≤ i) → cost (drop i costs) (digits A (n - i) w) ≡ 0
cost_past A costs n i w (inl h) = at_drop_all (λ cs. cost cs (digits A (n - i) w)) costs i h ∙ no_costs (digits A (n - i) w)
cost_past A costs n i w (inr h) = let e : n - i ≡ 0 = omega arith in ap (λ k. cost (drop i costs) (digits A k w)) e
