-- The preferences of a script have the laws.
use Rattle.std.specs.Prelude.{ℕ}
use Rattle.std.proofs.Common.{rules}
use Rattle.levels.specs.Arithmetic.{Arithmetic, Lawful}
use Rattle.preferences.specs.Relation.{PreferenceLaws}
use Rattle.preferences.specs.Built.{by_score, cost_score, length_score}
use Rattle.preferences.specs.Counts.{least_aberration_laws}
use Rattle.preferences.specs.Laws.{first_then_second_laws, reversed_laws}
use Rattle.trialplan.specs.declared.ranking.Score.{Score}
use Rattle.trialplan.specs.declared.ranking.Score.TheVariants.{Shortest, Cheapest}
use Rattle.trialplan.specs.declared.ranking.Rule.{Rule}
use Rattle.trialplan.specs.declared.ranking.Rule.TheVariants.{Score as Scored, LeastAberration}
use Rattle.trialplan.specs.declared.ranking.One.{One}
use Rattle.trialplan.specs.declared.ranking.One.TheVariants.{Plain, Reversed}
use Rattle.trialplan.specs.declared.ranking.Ranking.{Ranking}
use Rattle.trialplan.specs.declared.ranking.Ranking.TheVariants.{One as Single, Two}
use Rattle.trialplan.specs.Ranking.{one_good, ranking_good, rule_good, score_good}

-- a preference that goes by scores
by_score_laws : (A : Arithmetic) (score : ℕ → ℕ → ℕ) → PreferenceLaws A (by_score score)
by_score_laws A score = search rules

-- those of a script
pub score_laws : (A : Arithmetic) (s : Score) → PreferenceLaws A (score_good A s)
score_laws A Shortest = by_score_laws A (length_score A)
score_laws A (Cheapest c) = by_score_laws A (cost_score A c.costs)

pub rule_laws : (A : Arithmetic) → Lawful A → (r : Rule) → PreferenceLaws A (rule_good A r)
rule_laws A lawful (Scored s) = score_laws A s
rule_laws A lawful LeastAberration = least_aberration_laws A lawful

pub one_laws : (A : Arithmetic) → Lawful A → (o : One) → PreferenceLaws A (one_good A o)
one_laws A lawful (Plain r) = rule_laws A lawful r
one_laws A lawful (Reversed r) = reversed_laws A (rule_good A r.0) (rule_laws A lawful r.0)

pub ranking_laws : (A : Arithmetic) → Lawful A → (r : Ranking) →
    PreferenceLaws A (ranking_good A r)
ranking_laws A lawful (Single o) = one_laws A lawful o
ranking_laws A lawful (Two t) =
    first_then_second_laws A (one_good A t.first) (one_good A t.second)
    (one_laws A lawful t.first) (one_laws A lawful t.second)
