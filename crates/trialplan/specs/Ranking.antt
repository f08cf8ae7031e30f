-- What the preferences of a script mean.
use Rattle.std.specs.Prelude.{ℕ}
use Rattle.levels.specs.Arithmetic.{Arithmetic}
use Rattle.preferences.specs.Relation.{Relation}
use Rattle.preferences.specs.Built.{cheapest, cost_score, first_then_second, least_aberration, length_score, reversed, shortest}
use Rattle.trialplan.specs.declared.ranking.Score.{Score}
use Rattle.trialplan.specs.declared.ranking.Score.TheVariants.{Shortest, Cheapest}
use Rattle.trialplan.specs.declared.ranking.Rule.{Rule}
use Rattle.trialplan.specs.declared.ranking.Rule.TheVariants.{Score as Scored, LeastAberration}
use Rattle.trialplan.specs.declared.ranking.One.{One}
use Rattle.trialplan.specs.declared.ranking.One.TheVariants.{Plain, Reversed}
use Rattle.trialplan.specs.declared.ranking.Ranking.{Ranking}
use Rattle.trialplan.specs.declared.ranking.Ranking.TheVariants.{One as Single, Two}

-- the scores of a preference that scores
abbrev pub score_points : Arithmetic → Score → ℕ → ℕ → ℕ
score_points A Shortest = length_score A
score_points A (Cheapest c) = cost_score A c.costs

-- and its relation
abbrev pub score_good : Arithmetic → Score → Relation
score_good A Shortest = shortest A
score_good A (Cheapest c) = cheapest A c.costs

-- the relation of a rule
abbrev pub rule_good : Arithmetic → Rule → Relation
rule_good A (Scored s) = score_good A s
rule_good A LeastAberration = least_aberration A

-- of a rule, plain or reversed
abbrev pub one_good : Arithmetic → One → Relation
one_good A (Plain r) = rule_good A r
one_good A (Reversed r) = reversed (rule_good A r.0)

-- of one preference, or of two, the first before the second
abbrev pub ranking_good : Arithmetic → Ranking → Relation
ranking_good A (Single o) = one_good A o
ranking_good A (Two t) = first_then_second (one_good A t.first) (one_good A t.second)
