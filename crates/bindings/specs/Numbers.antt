-- What the numbers stand for that other languages hand over; any other number is unknown.
use Rattle.std.specs.Prelude.{ℕ, if◌then◌else◌, List, Ok, Err, Result, ◌==◌}
use Rattle.levels.specs.Arithmetic.{Arithmetic, two, three}
use Rattle.preferences.specs.declared.preference.Verdict.{Verdict}
use Rattle.preferences.specs.declared.preference.Verdict.TheVariants.{First, Second, Equal}
use Rattle.preferences.specs.Relation.{Relation}
use Rattle.preferences.specs.Built.{cheapest, cost_score, first_then_second, least_aberration, length_score, reversed, shortest}
use Rattle.contents.specs.declared.side.Side.{Side}
use Rattle.contents.specs.declared.side.Side.TheVariants.{Defining, Block}
use Rattle.bindings.specs.declared.numbers.LevelCount.{LevelCount}
use Rattle.bindings.specs.declared.numbers.LevelCount.TheVariants.{Two, Three}
use Rattle.bindings.specs.declared.numbers.Rule.{Rule}
use Rattle.bindings.specs.declared.numbers.Rule.TheVariants.{Shortest, Cheapest, LeastAberration, Longest, CheapestThenLeastAberration}
use Rattle.bindings.specs.declared.numbers.ScoredRule.{ScoredRule}
use Rattle.bindings.specs.declared.refused.Refused.{Refused}
use Rattle.bindings.specs.declared.refused.Refused.TheVariants.{Unknown}
use Rattle.bindings.specs.Asked.{and_then}

-- two or three levels
abbrev pub level_count_by : ℕ → Result LevelCount Refused
level_count_by x = if x == 2 then Ok Two else if x == 3 then Ok Three else Err Unknown

-- their arithmetic
abbrev pub arithmetic_of : LevelCount → Arithmetic
arithmetic_of Two = two
arithmetic_of Three = three

-- an answer at the levels of a number
abbrev pub at_levels : {X : Type 0} → ℕ → (Arithmetic → Result X Refused) → Result X Refused
at_levels x answer = and_then (level_count_by x) (λ count. answer (arithmetic_of count))

-- the defining side is 0, the block side 1
abbrev pub side_by : ℕ → Result Side Refused
side_by x = if x == 0 then Ok Defining else if x == 1 then Ok Block else Err Unknown

-- the preferences count from 0
abbrev pub rule_by : ℕ → Result Rule Refused
rule_by x =
    if x == 0 then Ok Shortest
    else if x == 1 then Ok Cheapest
    else if x == 2 then Ok LeastAberration
    else if x == 3 then Ok Longest
    else if x == 4 then Ok CheapestThenLeastAberration
    else Err Unknown

-- the relation of a rule, with a table of costs
abbrev pub relation : Arithmetic → List ℕ → Rule → Relation
relation A costs Shortest = shortest A
relation A costs Cheapest = cheapest A costs
relation A costs LeastAberration = least_aberration A
relation A costs Longest = reversed (shortest A)
relation A costs CheapestThenLeastAberration =
    first_then_second (cheapest A costs) (least_aberration A)

-- the scored preferences count from 0
abbrev pub scored_rule_by : ℕ → Result ScoredRule Refused
scored_rule_by x =
    if x == 0 then Ok ScoredRule.Shortest
    else if x == 1 then Ok ScoredRule.Cheapest
    else Err Unknown

-- the relation of a scored rule
abbrev pub scored_relation : Arithmetic → List ℕ → ScoredRule → Relation
scored_relation A costs ScoredRule.Shortest = shortest A
scored_relation A costs ScoredRule.Cheapest = cheapest A costs

-- the scores of a scored rule
abbrev pub scored_points : Arithmetic → List ℕ → ScoredRule → ℕ → ℕ → ℕ
scored_points A costs ScoredRule.Shortest = length_score A
scored_points A costs ScoredRule.Cheapest = cost_score A costs

-- 0 where the words are equal, 1 where the first is better, 2 where the second is
abbrev pub verdict_number : Verdict → ℕ
verdict_number Equal = 0
verdict_number First = 1
verdict_number Second = 2
