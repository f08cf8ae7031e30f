-- Reference plans: what calls answer on small plans that were worked out by hand or in print.
use Rattle.std.specs.Prelude.{◌≡◌, ℕ, List, [], ◌∷◌, ◌++◌, map, Some, None, Ok, Err, Result, codes}
use Rattle.levels.specs.Arithmetic.{Arithmetic, two, three}
use Rattle.levels.specs.Words.{word_sum}
use Rattle.preferences.specs.Built.{shortest, cheapest, cost_score, least_aberration, reversed}
use Rattle.contents.specs.declared.refusal.Refusal.{Refusal}
use Rattle.contents.specs.declared.side.Side.TheVariants.{Defining, Block}
use Rattle.contents.specs.Refusals.{number_of}
use Rattle.contents.specs.Content.{Content}
use Rattle.page.specs.Page.{line}
use Rattle.history.specs.declared.call.Call.TheVariants.{Start, Admit, Strike, Settle, Ask}
use Rattle.history.specs.declared.question.Question.TheVariants.{Generators, ScoredGenerators, Pattern, AliasMember, AliasSet, Page, Run, Runs}
use Rattle.history.specs.declared.question.Reply.{Reply}
use Rattle.history.specs.declared.question.Reply.TheVariants.{Changed, Factors, Counts, Code, Written, Resolution, Block as BlockNumber}
use Rattle.history.specs.Lent.{Lent}
use Rattle.history.specs.Questions.{Scoring, answer, in_bytes, in_counts, in_words, in_words_and_counts}
use Rattle.history.specs.States.{open_state, settled_state}
use Rattle.history.specs.Calls.{StatedCall, answers, new, plan_after}

-- a content of n factors
abbrev pub of_factors : ℕ → List ℕ → List ℕ → Content
of_factors n ds bs = record { factors = n; defining = ds; block = bs }

-- no memory
abbrev pub nothing_lent : Lent
nothing_lent = record { bytes = []; counts = []; words = [] }

-- the number that a call returned, 0 where it only acted, or the number of its refusal
abbrev pub number_or_refusal : Result ℕ Refusal → Result ℕ ℕ
number_or_refusal (Ok x) = Ok x
number_or_refusal (Err e) = Err (number_of e)

-- and of a reply of one number; of counts and a resolution the first
abbrev pub number_in : Reply → Result ℕ ℕ
number_in (Changed (Ok u)) = Ok 0
number_in (Changed (Err e)) = Err (number_of e)
number_in (Factors n) = Ok n
number_in (Counts d b) = Ok d
number_in (Code r) = number_or_refusal r
number_in (Written r) = number_or_refusal r
number_in (Resolution None) = Ok 0
number_in (Resolution (Some r)) = Ok r.0
number_in (BlockNumber r) = number_or_refusal r

-- what calls on a new plan return, without memory
abbrev pub numbers : Arithmetic → List StatedCall → List (Result ℕ ℕ)
numbers A calls = map (λ a. number_in a.0) (answers A calls new nothing_lent)

-- eight factors, with three defining and three block words
abbrev pub eight : Content
eight = of_factors 8 (39 ∷ 75 ∷ 149 ∷ []) (5 ∷ 6 ∷ 9 ∷ [])

abbrev pub eight_calls : List StatedCall
eight_calls =
    Start 8 ∷ Admit Defining 39 ∷ Admit Defining 75 ∷ Admit Defining 149
    ∷ Admit Block 5 ∷ Admit Block 6 ∷ Admit Block 9 ∷ Settle ∷ []

-- six factors with four block words, three with two, and four of three levels with two defining words
abbrev pub six : Content
six = of_factors 6 [] (3 ∷ 12 ∷ 21 ∷ 37 ∷ [])

abbrev pub costly : Content
costly = of_factors 3 [] (3 ∷ 5 ∷ [])

abbrev pub four : Content
four = of_factors 4 (21 ∷ 73 ∷ []) []

-- the costs 1, 5, 1 of three factors
abbrev pub costs : List ℕ
costs = 1 ∷ 5 ∷ 1 ∷ []

-- cheapest by these costs, with its scores
abbrev pub by_costs : Scoring
by_costs = record { good = cheapest two costs; points = cost_score two costs }

-- the page of the eight factors
abbrev pub printed : List ℕ
printed =
    line (codes "plan 2 8 3 3") [] ++ line (codes "resolution 4 5") [] ++ line (codes "pattern 0 0 0 5 0 2 0 0") []
    ++ line (codes "defining ABCF ABDG ACEH") [] ++ line (codes "blocks AD BD CD") [] ++ line (codes "clear 4") []

pub record ReferencePlans : Type 0 where
  pub eight_is_left : plan_after two eight_calls new ≡ Some (settled_state eight)
  pub longest_blocks : (m : Lent) →
      answer two (Generators Block (reversed (shortest two))) six m ≡ in_words (63 ∷ 15 ∷ 51 ∷ 21 ∷ []) m
  pub least_aberration_blocks : (m : Lent) →
      answer two (Generators Block (least_aberration two)) eight m ≡ in_words (9 ∷ 10 ∷ 12 ∷ []) m
  pub page_of_eight : (m : Lent) → answer two Page eight m ≡ in_bytes printed m
  pub alias_set_of_six : (m : Lent) →
      answer two (AliasSet 6) eight m ≡ in_words (6 ∷ 33 ∷ 77 ∷ 106 ∷ 147 ∷ 180 ∷ 216 ∷ 255 ∷ []) m
  pub members_of_six :
      map (λ k. number_in (answer two (AliasMember 6 k) eight nothing_lent).0)
      (0 ∷ 1 ∷ 2 ∷ 3 ∷ 4 ∷ 5 ∷ 6 ∷ 7 ∷ 8 ∷ [])
      ≡ Ok 6 ∷ Ok 33 ∷ Ok 77 ∷ Ok 106 ∷ Ok 147 ∷ Ok 180 ∷ Ok 216 ∷ Ok 255 ∷ Err 12 ∷ []
  pub cheapest_blocks : (m : Lent) →
      answer two (ScoredGenerators Block by_costs) costly m
      ≡ in_words_and_counts (5 ∷ 3 ∷ []) (2 ∷ 6 ∷ []) m
  pub three_level_pattern : (m : Lent) → answer three Pattern four m ≡ in_counts (0 ∷ 0 ∷ 4 ∷ 0 ∷ []) m
  pub three_level_shortest : (m : Lent) →
      answer three (Generators Defining (shortest three)) four m ≡ in_words (21 ∷ 73 ∷ []) m
  pub runs_of_three :
      numbers two (Start 3 ∷ Admit Defining 7 ∷ Settle ∷ Ask (Run 0) ∷ Ask (Run 1)
      ∷ Ask (Run 2) ∷ Ask (Run 3) ∷ Ask (Run 4) ∷ [])
      ≡ Ok 0 ∷ Ok 0 ∷ Ok 0 ∷ Ok 0 ∷ Ok 3 ∷ Ok 5 ∷ Ok 6 ∷ Err 12 ∷ []
  pub two_runs_of_three : (m : Lent) → answer two (Runs 1 2) (of_factors 3 (7 ∷ []) []) m ≡ in_words (3 ∷ 5 ∷ []) m
  pub known_words :
      numbers two (Start 6 ∷ Admit Defining 0 ∷ Admit Defining 5 ∷ Admit Block 5 ∷ Strike Defining 2 ∷ [])
      ≡ Ok 0 ∷ Err 3 ∷ Ok 0 ∷ Err 3 ∷ Err 5 ∷ []
  pub six_factors :
      numbers two (Start 6 ∷ Admit Defining 63 ∷ Admit Defining 64 ∷ []) ≡ Ok 0 ∷ Ok 0 ∷ Err 2 ∷ []
  pub six_factors_take_63 :
      plan_after two (Start 6 ∷ Admit Defining 63 ∷ []) new ≡ Some (open_state (of_factors 6 (63 ∷ []) []))
  pub one_factor_of_three_levels :
      numbers three (Start 1 ∷ Admit Defining 3 ∷ Admit Defining 4 ∷ Admit Defining 2 ∷ [])
      ≡ Ok 0 ∷ Err 2 ∷ Err 2 ∷ Ok 0 ∷ []
  pub one_factor_takes_2 :
      plan_after three (Start 1 ∷ Admit Defining 2 ∷ []) new ≡ Some (open_state (of_factors 1 (2 ∷ []) []))
  pub starts : numbers two (Start 0 ∷ Start 33 ∷ Start 32 ∷ []) ≡ Err 1 ∷ Err 1 ∷ Ok 0 ∷ []
  pub three_level_sum : word_sum three 4 21 73 ≡ 82
