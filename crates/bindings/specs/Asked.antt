-- A plan file is read into a new plan, and the plan is asked.
use Rattle.std.specs.Prelude.{ℕ, if◌then◌else◌, List, length, Ok, Err, Result}
use Rattle.levels.specs.Arithmetic.{Arithmetic}
use Rattle.contents.specs.declared.refusal.Refusal.{Refusal}
use Rattle.contents.specs.declared.refusal.Refusal.TheVariants.{Memory}
use Rattle.contents.specs.Content.{Content}
use Rattle.contents.specs.Memory.{both_fit, holding, holding_if, wrote}
use Rattle.planfile.specs.File.{file_of}
use Rattle.bindings.specs.declared.refused.Refused.{Refused}
use Rattle.bindings.specs.declared.refused.Refused.TheVariants.{Plan}

-- one step after another, as `?` runs them
abbrev pub and_then : {X Y E : Type 0} → Result X E → (X → Result Y E) → Result Y E
and_then (Ok x) step = step x
and_then (Err e) step = Err e

-- an answer of a plan, whose refusal becomes one of an export
abbrev pub of_plan : {X : Type 0} → Result X Refusal → Result X Refused
of_plan (Ok x) = Ok x
of_plan (Err e) = Err (Plan e)

-- an answer about the content that was read, or the refusal
abbrev pub asked : {X : Type 0} → Result Content Refusal → (Content → Result X Refusal)
    → Result X Refused
asked (Ok p) answer = of_plan (answer p)
asked (Err e) answer = Err (Plan e)

-- the same of an answer that is never refused
abbrev pub seen : {X : Type 0} → Result Content Refusal → (Content → X) → Result X Refused
seen (Ok p) answer = Ok (answer p)
seen (Err e) answer = Err (Plan e)

-- the file of the content that a call makes
abbrev pub filed : Arithmetic → Result Content Refused → Result (List ℕ) Refused
filed A (Ok p) = Ok (file_of A p)
filed A (Err e) = Err e

-- what is returned where an answer is written into memory
abbrev pub told : {X : Type 0} → Result (List X) Refused → List X → Result ℕ Refused
told (Ok answer) memory = of_plan (wrote answer memory)
told (Err e) memory = Err e

-- the memory afterwards: the answer, or as before
abbrev pub left : {X : Type 0} → Result (List X) Refused → List X → List X
left (Ok answer) memory = holding answer memory
left (Err e) memory = memory

-- what is returned where words and scores go into two memories, neither of which may be too short
abbrev pub told_both : Result (List ℕ × List ℕ) Refused → List ℕ → List ℕ → Result ℕ Refused
told_both (Ok best) words scores =
    if both_fit (length best.0) words scores then Ok (length best.0) else Err (Plan Memory)
told_both (Err e) words scores = Err e

-- the memory of words afterwards
abbrev pub left_words : Result (List ℕ × List ℕ) Refused → List ℕ → List ℕ → List ℕ
left_words (Ok best) words scores =
    holding_if (both_fit (length best.0) words scores) best.0 words
left_words (Err e) words scores = words

-- the memory of scores afterwards
abbrev pub left_scores : Result (List ℕ × List ℕ) Refused → List ℕ → List ℕ → List ℕ
left_scores (Ok best) words scores =
    holding_if (both_fit (length best.0) words scores) best.1 scores
left_scores (Err e) words scores = scores
