-- How an answer or a refusal crosses to other languages.
use Rattle.std.specs.Prelude.{ℕ, Ok, Err, Result}
use Rattle.contents.specs.Refusals.{number_of}
use Rattle.bindings.specs.declared.outcome.Outcome.{Outcome}
use Rattle.bindings.specs.declared.refused.Refused.{Refused}
use Rattle.bindings.specs.declared.refused.Refused.TheVariants.{Unknown, Plan}

-- 255 where a number is unknown, else the number of the plan's refusal
abbrev pub refused_number : Refused → ℕ
refused_number Unknown = 255
refused_number (Plan e) = number_of e

-- refusal 0 and the answer, or the number of the refusal and 0
abbrev pub outcome_of : Result ℕ Refused → Outcome
outcome_of (Ok v) = record { refusal = 0; value = v }
outcome_of (Err e) = record { refusal = refused_number e; value = 0 }
