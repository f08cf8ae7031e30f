-- What the content of a plan is, read off the values that a plan holds.
use Rattle.std.specs.Prelude.{Ok, Err, Result}
use Rattle.contents.specs.declared.content.PlanContent.{PlanContent}
use Rattle.contents.specs.declared.refusal.Refusal.{Refusal}
use Rattle.contents.specs.Content.{Content}
use Rattle.contents.specs.List.{listed}

-- the content that a plan holds
abbrev pub content_of : PlanContent → Content
content_of p = record { factors = p.factors; defining = listed p.defining; block = listed p.block }

-- the content that was made, or the refusal
abbrev pub result_of : Result PlanContent Refusal → Result Content Refusal
result_of (Ok p) = Ok (content_of p)
result_of (Err e) = Err e

-- the content at the end of a call that may be refused
abbrev pub ended : Result (Unit {0}) Refusal → Content → Result Content Refusal
ended (Ok u) p = Ok p
ended (Err e) p = Err e
