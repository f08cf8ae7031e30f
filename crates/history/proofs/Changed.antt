-- What a call that changes the plan tells.
use Rattle.std.proofs.Common.{◌≡◌, Ok, Err, Result, ap}
use Rattle.contents.specs.declared.refusal.Refusal.{Refusal}
use Rattle.contents.specs.Content.{Content, Acts}
use Rattle.history.specs.declared.question.Reply.TheVariants.{Changed}
use Rattle.history.specs.Calls.{changed}

-- a call that acts tells that it did, and one that is refused tells why
pub changed_reply : (o : Result Content Refusal) (p q : Content) (r : Result (Unit {0}) Refusal) → Acts o p q r → Changed r ≡ changed o
changed_reply (Ok c) p q r h = ap Changed h.0
changed_reply (Err e) p q r h = ap Changed h.0
