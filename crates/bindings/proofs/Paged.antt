-- What is promised of the page of a file, as an answer and a memory.
use Rattle.std.proofs.Common.{◌≡◌, ℕ, List, Ok, Err, Result, ap}
use Rattle.levels.specs.Arithmetic.{Arithmetic}
use Rattle.contents.specs.declared.refusal.Refusal.{Refusal}
use Rattle.contents.specs.Content.{Content}
use Rattle.page.specs.Page.{page}
use Rattle.history.specs.Files.{IsPaged}
use Rattle.bindings.specs.Asked.{left, of_plan, seen, told}

pub paged_answer : (A : Arithmetic) (o : Result Content Refusal) (before now : List ℕ) (r : Result ℕ Refusal) → IsPaged A o before now r → of_plan r ≡ told (seen o (page A)) before
paged_answer A (Ok p) before now r h = ap of_plan h.0
paged_answer A (Err e) before now r h = ap of_plan h.0

pub paged_left : (A : Arithmetic) (o : Result Content Refusal) (before now : List ℕ) (r : Result ℕ Refusal) → IsPaged A o before now r → now ≡ left (seen o (page A)) before
paged_left A (Ok p) before now r h = h.1
paged_left A (Err e) before now r h = h.1
