-- The trial page of a plan file.
use Rattle.std.specs.Prelude.{◌≡◌, ℕ, ◌&&◌, if◌then◌else◌, List, length, Ok, Err, Result, ◌==◌, nat_lt, slice_index}
use Rattle.levels.specs.Arithmetic.{Arithmetic, two, three}
use Rattle.contents.specs.declared.refusal.Refusal.{Refusal}
use Rattle.contents.specs.Content.{Content}
use Rattle.contents.specs.Memory.{holding, wrote}
use Rattle.planfile.specs.File.{read_file}
use Rattle.page.specs.Page.{page}
use Rattle.history.specs.BestAndEqual.{BestGeneratorsAndEqualAnswers}

-- What is returned for a file, with memory before and after: its refusal, and memory is as it was; or the page
-- of its plan is written, which has best generators and equal answers.
abbrev pub IsPaged : Arithmetic → Result Content Refusal → List ℕ → List ℕ → Result ℕ Refusal → Type 0
IsPaged A (Err e) before now r = (r ≡ Err e) × (now ≡ before)
IsPaged A (Ok p) before now r =
    (r ≡ wrote (page A p) before) × (now ≡ holding (page A p) before)
    × BestGeneratorsAndEqualAnswers A p

-- the same of a plan file
abbrev pub IsPageOfFile : Arithmetic → List ℕ → List ℕ → List ℕ → Result ℕ Refusal → Type 0
IsPageOfFile A file = IsPaged A (read_file A file)

-- the levels that a file is read with: those that its sixth byte names, where it names three; two otherwise
abbrev pub levels_of : List ℕ → Arithmetic
levels_of file = if nat_lt 5 (length file) && slice_index file 5 == 3 then three else two
