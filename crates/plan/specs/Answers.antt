-- What a settled plan answers, worked out from its content.
use Rattle.std.specs.Prelude.{ℕ, ◌+◌, ◌^◌, cond, if◌then◌else◌, List, [], map, length, take, drop, Ok, Err, Result, nat_le, nat_lt, slice_index}
use Rattle.levels.specs.Arithmetic.{Arithmetic, two}
use Rattle.levels.specs.Words.{legal}
use Rattle.levels.specs.Generated.{generated}
use Rattle.levels.specs.Alias.{alias_set}
use Rattle.preferences.specs.Relation.{Relation, all_legal}
use Rattle.choice.specs.Choice.{generators}
use Rattle.aliasing.specs.Clear.{ones_in}
use Rattle.aliasing.specs.Runs.{block_number, runs_upto}
use Rattle.contents.specs.declared.refusal.Refusal.{Refusal}
use Rattle.contents.specs.declared.refusal.Refusal.TheVariants.{Illegal, Limit, Last, Memory}
use Rattle.contents.specs.declared.side.Side.{Side}
use Rattle.contents.specs.declared.side.Side.TheVariants.{Defining, Block}
use Rattle.contents.specs.Content.{Content, side_of}

-- the words that the defining words generate
abbrev pub defined : Arithmetic → Content → List ℕ
defined A p = generated A p.factors p.defining

-- the base list of a side: none for the defining words, the defining words for the block words
abbrev pub base_of : Side → Content → List ℕ
base_of Defining p = []
base_of Block p = p.defining

-- the generators of a side, best first: beyond its base list, of what the base list and the side's words generate
abbrev pub chosen : Arithmetic → Relation → Side → Content → List ℕ
chosen A good side p = generators A good p.factors (base_of side p) (side_of side p)

-- the scores of the generators of a side
abbrev pub chosen_scores : Arithmetic → Relation → (ℕ → ℕ → ℕ) → Side → Content → List ℕ
chosen_scores A good points side p = map (points p.factors) (chosen A good side p)

-- entry m, from 0, of a list, or a refusal past the last
abbrev pub entry : List ℕ → ℕ → Result ℕ Refusal
entry xs m = cond (nat_lt m (length xs)) (Ok (slice_index xs m)) (Err Last)

-- alias member m of a word over the defining words, in ascending code
abbrev pub alias_member : Arithmetic → ℕ → ℕ → Content → Result ℕ Refusal
alias_member A w m p = cond (legal A p.factors w) (entry (alias_set A p.factors p.defining w) m) (Err Illegal)

-- the alias set of a word over the defining words, in ascending code
abbrev pub alias_set_of : Arithmetic → ℕ → Content → Result (List ℕ) Refusal
alias_set_of A w p = if legal A p.factors w then Ok (alias_set A p.factors p.defining w) else Err Illegal

-- with two levels, the runs in ascending code: those under all words that the defining words generate
abbrev pub runs_of : Content → List ℕ
runs_of p = runs_upto p.factors (generated two p.factors p.defining) (2 ^ p.factors)

-- run m
abbrev pub run_of : ℕ → Content → Result ℕ Refusal
run_of m p = entry (runs_of p) m

-- so many runs from a place on, from 0, none of them past the last
abbrev pub runs_from : ℕ → ℕ → Content → Result (List ℕ) Refusal
runs_from first count p =
    if nat_lt (length (runs_of p)) (first + count) then Err Last else Ok (take count (drop first (runs_of p)))

-- with two levels, the block number of a run under a list of words: the run is legal, the list is within the limit, its words are legal
abbrev pub block_of : ℕ → List ℕ → Content → Result ℕ Refusal
block_of run ws p =
    cond (legal two p.factors run)
    (cond (nat_le (length ws) two.limit) (cond (all_legal two p.factors ws) (Ok (block_number p.factors run ws)) (Err Illegal)) (Err Limit))
    (Err Illegal)

-- with two levels, what is returned where the bytes of clear pairs are written: how many ones there are
abbrev pub wrote_ones : List ℕ → List ℕ → Result ℕ Refusal
wrote_ones bytes memory = cond (nat_lt (length memory) (length bytes)) (Err Memory) (Ok (ones_in bytes))
