-- What a call does with the memory that it is lent.
use Rattle.std.specs.Prelude.{ℕ, Bool, cond, ◌&&◌, List, ◌++◌, length, drop, Ok, Err, Result, nat_le, nat_lt}
use Rattle.contents.specs.declared.refusal.Refusal.{Refusal}
use Rattle.contents.specs.declared.refusal.Refusal.TheVariants.{Memory}

-- memory after an answer is written: the answer at its start, the old content beyond; as before where it is shorter than the answer
abbrev pub holding : {X : Type 0} → List X → List X → List X
holding answer memory = cond (nat_lt (length memory) (length answer)) memory (answer ++ drop (length answer) memory)

-- what is returned: how much was written, or a refusal where the memory is shorter than the answer
abbrev pub wrote : {X : Type 0} → List X → List X → Result ℕ Refusal
wrote answer memory = cond (nat_lt (length memory) (length answer)) (Err Memory) (Ok (length answer))

-- the same of an answer that may be refused before memory is looked at
abbrev pub holding_ok : {X : Type 0} → Result (List X) Refusal → List X → List X
holding_ok (Ok answer) memory = holding answer memory
holding_ok (Err e) memory = memory

abbrev pub wrote_ok : {X : Type 0} → Result (List X) Refusal → List X → Result ℕ Refusal
wrote_ok (Ok answer) memory = wrote answer memory
wrote_ok (Err e) memory = Err e

-- an answer at the start of memory and the old content beyond, if it is written at all
abbrev pub holding_if : {X : Type 0} → Bool → List X → List X → List X
holding_if fits answer memory = cond fits (answer ++ drop (length answer) memory) memory

-- two memories are long enough for so much
abbrev pub both_fit : {X Y : Type 0} → ℕ → List X → List Y → Bool
both_fit k xs ys = nat_le k (length xs) && nat_le k (length ys)
