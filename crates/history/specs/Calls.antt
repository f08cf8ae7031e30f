-- What a list of calls on a new plan leaves, and what each of its calls answers.
use Rattle.std.specs.Borrow.{Bor}
use Rattle.std.specs.Prelude.{ℕ, true, false, if◌then◌else◌, List, [], ◌∷◌, Some, None, Ok, Err, Option, Result}
use Rattle.std.specs.Option.{option_and_then, option_map_or}
use Rattle.std.specs.Result.{result_unwrap_or}
use Rattle.levels.specs.Arithmetic.{Arithmetic}
use Rattle.contents.specs.declared.refusal.Refusal.{Refusal}
use Rattle.contents.specs.Content.{Content, blank, started, admitted, struck}
use Rattle.planfile.specs.File.{read_file}
use Rattle.history.specs.declared.call.Call.{Call}
use Rattle.history.specs.declared.call.Call.TheVariants.{Start, Read, Admit, Strike, Settle, Reopen, Ask}
use Rattle.history.specs.declared.carry_out.Answer.{Answer}
use Rattle.history.specs.declared.question.Question.{Question}
use Rattle.history.specs.declared.question.Reply.{Reply}
use Rattle.history.specs.declared.question.Reply.TheVariants.{Changed}
use Rattle.history.specs.Lent.{Lent, lent}
use Rattle.history.specs.Questions.{Meaning, StatedQuestion, exists, answer, stated_question}
use Rattle.history.specs.States.{State, open_state, settled_state}

-- a call as it is stated: a file is its bytes, a question is stated too
abbrev pub StatedCall : Type 0
StatedCall = Call (List ℕ) StatedQuestion

-- how every plan begins: open, of one factor, without words
abbrev pub new : State
new = open_state (blank 1)

-- what a call leaves of an open plan, a refused one what there was; none where it takes no such call
abbrev pub after_open : Arithmetic → StatedCall → Content → Option State
after_open A (Start n) p = Some (open_state (result_unwrap_or (started n) p))
after_open A (Read file) p = Some (open_state (result_unwrap_or (read_file A file) p))
after_open A (Admit side w) p = Some (open_state (result_unwrap_or (admitted A side w p) p))
after_open A (Strike side place) p = Some (open_state (result_unwrap_or (struck side place p) p))
after_open A Settle p = Some (settled_state p)
after_open A Reopen p = None
after_open A (Ask question) p = None

-- the same of a settled plan, which a question leaves as it is
abbrev pub after_settled : Arithmetic → StatedCall → Content → Option State
after_settled A Reopen p = Some (open_state p)
after_settled A (Ask question) p = if exists A question then Some (settled_state p) else None
after_settled A _ p = None

abbrev pub state_after : Arithmetic → StatedCall → State → Option State
state_after A call w =
    if w.settled then after_settled A call w.content else after_open A call w.content

-- what a list of calls leaves
abbrev pub plan_after : Arithmetic → List StatedCall → State → Option State
plan_after A [] w = Some w
plan_after A (call ∷ calls) w = option_and_then (plan_after A calls) (state_after A call w)

-- a call that changes the plan tells that it did, or why not
abbrev pub changed : Result Content Refusal → Reply
changed (Ok q) = Changed (Ok tt)
changed (Err e) = Changed (Err e)

-- what a call returns, and what lent memory holds then
abbrev pub answer_to : Arithmetic → StatedCall → Content → Lent → Reply × Lent
answer_to A (Start n) p m = (changed (started n), m)
answer_to A (Read file) p m = (changed (read_file A file), m)
answer_to A (Admit side w) p m = (changed (admitted A side w p), m)
answer_to A (Strike side place) p m = (changed (struck side place p), m)
answer_to A Settle p m = (Changed (Ok tt), m)
answer_to A Reopen p m = (Changed (Ok tt), m)
answer_to A (Ask question) p m = answer A question p m

-- what each call of a list answers, up to one that there is not where it is made
abbrev pub answers : Arithmetic → List StatedCall → State → Lent → List (Reply × Lent)
answers A [] w m = []
answers A (call ∷ calls) w m =
    let a = answer_to A call w.content m in
    option_map_or (λ v. a ∷ answers A calls v a.1) (state_after A call w) []

-- what lent memory holds in the end
abbrev pub memory_after : Arithmetic → List StatedCall → State → Lent → Lent
memory_after A [] w m = m
memory_after A (call ∷ calls) w m =
    let a = answer_to A call w.content m in
    option_map_or (λ v. memory_after A calls v a.1) (state_after A call w) m

-- a call of the code as it is stated, by what its preferences mean
abbrev pub stated_call : {P S : Type 0} → Meaning P S →
    Call (Bor (List ℕ)) (Question P S (Bor (List ℕ))) → StatedCall
stated_call meaning (Start n) = Start n
stated_call meaning (Read file) = Read file.now
stated_call meaning (Admit side w) = Admit side w
stated_call meaning (Strike side place) = Strike side place
stated_call meaning Settle = Settle
stated_call meaning Reopen = Reopen
stated_call meaning (Ask question) = Ask (stated_question meaning question)

-- an answer of the code
abbrev pub answered : Answer → Reply × Lent
answered a = (a.reply, lent a.memory)
