use Rattle.std.proofs.Common.{◌≡◌, ◌++◌, map, drop}
use Rattle.history.specs.Calls.{answered, answers, memory_after, new, plan_after, stated_call}
use Rattle.history.specs.Lent.{lent}
use Rattle.history.specs.Questions.{meaning_by}
use Rattle.history.specs.States.{state_of}
use Rattle.history.proofs.carry_out.carry_out.Given as goal

-- the answers so far and those to the calls that are left are the answers to all; likewise what is left in the end
abbrev pub invariant-loop-call : goal.invariant-loop-call
invariant-loop-call g l =
    let A = g.L.Levels.model in
    let stated = stated_call (meaning_by g.P.Preference.good g.S.Preference.good g.S.Scored.points) in
    let rest = map stated (drop l.call-index l.calls) in
    let all = map stated l.calls in
    let now = lent l.memory in
    let before = lent l.fn.memory in
    record {
      answers : map answered l.answers.items ++ answers A rest (state_of l.trial) now ≡ answers A all new before;
      plan : plan_after A rest (state_of l.trial) ≡ plan_after A all new;
      memory : memory_after A rest (state_of l.trial) now ≡ memory_after A all new before;
    }
