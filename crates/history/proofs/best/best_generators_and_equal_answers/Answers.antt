-- Best generators and equal answers hold of every content that calls leave settled, so of the plan that came out.
use Rattle.std.proofs.Common.{map}
use Rattle.std.proofs.lemmas.Result.{IfOk-weaker}
use Rattle.std.specs.Option.{option_map}
use Rattle.history.specs.Calls.{stated_call}
use Rattle.history.specs.Lent.{lent}
use Rattle.history.specs.Questions.{meaning_by}
use Rattle.history.specs.States.{state_of}
use Rattle.history.proofs.InPlace.{answers_in_place}
use Rattle.history.proofs.ShownBest.{of_calls, of_plan}
use Rattle.history.proofs.best.best_generators_and_equal_answers.Goals as goal

pub returns-clause-in_place : goal.returns-clause-in_place
returns-clause-in_place g c =
    let stated = map (stated_call (meaning_by g.P.Preference.good g.S.Preference.good g.S.Scored.points)) c.args.calls.now in
    IfOk-weaker c.carry_out.result _ _
    (λ o e. answers_in_place g.L.Levels.model stated (lent c.args.memory.now) _ e)
    c.carry_out.ensures.answers

pub returns-clause-of_calls : goal.returns-clause-of_calls
returns-clause-of_calls g c made p s = of_calls g.L.Levels.model g.met.L.Levels.lawful made p s

pub returns-clause-of_plan : goal.returns-clause-of_plan
returns-clause-of_plan g c =
    IfOk-weaker c.carry_out.result _ _
    (λ o e. of_plan g.L.Levels.model g.met.L.Levels.lawful
    (map (stated_call (meaning_by g.P.Preference.good g.S.Preference.good g.S.Scored.points)) c.args.calls.now) (option_map state_of o.plan) e)
    c.carry_out.ensures.plan
