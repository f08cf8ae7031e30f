-- No rival of the generators is better.
use Rattle.plan.proofs.Choosing.{side_best}
use Rattle.plan.proofs.settled.SettledPlan.choose.Goals as goal

pub returns-clause-no_rival_is_better : goal.returns-clause-no_rival_is_better
returns-clause-no_rival_is_better g c =
    side_best g.L.Levels.model g.met.L.Levels.lawful (g.P.Preference.good c.args.preference.now) (g.met.P.Preference.lawful c.args.preference.now) c.args.side c.args.self.now
