-- The plan keeps under the arithmetic of two levels what it keeps.
use Rattle.std.proofs.Common.{rules}
use Rattle.contents.specs.Held.{content_of}
use Rattle.plan.proofs.Twos.{kept_two}
use Rattle.plan.proofs.settled.SettledPlan.two_levels.Goals as goal

pub invariant_of-result : goal.invariant_of-result
invariant_of-result g c = kept_two g.L.Levels.model g.met.L.Levels.lawful (search rules) (content_of c.self.inside.held) c.self.invariant
