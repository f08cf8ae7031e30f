-- A word that may be admitted has room, and is not code 0.
use Rattle.std.proofs.Common.{sym, ◌∙◌, arith}
use Rattle.contents.specs.Content.{both}
use Rattle.contents.specs.Held.{content_of}
use Rattle.contents.proofs.Membership.{fresh_positive, limit_small, not_generated}
use Rattle.contents.proofs.Outcomes.{admissible_ok}
use Rattle.contents.proofs.content.PlanContent.admit.Goals as goal

pub push-requires : goal.push-requires
push-requires g c =
    let A = g.L.Levels.model in
    let L = g.met.L.Levels.lawful in
    let p = content_of c.args.self.now in
    let w = c.args.word in
    let a = admissible_ok A w p (sym c.admissible.ensures ∙ c.in_ok-admissible.was) in
    record {
      room = omega (arith, a.room, limit_small A L);
      nonzero = fresh_positive A L p.factors (both p) w (not_generated A L p.factors (both p) w a.fresh);
    }
