-- The basis decides whether a word is generated. A word that may be admitted has room, and is not code 0; the basis grows with the list.
use Rattle.std.proofs.Common.{sym, ◌∙◌, arith}
use Rattle.levels.specs.Rows.{basis_rows}
use Rattle.contents.specs.Content.{both}
use Rattle.contents.specs.Held.{content_of}
use Rattle.contents.proofs.Bases.{left_generated, basis_admitted}
use Rattle.contents.proofs.Membership.{fresh_positive, limit_small, not_generated}
use Rattle.contents.proofs.Outcomes.{admissible_ok}
use Rattle.contents.proofs.draft.Draft.admit.Goals as goal

pub admissible-requires : goal.admissible-requires
admissible-requires g c word =
    let b = c.self.invariant in
    left_generated g.L.Levels.model g.met.L.Levels.lawful (content_of c.self.inside.held) (basis_rows c.self.inside.basis) c.args.word c.reduce-known.result b word (c.reduce-known.ensures b.echelon word)

pub push-requires : goal.push-requires
push-requires g c =
    let A = g.L.Levels.model in
    let L = g.met.L.Levels.lawful in
    let p = content_of c.self.inside.held in
    let w = c.args.word in
    let a = admissible_ok A w p (sym c.admissible.ensures ∙ c.in_ok-admissible.was) in
    record {
      room = omega (arith, a.room, limit_small A L);
      nonzero = fresh_positive A L p.factors (both p) w (not_generated A L p.factors (both p) w a.fresh);
    }

pub invariant_of-self : goal.invariant_of-self
invariant_of-self g c =
    basis_admitted g.L.Levels.model g.met.L.Levels.lawful c.args.side c.args.word (content_of c.self.inside.held) (content_of c.push.new.self)
    (basis_rows c.self.inside.basis) (basis_rows c.admit.new.self) c.self.invariant c.admit.ensures c.push.ensures
