-- By independent words code 0 alone is generated exactly where there is none of them.
use Rattle.std.proofs.Common.{◌≡◌, ◌↔◌, ◌∷◌, [], IsNone}
use Rattle.levels.specs.Generated.{generated}
use Rattle.contents.proofs.Keeps.{kept_defining}
use Rattle.plan.proofs.Resolving.{generated-none}
use Rattle.plan.proofs.settled.SettledPlan.resolution.Goals as goal

pub returns-clause-absent : goal.returns-clause-absent
returns-clause-absent g c =
    let A = g.L.Levels.model in
    let L = g.met.L.Levels.lawful in
    let p = c.args.self.now in
    let d = kept_defining A L p c.list.ensures.kept in
    let absent : IsNone c.resolution.result ↔ (generated A p.factors p.defining ≡ 0 ∷ []) =
    rw (c.list.ensures.words, c.factors.ensures.value) at (c.resolution.ensures.absent c.list.ensures.few) in
    let none = generated-none A L p.factors p.defining d.words d.independent in
    ((λ e. none.0 (absent.0 e)), (λ e. absent.1 (none.1 e)))
