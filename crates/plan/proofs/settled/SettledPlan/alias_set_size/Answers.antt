-- A plan has no more defining words than its limit, and they are independent.
use Rattle.std.proofs.Common.{◌≡◌, ◌^◌, ◌<◌, ◌≤◌, length, sym, ◌∙◌, arith}
use Rattle.std.proofs.Math.Nat.{pow-le-pow_right}
use Rattle.contents.proofs.Keeps.{kept_defining}
use Rattle.plan.proofs.Filling.{alias_set_length}
use Rattle.plan.proofs.settled.SettledPlan.alias_set_size.Goals as goal

pub pow-requires : goal.pow-requires
pow-requires g c =
    let A = g.L.Levels.model in
    let L = g.met.L.Levels.lawful in
    let p = c.args.self.now in
    let few : length p.defining ≤ A.limit = (kept_defining A L p c.list-defining.ensures.kept).few in
    let positive : 0 < A.s = omega (arith, L.field.two_levels) in
    let most : A.s ^ length p.defining ≤ A.s ^ A.limit = pow-le-pow_right positive few in
    let small : A.s ^ length p.defining < 2 ^ 64 = omega (arith, most, L.few) in
    let base : c.from.result ≡ A.s = c.from.ensures ∙ c.LEVELS.ensures ∙ g.met.L.Levels.levels in
    let words = c.list-defining.ensures.words in
    rw (base, words) small

pub returns : goal.returns
returns g c w word =
    let A = g.L.Levels.model in
    let L = g.met.L.Levels.lawful in
    let p = c.args.self.now in
    let d = kept_defining A L p c.list-defining.ensures.kept in
    let base : c.from.result ≡ A.s = c.from.ensures ∙ c.LEVELS.ensures ∙ g.met.L.Levels.levels in
    let words = c.list-defining.ensures.words in
    alias_set_length A L p.factors p.defining w d.words d.independent word ∙ sym (rw (base, words) at c.pow.ensures)
