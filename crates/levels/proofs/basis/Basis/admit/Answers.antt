use Rattle.std.proofs.Common.{◌≤◌, length, sym, inl, arith, length-take}
use Rattle.levels.specs.Space.{Word}
use Rattle.levels.specs.Rows.{basis_rows}
use Rattle.levels.proofs.Growth.{admitted_known, admitted_pushed, zero_known}
use Rattle.levels.proofs.basis.Basis.admit.Goals as goal

-- an illegal word is known
pub returns-then-not-legal : goal.returns-then-not-legal
returns-then-not-legal g c =
    admitted_known g.L.Levels.model g.met.L.Levels.lawful c.args.n (basis_rows c.args.self.now) c.args.word
    (λ e. inl (sym c.if-not-legal.ensures))

-- what is left of the word is a row more, for which there is room
pub returns-then-left-ne0 : goal.returns-then-left-ne0
returns-then-left-ne0 g c =
    let b = c.args.self.now in
    let hw : Word g.L.Levels.model c.args.n c.args.word = cc in
    let few : length (basis_rows b) ≤ 32 = omega (arith, b.rows.few, length-take b.rows.len b.rows.places) in
    rw c.push.ensures
    (admitted_pushed g.L.Levels.model g.met.L.Levels.lawful c.args.n (basis_rows b) c.args.word c.reduce-left.result hw (λ e. c.reduce-left.ensures e hw) (omega (arith, c.if-left-ne0.true)) few)

-- nothing is left of the word
pub returns-else-left-ne0 : goal.returns-else-left-ne0
returns-else-left-ne0 g c =
    let hw : Word g.L.Levels.model c.args.n c.args.word = cc in
    admitted_known g.L.Levels.model g.met.L.Levels.lawful c.args.n (basis_rows c.args.self.now) c.args.word
    (λ e. zero_known g.L.Levels.model g.met.L.Levels.lawful c.args.n (basis_rows c.args.self.now) c.args.word c.reduce-left.result hw (c.reduce-left.ensures e hw) c.if-left-ne0.false)
