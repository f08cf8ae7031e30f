use Rattle.std.proofs.Common.{◌≡◌, ℕ, ◌<◌, Some, get_or, sym, ap, ◌∙◌, subst, arith}
use Rattle.aliasing.specs.Blocks.{block}
use Rattle.aliasing.proofs.Repeats.{zero-word, repeated_first, repeated_room, repeated_more, repeated_all}
use Rattle.aliasing.proofs.members.repeat.Goals as goal
use Rattle.aliasing.proofs.members.repeat.Goals.{in-Some, in_default}

pub loop-place-init : goal.loop-place-init
loop-place-init g c = repeated_first g.L.Levels.model g.met.L.Levels.lawful c.args.n c.args.row c.requires.row c.requires.nonzero c.args.front c.args.memory.now c.requires.front c.requires.legal

-- the front is among the codes that are there
pub append-len-requires : goal.append-len-requires
append-len-requires g c =
    let r =
    repeated_room g.L.Levels.model g.met.L.Levels.lawful c.args.n c.args.row c.requires.row c.requires.nonzero c.args.front c.args.memory.now c.requires.front c.requires.legal
    c.loop-place.place c.loop-place.len c.loop-place.memory c.loop-place.auto.place c.loop-place.invariant in
    record { front = r.0; len = r.1 }

-- a multiple is found at each place, and the front is repeated with it
pub loop-place-preserved : goal.loop-place-preserved
loop-place-preserved g c =
    let A = g.L.Levels.model in
    let L = g.met.L.Levels.lawful in
    let n = c.args.n in
    let place = c.loop-place.place in
    let B = block A n c.args.row 0 in
    let l : place < A.s = omega (arith, c.loop-place-test.true, c.LEVELS-place-end.ensures, g.met.L.Levels.levels) in
    let found : c.pick.result ≡ Some (get_or B place 0) =
    c.pick.ensures c.requires.row c.requires.nonzero (zero-word A L n c.args.row c.requires.row c.requires.nonzero) (subst (λ p. p < A.s) (sym c.from.ensures) l)
    ∙ ap (λ p. Some (get_or B p 0)) c.from.ensures in
    elim c.match-pick.branch [
      | in-Some w ↦
          let same : w.in-Some.multiple ≡ get_or B place 0 = let e = sym w.in-Some.is ∙ found in cc in
          repeated_more A L n c.args.row c.requires.row c.requires.nonzero c.args.front c.args.memory.now c.requires.front c.requires.legal
          place c.loop-place.len c.match-pick.len w.in-Some.multiple c.loop-place.memory c.match-pick.memory c.loop-place.auto.place l same c.loop-place.invariant
          (w.len-is ∙ w.append-len.ensures.count) (w.memory-is ∙ w.append-len.ensures.stored)
      | in_default w ↦ absurd (let e = sym w.in_default.is ∙ found in let z : ◌≡◌ {A = ℕ} 0 1 = cc in omega arith)
    ]

-- with all multiples the whole block is gone through
pub returns : goal.returns
returns g c =
    let A = g.L.Levels.model in
    let L = g.met.L.Levels.lawful in
    let two = L.field.two_levels in
    let r =
    repeated_all A L c.args.n c.args.row c.requires.row c.requires.nonzero c.args.front c.args.memory.now c.requires.front c.requires.legal c.loop-place.place c.loop-place.len c.loop-place.memory
    (omega (arith, c.loop-place-test.false, c.loop-place.auto.place-end, c.LEVELS-place-end.ensures, g.met.L.Levels.levels)) c.loop-place.invariant in
    record { count = r.0; stored = r.1 }
