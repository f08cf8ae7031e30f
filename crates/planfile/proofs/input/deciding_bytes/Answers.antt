use Rattle.std.proofs.Common.{sym, ap, ◌∙◌, subst, arith, rules}
use Rattle.std.proofs.lemmas.List.{places}
use Rattle.std.specs.Io.KnownBytes.{Consumes}
use Rattle.bounded.specs.Items.{items_of}
use Rattle.planfile.proofs.Deciding.{first_full, first_ended, first_decide, first_more, first_same}
use Rattle.planfile.proofs.input.deciding_bytes.Goals.{in-Ok, in-Err}
use Rattle.planfile.proofs.input.deciding_bytes.Goals as goal

pub returns-then-room-eq0-clause-first : goal.returns-then-room-eq0-clause-first
returns-then-room-eq0-clause-first g c =
    first_full _ _ _ c.loop.invariant (omega (arith, c.if-room-eq0.true, c.len-room.ensures.count, c.len-room.ensures.few))

pub returns-then-room-eq0-clause-decide : goal.returns-then-room-eq0-clause-decide
returns-then-room-eq0-clause-decide g c =
    first_decide _ _ (first_full _ _ _ c.loop.invariant (omega (arith, c.if-room-eq0.true, c.len-room.ensures.count, c.len-room.ensures.few)))

pub returns-in-Ok-eq0-clause-first : goal.returns-in-Ok-eq0-clause-first
returns-in-Ok-eq0-clause-first g c =
    first_ended _ _ _ c.read.result (items_of c.loop.first) c.read.new.buf c.loop.invariant c.read.ensures.bytes
    c.in-Ok-eq0.field-0 c.in-Ok-eq0.is c.in-Ok-eq0.field-0-test (search (rules, places)) (omega (arith, c.len-room.ensures.count, c.len-room.ensures.few))

pub loop-preserved : goal.loop-preserved
loop-preserved g c = elim c.match-read.branch [
  | in-Ok w ↦
      first_more _ _ _ c.read.result (items_of c.loop.first) c.read.new.buf c.loop.invariant c.read.ensures.bytes
      w.in-Ok.n _ _ w.in-Ok.is w.in-Ok.ensures.bound.0 (search (rules, places)) (ap items_of w.first-is ∙ w.extend.ensures)
  | in-Err w ↦
      subst (Consumes _ _) (ap items_of (sym w.first-is))
      (first_same _ _ _ c.read.result (items_of c.loop.first) c.read.new.buf c.loop.invariant c.read.ensures.bytes w.in-Err.e w.in-Err.is)
]
