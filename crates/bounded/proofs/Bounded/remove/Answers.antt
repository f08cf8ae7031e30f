-- The part from the place on is turned by one, and the list ends one item earlier.
use Rattle.std.proofs.Common.{arith}
use Rattle.bounded.proofs.Fronts.{front_removed}
use Rattle.bounded.proofs.Bounded.remove.Goals as goal

pub returns-then-place-len : goal.returns-then-place-len
returns-then-place-len g c =
    front_removed c.args.self.now.places c.args.place c.args.self.now.len c.rotate_left.new.self c.if-place-len.true (omega arith) c.rotate_left.ensures.after
