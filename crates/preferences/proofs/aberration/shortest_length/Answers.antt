use Rattle.std.proofs.Common.{arith, inl, inr, ap, ◌≡◌, ◌∙◌, slice_index}
use Rattle.std.proofs.lemmas.Bool.{cases_lt}
use Rattle.preferences.proofs.aberration.shortest_length.Goals as goal

-- at first, none
pub loop-count-init : goal.loop-count-init
loop-count-init c = (omega arith, λ i l. absurd (omega arith))

-- one count more that is 0
pub loop-count-preserved : goal.loop-count-preserved
loop-count-preserved c =
    let k = c.loop-count.length in
    let same = c.loop-count.invariant.0 in (
      omega (arith, same),
      λ i l. elim (cases_lt i k) [
        | inl m ↦ c.loop-count.invariant.1 i m
        | inr m ↦ let e : i ≡ c.loop-count.count-index = omega (arith, same) in ap (slice_index c.args.tally.now) e ∙ omega (arith, c.if-count-gt0.false)
      ],
    )
