use Rattle.std.proofs.Common.{◌<◌, ◌≢◌, false, eqb, length, get_or, sym, ◌∙◌, arith, below_more, get_or-set_other, get_or-set_same}
use Rattle.std.proofs.lemmas.List.{length-set}
use Rattle.std.proofs.lemmas.Bool.{eqb-true}
use Rattle.aliasing.proofs.clear.own_letters.Goals as goal

-- one letter more
pub loop-k-preserved : goal.loop-k-preserved
loop-k-preserved c =
    let k = c.loop-k.k in
    let own = c.loop-k.own in
    let word = get_or c.args.least.now k 0 in
    let v = eqb word c.letter.result in
    let size = c.loop-k.invariant.0 in
    let there : k < length own = omega (arith, c.loop-k-test.true, c.requires) in (
      length-set own k v ∙ size,
      below_more _ _
          (λ i h t. let ne : i ≢ k = omega arith in c.loop-k.invariant.1 i h (sym (get_or-set_other own k i v false ne) ∙ t))
          (λ t. eqb-true word c.letter.result (sym (get_or-set_same own k v false there) ∙ t) ∙ c.letter.ensures),
    )
