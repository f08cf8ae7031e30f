use Rattle.std.proofs.Common.{◌<◌, ◌≢◌, length, subst, arith, below_none, below_more, get_or-set_other, get_or-set_same}
use Rattle.std.proofs.lemmas.List.{length-set}
use Rattle.levels.specs.Arithmetic.{two}
use Rattle.levels.specs.Space.{Word}
use Rattle.levels.specs.Basis.{Echelon, LeastAlias}
use Rattle.levels.specs.Rows.{basis_rows}
use Rattle.aliasing.proofs.clear.least_aliases.Goals as goal

-- none yet
pub loop-i-init : goal.loop-i-init
loop-i-init c = (omega arith, below_none _)

-- one letter more
pub loop-i-preserved : goal.loop-i-preserved
loop-i-preserved c =
    let i = c.loop-i.i in
    let n = c.args.n in
    let rows = basis_rows c.args.basis.now in
    let size = c.loop-i.invariant.0 in
    let there : i < length c.loop-i.least = omega (arith, c.loop-i-test.true) in
    let value = c.letter.ensures in (
      omega (arith, length-set c.loop-i.least i c.reduce.result),
      below_more _ _
          (λ k h e w. let ne : k ≢ i = omega arith in rw get_or-set_other (c.loop-i.invariant.1 k h e w))
          (rw get_or-set_same (subst (λ v. Echelon two n rows → Word two n v → LeastAlias two n rows v c.reduce.result) value c.reduce.ensures)),
    )

-- all of them
pub returns : goal.returns
returns c = λ k l. c.loop-i.invariant.1 k (let size = c.loop-i.invariant.0 in let end = c.loop-i-test.false in omega arith)
