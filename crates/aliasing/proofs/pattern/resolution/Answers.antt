use Rattle.std.proofs.Common.{◌+◌, ◌≤◌, length, get_or, Some, None, arith}
use Rattle.levels.specs.Generated.{generated}
use Rattle.aliasing.specs.Pattern.{ResolutionLaw}
use Rattle.aliasing.proofs.Resolved.{found_law, none_law, law_resolution, law_absent}
use Rattle.aliasing.proofs.pattern.resolution.Goals as goal

-- the first positive count
pub returns-then-count-gt0 : goal.returns-then-count-gt0
returns-then-count-gt0 g c =
    let A = g.L.Levels.model in
    let L = g.met.L.Levels.lawful in
    let n = c.args.n in
    let ws = c.args.words.now in
    let xs = c.pattern-counts.result in
    let i = c.loop-place.place in
    let law : length ws ≤ 16 → ResolutionLaw A n (generated A n ws) (Some (i + 1, get_or xs i 0))
    = λ few. found_law A L n ws xs (c.pattern-counts.ensures.counts few) i c.loop-place-test.true c.if-count-gt0.true c.loop-place.invariant in
    record {
      least = λ few. law_resolution A L n ws (Some (i + 1, get_or xs i 0)) (law few);
      law = law;
      absent = λ few. law_absent A L n ws (Some (i + 1, get_or xs i 0)) (law few);
    }

-- all counts are 0
pub returns : goal.returns
returns g c =
    let A = g.L.Levels.model in
    let L = g.met.L.Levels.lawful in
    let n = c.args.n in
    let ws = c.args.words.now in
    let law : length ws ≤ 16 → ResolutionLaw A n (generated A n ws) None
    = λ few. none_law A L n ws c.pattern-counts.result (c.pattern-counts.ensures.counts few) (λ k h. c.loop-place.invariant k (omega (arith, c.loop-place-test.false))) in
    record {
      least = λ few. law_resolution A L n ws None (law few);
      law = law;
      absent = λ few. law_absent A L n ws None (law few);
    }
