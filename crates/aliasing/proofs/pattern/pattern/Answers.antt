use Rattle.std.proofs.Common.{◌≡◌, ℕ, suc, ◌+◌, ◌-◌, ◌/◌, ◌<◌, ◌≤◌, ◌^◌, length, get_or, replicate, sym, ap, ◌∙◌, add-one, arith}
use Rattle.std.proofs.lemmas.List.{get_or-replicate}
use Rattle.levels.specs.Generated.{generated}
use Rattle.levels.specs.Alias.{tallied}
use Rattle.aliasing.specs.Pattern.{count}
use Rattle.aliasing.proofs.Called.{each_called}
use Rattle.aliasing.proofs.Counts.{tallied-none, tallied-count, count_fits, pattern_front}
use Rattle.aliasing.proofs.Exact.{generated_divides}
use Rattle.aliasing.proofs.pattern.pattern.Goals as goal

-- n is out of range: every count is 0
pub returns-then-repeats-eq0 : goal.returns-then-repeats-eq0
returns-then-repeats-eq0 g c =
    let A = g.L.Levels.model in
    let L = g.met.L.Levels.lawful in
    let n = c.args.n in
    let ws = c.args.words.now in
    let tallies = rw (c.new.ensures.factors, c.new.ensures.words) at c.tally-all.ensures in
    let none : tallied A n ws 0 0 ≡ 0 = cc (tallies 0 (omega arith), c.if-repeats-eq0.true) in
    let zeros : length ws ≤ 16 → (i : ℕ) → i < 32 → get_or (replicate 32 0) i 0 ≡ count A (generated A n ws) (suc i)
    = λ few i l. get_or-replicate 32 i 0 0 l ∙ sym (tallied-none A L n ws few none (suc i) (omega arith)) in
    record {
      counts = zeros;
      front = λ few high. pattern_front A (generated A n ws) n (replicate 32 0) high (λ i l. zeros few i (omega arith));
      exact = generated_divides A L n ws;
    }

-- the tally of each length, divided by the repeats and by s − 1
pub returns : goal.returns
returns g c =
    let A = g.L.Levels.model in
    let L = g.met.L.Levels.lawful in
    let n = c.args.n in
    let ws = c.args.words.now in
    let all = c.tally-all.result in
    let levels : c.from.result ≡ A.s = c.from.ensures ∙ c.LEVELS.ensures ∙ g.met.L.Levels.levels in
    let amount : ℕ → ℕ = λ i. get_or all (i + 1) 0 / get_or all 0 0 / (c.from.result - 1) in
    let fitted : (i : ℕ) → i < 32 → amount i < 2 ^ 32 → get_or c.from_fn.result i 0 ≡ amount i
    = λ i l. each_called _ (λ i y. amount i < 2 ^ 32 → y ≡ amount i) _ c.from_fn.result 32 0 c.from_fn.ensures.items.each (λ x y q k. let h = k.met.0 in let e = k.met.1 in (λ j. (e.0 j, e.1 j, e.2 j), λ l. grind (arith, h))) i (omega arith) l in
    let tallies = rw (c.new.ensures.factors, c.new.ensures.words) at c.tally-all.ensures in
    let zeros = tallies 0 (omega arith) in
    let quotient : length ws ≤ 16 → (i : ℕ) → i < 32 → amount i ≡ count A (generated A n ws) (i + 1)
    = λ few i l. let here = tallies (i + 1) (omega arith) in cc (tallied-count A L n ws few (λ e. c.if-repeats-eq0.false (zeros ∙ e)) (i + 1)) in
    let counts : length ws ≤ 16 → (i : ℕ) → i < 32 → get_or c.from_fn.result i 0 ≡ count A (generated A n ws) (suc i)
    = λ few i l. fitted i l (omega (arith, quotient few i l, count_fits A L n ws few (i + 1) (omega arith))) ∙ quotient few i l ∙ ap (count A (generated A n ws)) (add-one i) in
    record {
      counts = counts;
      front = λ few high. pattern_front A (generated A n ws) n c.from_fn.result (omega (arith, c.from_fn.ensures.items.long)) (λ i l. counts few i (omega arith));
      exact = generated_divides A L n ws;
    }
