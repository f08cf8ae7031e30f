use Rattle.std.proofs.Common.{◌≡◌, ◌≤◌, ◌++◌, ℕ, ◌-◌, List, length, get_or, take, drop, sym, ap, subst, arith}
use Rattle.levels.specs.Rows.{basis_rows}
use Rattle.levels.proofs.Reduced.{space_at}
use Rattle.choice.specs.Search.{Below, Least, Led, LedAt, Offered}
use Rattle.choice.proofs.Least.{part_least, rows_least}
use Rattle.choice.specs.Judged.{OfferedTo, order_of, shared_rows, words_of}
use Rattle.choice.proofs.Offers.{led_rows_none, led_row, led_same, middle_same}
use Rattle.choice.proofs.judge.Judge.best.Goals as goal

-- at first, by none
pub loop-i-init : goal.loop-i-init
loop-i-init g c =
    let s = c.args.self.now in
    let k = length (basis_rows s.known) in
    let sampled = c.sample.new.progress in
    subst (λ (i : ℕ). OfferedTo g.L.Levels.model g.P.Preference.good s (Below i (LedAt g.L.Levels.model s.factors (basis_rows s.whole) k)) (words_of sampled) sampled) (sym c.len-i.ensures.count)
    (led_rows_none g.L.Levels.model g.met.L.Levels.lawful (g.P.Preference.good s.preference.now) (g.met.P.Preference.lawful s.preference.now) s.factors s.room s.base.words.now (basis_rows s.whole) k (words_of sampled) c.sample.ensures.kept.0, c.sample.ensures.kept.1)

-- each added row is the smallest code of those that are alike
pub offer_led-requires-clause-lead : goal.offer_led-requires-clause-lead
offer_led-requires-clause-lead g c =
    let s = c.args.self.now in
    let i = c.loop-i.i in
    let front : c.shared-from.result ≤ i = omega (arith, c.shared-from.ensures.within, c.loop-i.auto.i, c.len-i.ensures.count) in
    subst (λ (us : List ℕ). Least g.L.Levels.model s.factors (shared_rows s) (get_or us i 0)) (sym c.rows-rows.ensures)
    (rows_least g.L.Levels.model g.met.L.Levels.lawful s.factors (basis_rows s.whole) (shared_rows s) c.shared-from.result s.all c.shared-from.ensures.front i front (omega (arith, c.loop-i-test.true, ap length c.rows-rows.ensures)))

-- so are those before it
pub offer_led-requires-clause-rows : goal.offer_led-requires-clause-rows
offer_led-requires-clause-rows g c =
    let s = c.args.self.now in
    let from = c.shared-from.result in
    let count = c.loop-i.i - from in
    let rows = c.rows-rows.result.now in
    part_least g.L.Levels.model g.met.L.Levels.lawful s.factors (basis_rows s.whole) (shared_rows s) from from s.all c.shared-from.ensures.front (omega arith)
    (take count (drop from rows)) count (ap (λ (us : List ℕ). take count (drop from us)) c.rows-rows.ensures)

-- the words led by one row more
pub loop-i-preserved : goal.loop-i-preserved
loop-i-preserved g c =
    let A = g.L.Levels.model in
    let s = c.args.self.now in
    let whole = basis_rows s.whole in
    let known = basis_rows s.known in
    let i = c.loop-i.i in
    let inside : length c.rows-rows.result.now ≡ length whole = ap length c.rows-rows.ensures in
    let rows = c.rows-rows.result.now in
    let from = c.shared-from.result in
    let shared = shared_rows s in
    let word = s.all.words i (omega (arith, c.loop-i-test.true, inside)) in
    let front : from ≤ i = omega (arith, c.shared-from.ensures.within, c.loop-i.auto.i, c.len-i.ensures.count) in
    let L = g.met.L.Levels.lawful in
    let V = space_at A L s.factors (get_or whole i 0) word in
    let good = g.P.Preference.good s.preference.now in
    let laws = g.met.P.Preference.lawful s.preference.now in
    let same = middle_same A L s.factors V whole shared from i front c.shared-from.ensures.front in
    let led = subst (λ (us : List ℕ). OfferedTo A g.P.Preference.good s (Led A s.factors (take (i - from) (drop from us) ++ shared) (get_or us i 0)) (words_of c.loop-i.progress) c.offer_led.new.progress) c.rows-rows.ensures c.offer_led.ensures in
    let o = led_same A L good laws s.factors s.room s.base.words.now (take (i - from) (drop from whole) ++ shared) (take i whole) (λ x. (same x).0) (λ x. (same x).1) (get_or whole i 0) word (words_of c.loop-i.progress) (words_of c.offer_led.new.progress) led.0 in (
      led_row A L good laws s.factors s.room s.base.words.now whole (length known) i (omega (arith, c.loop-i.auto.i, c.len-i.ensures.count)) word
          (words_of c.sample.new.progress) (words_of c.loop-i.progress) (words_of c.offer_led.new.progress) c.loop-i.invariant.0 o,
      led.1,
    )

-- in the end, by all
pub returns : goal.returns
returns g c =
    let A = g.L.Levels.model in
    let s = c.args.self.now in
    let whole = basis_rows s.whole in
    let known = basis_rows s.known in
    let sampled = words_of c.sample.new.progress in
    let inside : length c.rows-rows.result.now ≡ length whole = ap length c.rows-rows.ensures in
    let all : c.loop-i.i ≡ length whole = omega (arith, c.loop-i.auto.i, c.loop-i.auto.i-end, c.loop-i-test.false, c.len-i.ensures.count, inside, s.longer) in (
      sampled,
      c.sample.ensures.generated,
      subst (λ (i : ℕ). Offered A s.factors (order_of A g.P.Preference.good s) s.room s.base.words.now (Below i (LedAt A s.factors whole (length known))) sampled (words_of c.loop-i.progress)) all c.loop-i.invariant.0,
    )
