use Rattle.std.proofs.Common.{◌++◌, ◌≡◌, ◌<◌, ℕ, sym, subst, arith}
use Rattle.levels.specs.Rows.{basis_rows}
use Rattle.choice.specs.Search.{Below, LedBy}
use Rattle.choice.specs.Judged.{OfferedTo, shared_rows, words_of}
use Rattle.choice.specs.Search.{Least}
use Rattle.choice.proofs.Least.{least_multiple, shared_echelon}
use Rattle.choice.proofs.Offers.{led_none, led_more}
use Rattle.choice.proofs.judge.Judge.offer_led.Goals as goal

-- by level 0, none
pub loop-level-init : goal.loop-level-init
loop-level-init g c =
    let s = c.args.self.now in (
      led_none g.L.Levels.model g.met.L.Levels.lawful (g.P.Preference.good s.preference.now) (g.met.P.Preference.lawful s.preference.now) s.factors s.room s.base.words.now
          (c.args.rows.now ++ shared_rows s) c.args.lead (words_of c.args.progress.now) c.requires.kept.0,
      c.requires.kept.1,
    )

-- a multiple is the smallest code of those that are alike, too
pub offer_coset-requires-clause-start : goal.offer_coset-requires-clause-start
offer_coset-requires-clause-start g c =
    let A = g.L.Levels.model in
    let L = g.met.L.Levels.lawful in
    let s = c.args.self.now in
    let echelon = shared_echelon A s.factors (basis_rows s.known) s.alike s.echelon in
    let below : c.loop-level.level < A.s = omega (arith, c.loop-level-test.true, g.met.L.Levels.levels) in
    subst (Least A s.factors (shared_rows s)) (sym c.product.ensures) (least_multiple A L s.factors (shared_rows s) echelon c.loop-level.level c.args.lead below c.requires.lead)

-- one level more
pub loop-level-preserved : goal.loop-level-preserved
loop-level-preserved g c =
    let s = c.args.self.now in (
      led_more g.L.Levels.model g.met.L.Levels.lawful (g.P.Preference.good s.preference.now) (g.met.P.Preference.lawful s.preference.now) s.factors s.room s.base.words.now
          (c.args.rows.now ++ shared_rows s) c.args.lead c.requires.lead.word c.loop-level.level c.product.result (omega (arith, c.loop-level.auto.level)) c.product.ensures
          (words_of c.args.progress.now) (words_of c.loop-level.progress) (words_of c.offer_coset.new.progress) c.loop-level.invariant.0 c.offer_coset.ensures.0,
      c.offer_coset.ensures.1,
    )

-- in the end, all levels
pub returns : goal.returns
returns g c =
    let A = g.L.Levels.model in
    let s = c.args.self.now in
    let two = g.met.L.Levels.lawful.field.two_levels in
    let all : c.loop-level.level ≡ A.s = omega (arith, c.loop-level.auto.level-end, c.loop-level.auto.level, g.met.L.Levels.levels, two) in
    subst (λ (k : ℕ). OfferedTo A g.P.Preference.good s (Below k (LedBy A s.factors (c.args.rows.now ++ shared_rows s) c.args.lead)) (words_of c.args.progress.now) c.loop-level.progress) all c.loop-level.invariant
