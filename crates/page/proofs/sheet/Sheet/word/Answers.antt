-- Each digit stands behind those before it.
use Rattle.std.proofs.Common.{◌≡◌, ℕ, ◌+◌, ◌-◌, ◌*◌, ◌/◌, ◌%◌, ◌^◌, [], ◌∷◌, ◌++◌, take, ap, ◌∙◌, arith}
use Rattle.std.proofs.lemmas.Nat.{one_shl}
use Rattle.levels.specs.Words.{digits}
use Rattle.contents.proofs.Membership.{bits_small}
use Rattle.page.specs.Page.{letters, shown}
use Rattle.page.specs.Written.{written}
use Rattle.page.proofs.Lines.{digit_more, nothing_more}
use Rattle.page.proofs.sheet.Sheet.word.Given as given
use Rattle.page.proofs.sheet.Sheet.word.Goals as goal

-- a digit is below 2 to the power of its bits
base_is : (g : given.Over) (b : ℕ) → b ≡ g.L.Levels.model.bits → (1 * 2 ^ b) % 2 ^ 64 ≡ 2 ^ g.L.Levels.model.bits
base_is g b e = one_shl b 64 (omega (arith, e, bits_small g.L.Levels.model g.met.L.Levels.lawful)) ∙ ap (λ k. 2 ^ k) e

pub loop-i-preserved : goal.loop-i-preserved
loop-i-preserved g c =
    let A = g.L.Levels.model in
    let n = c.args.plan.now.factors in
    let i = c.loop-i.i in
    let rest = c.loop-i.rest in
    let next = written c.digit.new.self in
    let base = base_is g c.BITS.result (c.BITS.ensures ∙ g.met.L.Levels.bits) in
    ap (λ b. take 1024 (next ++ letters (i + 1) (digits A (n - (i + 1)) (rest / b)))) base
    ∙ digit_more 1024 A n i rest (written c.loop-i.self) (take 1024 (written c.args.self.now ++ shown A n c.args.code)) c.loop-i.invariant (omega (arith, c.loop-i-test.true, c.factors-i-end.ensures.value)) next
    (c.digit.ensures ∙ ap (λ b. take 1024 (written c.loop-i.self ++ letters i (rest % b ∷ []))) base)

pub returns : goal.returns
returns g c =
    let A = g.L.Levels.model in
    let n = c.args.plan.now.factors in
    let i = c.loop-i.i in
    let none : n - i ≡ 0 = omega (arith, c.loop-i-test.false, c.factors-i-end.ensures.value) in
    nothing_more c.loop-i.self (letters i (digits A (n - i) c.loop-i.rest)) (ap (λ k. letters i (digits A k c.loop-i.rest)) none)
    ∙ c.loop-i.invariant
