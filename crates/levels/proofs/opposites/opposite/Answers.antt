use Rattle.std.proofs.Common.{◌≡◌, ℕ, ◌<◌, ◌≤◌, sym, ap, ◌∙◌, subst, inl, inr, arith}
use Rattle.std.proofs.lemmas.Bool.{both_ways, cases_eq, OnTrue_from, OnFalse_from}
use Rattle.levels.specs.Leaves.{AreOpposite}
use Rattle.levels.specs.Words.{legal, word_sum, word_multiple, code_sum}
use Rattle.levels.specs.Space.{Word}
use Rattle.levels.proofs.Lengths.{sum_code}
use Rattle.levels.proofs.Reduced.{space_at}
use Rattle.levels.proofs.opposites.opposite.Goals as goal

-- at first, none
pub loop-level-init : goal.loop-level-init
loop-level-init g c k l m e = absurd (omega arith)

-- this multiple is
pub returns-then-add-eq0-clause-yes : goal.returns-then-add-eq0-clause-yes
returns-then-add-eq0-clause-yes g c =
    let A = g.L.Levels.model in
    let L = g.met.L.Levels.lawful in
    let n = c.args.n in
    let w = c.args.word in
    let k = c.loop-level.level in
    let word : Word A n w = sym c.legal.ensures ∙ c.if-not-legal.false in
    let below : k < A.s = omega (arith, c.loop-level-test.true, g.met.L.Levels.levels) in
    let multiple = (space_at A L n w word).multiple_word k w below word in
    let is = c.product-multiple.ensures in
    OnTrue_from (legal A n w) (AreOpposite A n w c.product-multiple.result) (λ _. (
      subst (Word A n) (sym is) multiple,
      ap (word_sum A n w) is ∙ sum_code A L n w (word_multiple A n k w) word multiple ∙ ap (code_sum A w) (sym is) ∙ sym c.add.ensures ∙ c.if-add-eq0.true,
    ))

pub returns-then-add-eq0-clause-no : goal.returns-then-add-eq0-clause-no
returns-then-add-eq0-clause-no g c =
    let A = g.L.Levels.model in
    OnFalse_from (legal A c.args.n c.args.word) (c.product-multiple.result ≡ 0) (λ f. absurd (both_ways (legal A c.args.n c.args.word) f (sym c.legal.ensures ∙ c.if-not-legal.false)))

-- one multiple more that is not
pub loop-level-preserved : goal.loop-level-preserved
loop-level-preserved g c k l m e =
    let A = g.L.Levels.model in
    let L = g.met.L.Levels.lawful in
    let n = c.args.n in
    let w = c.args.word in
    let j = c.loop-level.level in
    let word : Word A n w = sym c.legal.ensures ∙ c.if-not-legal.false in
    elim (cases_eq k j) [
      | inr d ↦ c.loop-level.invariant k l (omega (arith, d)) e
      | inl same ↦
          let below : j < A.s = omega (arith, c.loop-level-test.true, g.met.L.Levels.levels) in
          let multiple = (space_at A L n w word).multiple_word j w below word in
          let none : c.add.result ≡ 0 =
          c.add.ensures ∙ ap (code_sum A w) c.product-multiple.ensures ∙ sym (sum_code A L n w (word_multiple A n j w) word multiple)
          ∙ ap (λ (i : ℕ). word_sum A n w (word_multiple A n i w)) (sym same) ∙ e in
          c.if-add-eq0.false none
    ]

-- one of them is
pub returns-clause-yes : goal.returns-clause-yes
returns-clause-yes g c =
    let A = g.L.Levels.model in
    let L = g.met.L.Levels.lawful in
    let F = L.field in
    let n = c.args.n in
    let w = c.args.word in
    let word : Word A n w = sym c.legal.ensures ∙ c.if-not-legal.false in
    let V = space_at A L n w word in
    let o = F.opposite 1 F.two_levels in
    let none : word_sum A n w (word_multiple A n o.0 w) ≡ 0 = cc (V.multiple_plus 1 o.0 w F.two_levels o.1 word, o.2, V.multiple_one w word, V.multiple_zero w word) in
    let one : 1 ≤ o.0 = elim (cases_eq o.0 0) [
      | inl z ↦ absurd (let h : A.plus 0 1 ≡ 1 = F.plus_zero 1 F.two_levels in let k : A.plus 1 0 ≡ 0 = ap (A.plus 1) (sym z) ∙ o.2 in omega (arith, h, k, F.plus_comm 0 1 (omega (arith, F.two_levels)) F.two_levels))
      | inr d ↦ omega (arith, d)
    ] in
    absurd (c.loop-level.invariant o.0 one (omega (arith, o.1, c.loop-level-test.false, c.loop-level.auto.level-end, g.met.L.Levels.levels)) none)
