use Rattle.std.proofs.Common.{rules, ◌≡◌, ℕ, ◌+◌, ◌-◌, ◌<◌, ◌≤◌, List, map, length, take, sym, ap, ◌∙◌, subst, arith, length-take}
use Rattle.std.proofs.lemmas.List.{length-replicate, get_or-replicate, get_or-take}
use Rattle.bounded.specs.Items.{items_of}
use Rattle.levels.specs.Arithmetic.{two}
use Rattle.levels.specs.Basis.{Echelon, LeastAlias}
use Rattle.levels.specs.Space.{Word}
use Rattle.levels.specs.Rows.{basis_rows}
use Rattle.levels.specs.Lawful.{lawful_two}
use Rattle.levels.proofs.Growth.{from_none}
use Rattle.aliasing.specs.Clear.{clear_byte, pairs_from}
use Rattle.aliasing.specs.Short.{one_letter, LeastAliases}
use Rattle.aliasing.proofs.Crowds.{pushed_more, pushed_all, settled}
use Rattle.aliasing.proofs.clear.push_bytes.Goals as goal

-- all bytes are 1
pub mark_others-requires-clause-ones : goal.mark_others-requires-clause-ones
mark_others-requires-clause-ones c = λ p l. get_or-replicate {A = ℕ} 1024 p 1 0 l

-- no pair is pushed yet
pub loop-i-init : goal.loop-i-init
loop-i-init c = rw c.requires.empty (ap (λ k. map (clear_byte c.args.n c.args.words.now) (pairs_from 0 k)) (let e : c.args.n - 0 ≡ c.args.n = omega arith in e))

-- the least aliases of all factors
whole_list : (n : ℕ) → n ≤ 32 → (rows all : List ℕ) (f : ℕ) → f ≡ n → length all ≡ 33 → LeastAliases n rows all → (length (take (f + 1) all) ≡ n + 1) × LeastAliases n rows (take (f + 1) all)
whole_list n high rows all f e size least =
    let long = length-take (f + 1) all in (
      omega arith,
      (λ k l.
          let inside : k < f + 1 = omega arith in
          subst (λ v. Echelon two n rows → Word two n (one_letter k) → LeastAlias two n rows (one_letter k) v) (sym (get_or-take (f + 1) all k 0 inside)) (least k (omega arith))),
    )

-- a least alias of one letter or two is its own
pub mark_others-requires-clause-settled : goal.mark_others-requires-clause-settled
mark_others-requires-clause-settled c =
    let n = c.args.n in
    let ws = c.args.words.now in
    let rows = basis_rows c.admit_all.new.self in
    let all = c.least_aliases-least.result in
    let f = c.from-factors.result in
    let b = from_none two lawful_two n ws rows (rw c.new-basis.ensures at c.admit_all.ensures) in
    let h = whole_list n c.requires.few rows all f c.from-factors.ensures (search rules) c.least_aliases-least.ensures in
    settled n c.requires.few ws rows (take (f + 1) all) b.0 b.1 h.0 h.1

-- one row more
pub loop-i-preserved : goal.loop-i-preserved
loop-i-preserved c =
    let n = c.args.n in
    let ws = c.args.words.now in
    let rows = basis_rows c.admit_all.new.self in
    let all = c.least_aliases-least.result in
    let alone = c.mark_others.new.alone in
    let i = c.loop-i.i in
    let f = c.from-factors.result in
    let fn = c.from-factors.ensures in
    let b = from_none two lawful_two n ws rows (rw c.new-basis.ensures at c.admit_all.ensures) in
    let h = whole_list n c.requires.few rows all f fn (search rules) c.least_aliases-least.ensures in
    let room : length alone ≡ 1024 = c.mark_others.auto.alone ∙ length-replicate {A = ℕ} 1024 1 in
    pushed_more n c.requires.few ws rows (take (f + 1) all) b.0 b.1 h.0 h.1 alone room c.mark_others.ensures i c.loop-i.auto.i (omega (arith, c.loop-i-test.true))
    (items_of c.loop-i.bytes) (items_of c.extend.new.self) (rw fn at c.extend.ensures) c.loop-i.invariant

-- all rows are pushed
pub returns : goal.returns
returns c = pushed_all c.args.n c.args.words.now c.loop-i.i (items_of c.loop-i.bytes) (let a = c.from-factors.ensures in let b = c.loop-i-test.false in omega arith) c.loop-i.invariant
