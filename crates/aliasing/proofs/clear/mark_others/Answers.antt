use Rattle.std.proofs.Common.{◌≡◌, ℕ, ◌+◌, ◌-◌, ◌*◌, ◌<◌, ◌≤◌, sym, subst, inl, arith}
use Rattle.aliasing.specs.Short.{Stands}
use Rattle.aliasing.specs.Buckets.{Chained}
use Rattle.aliasing.proofs.Chains.{chained_none, chained_up}
use Rattle.aliasing.proofs.Factors.{pair_stands}
use Rattle.aliasing.proofs.Others.{Seen, own_pair, chained_own, seen_none, seen_up, seen_told, seen_alone, seen_other}
use Rattle.aliasing.proofs.clear.mark_others.Goals as goal
use Rattle.aliasing.proofs.clear.mark_others.Goals.{in-Some, in_default}

-- no word is seen yet
pub loop-i-init : goal.loop-i-init
loop-i-init c = (chained_none c.args.least.now, seen_none c.args.least.now c.args.alone.now c.requires.room c.requires.few c.requires.ones)

-- nor one of factor i
pub loop-j-init : goal.loop-j-init
loop-j-init c =
    let same : 33 * c.loop-i.i ≡ 32 * c.loop-i.i + (c.loop-i.i + 1) - 1 = omega arith in (
      subst (λ k. Chained c.args.least.now k c.loop-i.last c.loop-i.before) same c.loop-i.invariant.0,
      subst (λ k. Seen c.args.least.now k c.loop-i.alone) same c.loop-i.invariant.1,
      c.loop-i-test.true,
    )

-- one word more
pub loop-j-preserved : goal.loop-j-preserved
loop-j-preserved c =
    let ls = c.args.least.now in
    let i = c.loop-i.i in
    let j = c.loop-j.j in
    let k = 32 * i + j - 1 in
    let bytes = c.loop-j.alone in
    let above = c.loop-j.auto.j in
    let few = c.requires.few in
    let st = pair_stands ls i j (omega arith) c.loop-j-test.true few in
    let h = c.loop-j.invariant.1 in
    let e : 32 * i + j ≡ 32 * i + (j + 1) - 1 = omega arith in
    let next : k + 1 ≡ 32 * i + (j + 1) - 1 = omega arith in
    let more : Seen ls (k + 1) c.match-find_other.alone = elim c.match-find_other.branch [
      | in-Some w ↦ rw w.alone-is (seen_other ls k bytes st few h w.in-Some.other w.in-Some.ensures.found)
      | in_default w ↦ rw w.alone-is (seen_alone ls k bytes st few h w.in_default.ensures.found)
    ] in
    (subst (λ m. Chained ls m c.find_other.new.last c.find_other.new.before) e c.find_other.ensures.chained, subst (λ m. Seen ls m c.match-find_other.alone) next more, c.loop-j.invariant.2)

-- one word more, which is its own least alias
pub loop-j-preserved-then-own-j : goal.loop-j-preserved-then-own-j
loop-j-preserved-then-own-j c =
    let ls = c.args.least.now in
    let i = c.loop-i.i in
    let j = c.loop-j.j in
    let k = 32 * i + j - 1 in
    let m = 32 * i + (j + 1) - 1 in
    let above = c.loop-j.auto.j in
    let few = c.requires.few in
    let h = c.loop-j.invariant in
    let st = pair_stands ls i j (omega arith) c.loop-j-test.true few in
    let own = own_pair ls i j (omega arith) c.loop-j-test.true few
    (c.own_letters-own.ensures i c.loop-i-test.true c.if-own-i.true) (c.own_letters-own.ensures j c.loop-j-test.true c.if-own-j.true) in
    let next : k + 1 ≡ m = omega arith in
    (chained_own ls k st m c.loop-j.last c.loop-j.before (sym next) own h.0, subst (λ m. Seen ls m c.loop-j.alone) next (seen_alone ls k c.loop-j.alone st few h.1 (inl own)), h.2)

-- no words are left of factor i
pub loop-i-preserved : goal.loop-i-preserved
loop-i-preserved c =
    let ls = c.args.least.now in
    let k = 32 * c.loop-i.i + c.loop-j.j - 1 in
    let m = 33 * (c.loop-i.i + 1) in
    let few = c.requires.few in
    let end = c.loop-j-test.false in
    let high = c.loop-j.auto.j-end in
    let none : (p : ℕ) → k ≤ p → p < m → Stands ls p → ⊥ = λ p a b s. omega (arith, s.0, s.1) in
    (chained_up ls k m c.loop-j.last c.loop-j.before (omega arith) (λ p a b s. none p a b s.0) c.loop-j.invariant.0, seen_up ls k m c.loop-j.alone none c.loop-j.invariant.1)

-- all words are told of
pub returns : goal.returns
returns c = seen_told c.args.least.now (33 * c.loop-i.i) c.loop-i.alone c.requires.few (λ p s. let end = c.loop-i-test.false in omega (arith, s.0, s.1)) c.loop-i.invariant.1
