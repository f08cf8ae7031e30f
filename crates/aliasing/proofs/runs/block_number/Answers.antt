use Rattle.std.proofs.Common.{◌++◌, [], ◌∷◌, eqb, ◌%◌, ◌≡◌, ℕ, pow-suc, add-one, zero-add, ◌+◌, ◌*◌, ◌^◌, ◌<◌, ◌≤◌, length, List, get_or, take, drop, sym, ap, ◌∙◌, subst, add-zero, one-mul, zero-mul, length-take, arith}
use Rattle.std.specs.List.{enumerate_from}
use Rattle.std.proofs.lemmas.Iterator.{YieldsList-from_slice, YieldsList-from_take}
use Rattle.std.proofs.lemmas.Iterator.Consumers.{YieldsList-from_enumerate, YieldsList-turn, YieldsList-end}
use Rattle.std.proofs.lemmas.Nat.{one_shl}
use Rattle.std.proofs.lemmas.List.FromFn.{get_or-enumerate_from, length-enumerate_from}
use Rattle.std.proofs.lemmas.Bool.{eqb-true, eqb-false}
use Rattle.std.proofs.lemmas.List.{at_drop_all, get_or-take, get_or_default, length_push}
use Rattle.aliasing.specs.Table.{odd, block_bits}
use Rattle.aliasing.proofs.Evens.{word_below}
use Rattle.aliasing.proofs.Parity.{block_next, block_number_bits}
use Rattle.aliasing.proofs.runs.block_number.Goals as goal

-- an item of the first 16 has its place, and is the word there
placed : (ws : List ℕ) (i k w : ℕ) → (k < length (enumerate_from 0 (take 16 ws))) × ((i, w) ≡ get_or (enumerate_from 0 (take 16 ws)) k (i, w)) →
    (k < 16) × (k < length ws) × (i ≡ k) × (w ≡ get_or ws k 0)
placed ws i k w h =
    let front = take 16 ws in
    let within : k < length front = omega (arith, h.0, length-enumerate_from 0 front) in
    let size = length-take 16 ws in
    let low : k < 16 = omega arith in
    let few : k < length ws = omega arith in
    let at = h.1 ∙ get_or-enumerate_from 0 front k (i, w) within in
    (low, few, ap (λ p. p.0) at ∙ zero-add k, ap (λ p. p.1) at ∙ get_or-take 16 ws k w low ∙ get_or_default ws k w 0 few)

-- the digit is not cut off
fits : (number k : ℕ) → number < 2 ^ k → number + 2 ^ k < 2 ^ (k + 1)
fits number k h = omega (arith, pow-suc 2 k, ap (λ i. 2 ^ i) (add-one k))

-- one digit more
pub loop-i-preserved-then-parity : goal.loop-i-preserved-then-parity
loop-i-preserved-then-parity c =
    let x = c.args.run in
    let ws = c.args.words.now in
    let k = length c.loop-i.yielded in
    let number = c.loop-i.number in
    let t = YieldsList-turn (YieldsList-from_enumerate (YieldsList-from_take 16 (YieldsList-from_slice ws cc) cc) cc) c.loop-i.yielded _ c.loop-i.yielded_by _ _ (c.in-Some.i, c.in-Some.word) c.in-Some.is c.next.ensures.steps in
    let at = placed ws c.in-Some.i k c.in-Some.word.now t in
    let size : length (c.loop-i.yielded ++ (c.in-Some.i, c.in-Some.word) ∷ []) ≡ k + 1 = length_push c.loop-i.yielded (c.in-Some.i, c.in-Some.word) in
    let one : odd x (get_or ws k 0) ≡ 1 = eqb-true (odd x (get_or ws k 0)) 1 (ap (λ w. eqb (odd x w) 1) (sym at.3) ∙ sym c.parity.ensures.bits ∙ c.if-parity.true) in
    let digit : 1 * 2 ^ c.in-Some.i % 2 ^ 32 ≡ 2 ^ k = ap (λ i. 1 * 2 ^ i % 2 ^ 32) at.2 ∙ one_shl k 32 (omega (arith, at.0)) in
    let now = ap (λ d. number + d) digit in
    rw size (
      subst (λ y. y < 2 ^ (k + 1)) (sym now) (fits number k c.loop-i.invariant.0),
      block_next x ws k number (number + 1 * 2 ^ c.in-Some.i % 2 ^ 32) (block_bits x ws) at.1 (now ∙ ap (λ d. number + d) (sym (ap (λ d. d * 2 ^ k) one ∙ one-mul (2 ^ k)))) c.loop-i.invariant.1,
    )

-- no digit more
pub loop-i-preserved : goal.loop-i-preserved
loop-i-preserved c =
    let x = c.args.run in
    let ws = c.args.words.now in
    let k = length c.loop-i.yielded in
    let number = c.loop-i.number in
    let t = YieldsList-turn (YieldsList-from_enumerate (YieldsList-from_take 16 (YieldsList-from_slice ws cc) cc) cc) c.loop-i.yielded _ c.loop-i.yielded_by _ _ (c.in-Some.i, c.in-Some.word) c.in-Some.is c.next.ensures.steps in
    let at = placed ws c.in-Some.i k c.in-Some.word.now t in
    let size : length (c.loop-i.yielded ++ (c.in-Some.i, c.in-Some.word) ∷ []) ≡ k + 1 = length_push c.loop-i.yielded (c.in-Some.i, c.in-Some.word) in
    let none : odd x (get_or ws k 0) ≡ 0 = omega (arith, eqb-false (odd x (get_or ws k 0)) 1 (ap (λ w. eqb (odd x w) 1) (sym at.3) ∙ sym c.parity.ensures.bits ∙ c.if-parity.false)) in
    rw size (
      omega (arith, c.loop-i.invariant.0, fits number k c.loop-i.invariant.0),
      block_next x ws k number number (block_bits x ws) at.1 (sym (ap (λ d. number + d * 2 ^ k) none ∙ ap (λ d. number + d) (zero-mul (2 ^ k)) ∙ add-zero number)) c.loop-i.invariant.1,
    )

-- no word is left
pub returns : goal.returns
returns c n hr all few =
    let x = c.args.run in
    let ws = c.args.words.now in
    let k = length c.loop-i.yielded in
    let t = YieldsList-end (YieldsList-from_enumerate (YieldsList-from_take 16 (YieldsList-from_slice ws cc) cc) cc) c.loop-i.yielded _ c.loop-i.yielded_by _ _ c.in-None.is c.next.ensures.steps in
    let past : length ws ≤ k = omega (arith, t.1, length-enumerate_from 0 (take 16 ws), length-take 16 ws, few) in
    let none : block_bits x (drop k ws) ≡ 0 = at_drop_all (block_bits x) ws k past in
    let rest : block_bits x (drop k ws) * 2 ^ k ≡ 0 = ap (λ d. d * 2 ^ k) none ∙ zero-mul (2 ^ k) in
    omega (arith, c.loop-i.invariant.1, rest, block_number_bits n x ws (word_below n x hr))
