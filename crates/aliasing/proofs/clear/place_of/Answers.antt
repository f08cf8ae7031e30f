use Rattle.std.proofs.Common.{◌≡◌, ℕ, ◌≤◌, ◌⊎◌, inl, inr, arith}
use Rattle.std.proofs.lemmas.Bool.{cases_eq}
use Rattle.levels.specs.Arithmetic.{two}
use Rattle.levels.specs.Words.{word_length}
use Rattle.aliasing.proofs.Factors.{tops_place}
use Rattle.aliasing.proofs.Sums.{length_short, short_length}
use Rattle.aliasing.proofs.clear.place_of.Goals as goal

-- a word of another length is no such word
pub returns-then-letters-eq0 : goal.returns-then-letters-eq0
returns-then-letters-eq0 c s =
    let e = c.length-letters.ensures in
    elim (short_length c.args.word c.ranges.word.fits s) [
      | inl one ↦ elim c.then-letters-eq0.either [ inl z ↦ absurd (omega arith) | inr more ↦ absurd (let m = more.1 in omega arith) ]
      | inr pair ↦ elim c.then-letters-eq0.either [ inl z ↦ absurd (omega arith) | inr more ↦ absurd (let m = more.1 in omega arith) ]
    ]

-- a length that is not 0 and at most 2
length_is : (k l : ℕ) → k ≡ l → (k ≡ 0 → ⊥) → k ≤ 2 → (l ≡ 1) ⊎ (l ≡ 2)
length_is k l e some few = elim (cases_eq l 1) [ inl one ↦ inl one | inr d ↦ inr (omega (arith, e, some, few, d)) ]

-- it has a last factor
pub overflow_sub-result : goal.overflow_sub-result
overflow_sub-result c =
    let s = length_short c.args.word c.ranges.word.fits (length_is c.length-letters.result (word_length two c.args.word) c.length-letters.ensures c.if-letters-eq0.false c.if-letters-gt2.false) in
    let p = tops_place c.args.word c.top-j.result c.top-i.result c.top-j.ensures.low c.top-j.ensures.high (rw c.letter.ensures at c.top-i.ensures.low) (rw c.letter.ensures at c.top-i.ensures.high) s in
    omega (arith, p.0)

-- and one before it, or none
pub returns : goal.returns
returns c =
    let s = length_short c.args.word c.ranges.word.fits (length_is c.length-letters.result (word_length two c.args.word) c.length-letters.ensures c.if-letters-eq0.false c.if-letters-gt2.false) in
    (tops_place c.args.word c.top-j.result c.top-i.result c.top-j.ensures.low c.top-j.ensures.high (rw c.letter.ensures at c.top-i.ensures.low) (rw c.letter.ensures at c.top-i.ensures.high) s).1
