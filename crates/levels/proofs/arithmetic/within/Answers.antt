use Rattle.std.proofs.Common.{◌≡◌, ℕ, ◌*◌, ◌/◌, ◌^◌, ◌<◌, ◌≤◌, true, ◌&&◌, Option, Some, None, unwrap_or, eqb, ltb, leb, sym, ap, ◌∙◌, inl, inr, one-mul, le-div_iff_mul-le, arith, rules}
use native.Mathlib.Nat.{div-eq_of_lt}
use Rattle.std.specs.Option.{SomeIff}
use Rattle.std.proofs.Math.Pow.{pow_mono}
use Rattle.std.proofs.lemmas.Nat.{pow_pos}
use Rattle.std.proofs.lemmas.Bool.{cases_lt, eq-eqb, le-ltb, lt-ltb, ne_eqb}
use Rattle.levels.proofs.arithmetic.within.Goals as goal

-- nothing is left beyond k bits exactly of the codes below 2 to the power of k
none_beyond : (code k : ℕ) → eqb (code / 2 ^ k) 0 ≡ ltb code (2 ^ k)
none_beyond code k = elim (cases_lt code (2 ^ k)) [
  | inl l ↦ eq-eqb (code / 2 ^ k) 0 (div-eq_of_lt l) ∙ sym (lt-ltb code (2 ^ k) l)
  | inr g ↦
      let some : 1 ≤ code / 2 ^ k = (le-div_iff_mul-le (pow_pos k)).1 (rw one-mul g) in
      ne_eqb (code / 2 ^ k) 0 (λ e. omega arith) ∙ sym (le-ltb code (2 ^ k) g)
]

-- where there is nothing to be left, every code is below
shifted : (o : Option ℕ) (code k : ℕ) → code < 2 ^ 64 → SomeIff o (k < 64) (code / 2 ^ k) → eqb (unwrap_or o 0) 0 ≡ ltb code (2 ^ k)
shifted None code k fits wide =
    let long : 64 ≤ k = omega (arith, wide) in
    let more : 2 ^ 64 ≤ 2 ^ k = pow_mono long in
    sym (lt-ltb code (2 ^ k) (omega arith))
shifted (Some x) code k fits h = ap (λ y. eqb y 0) h.1 ∙ none_beyond code k

-- all bits of each factor
pub returns-then-contains : goal.returns-then-contains
returns-then-contains c =
    let n = c.args.n in
    let code = c.args.code in
    let bits = c.args.width * n in
    let shr : SomeIff c.checked_shr.result (bits < 64) (code / 2 ^ bits) = rw (c.from.ensures, c.from-2.ensures) at c.checked_shr.ensures in
    let range : (leb 1 n && leb n 32) ≡ true = search rules in
    ap (λ x. eqb x 0) c.unwrap_or.ensures
    ∙ shifted c.checked_shr.result code bits c.ranges.code.fits shr
    ∙ sym (ap (λ t. t && ltb code (2 ^ bits)) range)
