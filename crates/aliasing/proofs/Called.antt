-- An array that is made by calls of a closure, one for each place.
use Rattle.std.proofs.Common.{◌≡◌, ℕ, zero, suc, ◌+◌, ◌<◌, ◌≤◌, List, get_or, subst, inl, inr, sym, arith}
use denote.Param.Members.{Mut, Called}
use Rattle.std.specs.Array.{IsFromFnResultFrom}
use Rattle.std.proofs.lemmas.Bool.{cases_eq}

-- what each call gives stands at its place
pub each_called : {F : Type 0} (g : Mut F (ℕ × Unit {0}) ℕ) (P : ℕ → ℕ → Type 0) (f : F) (ys : List ℕ) (n i : ℕ) → IsFromFnResultFrom g f ys i n →
    ((x y : ℕ) (q : F) → Called g f (x, tt) y q → (q ≡ f) × P x y) → (j : ℕ) → i ≤ j → j < i + n → P j (get_or ys j 0)
each_called g P f ys zero i calls k j low high = absurd (omega arith)
each_called g P f ys (suc n) i calls k j low high =
    let here = k i calls.1 calls.0 calls.3 in
    elim (cases_eq j i) [
      | inl e ↦ subst (λ m. P m (get_or ys m 0)) (sym e) (subst (P i) (sym (calls.2.1 0)) here.1)
      | inr d ↦ each_called g P f ys n (i + 1) (subst (λ q. IsFromFnResultFrom g q ys (i + 1) n) here.0 calls.4) k j (omega (arith, d)) (omega arith)
    ]
