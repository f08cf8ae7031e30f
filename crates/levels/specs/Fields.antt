-- Numbers modulo s are a field, by one test that is computed.
use Rattle.std.specs.Prelude.{◌≡◌, ℕ, ◌-◌, ◌<◌, Bool, true, cond, ◌&&◌, ltb, ◌==◌, nat_lt}
use Rattle.std.proofs.Common.{◌∙◌, arith}
use Rattle.std.proofs.lemmas.Bool.{and_parts, cond-false, ltb-true, ne_eqb}
use Rattle.levels.specs.Arithmetic.{Field, plus_modulo, times_modulo}
use Rattle.levels.specs.Computed.{below, below_at, same₁, same₂, same₃, all₁, all₂, all₃, within}

-- the digit that makes 0 with a
abbrev opposite_of : ℕ → ℕ → ℕ
opposite_of s a = cond (a == 0) 0 (s - a)

-- the laws of a field in which each digit but 0 is its own inverse, tested at all digits
abbrev is_field : ℕ → Bool
is_field s =
    nat_lt 1 s &&
    (same₂ s (plus_modulo s) (λ a b. plus_modulo s b a) &&
    (same₃ s (λ a b c. plus_modulo s (plus_modulo s a b) c) (λ a b c. plus_modulo s a (plus_modulo s b c)) &&
    (same₁ s (plus_modulo s 0) (λ a. a) &&
    (same₁ s (λ a. plus_modulo s a (opposite_of s a)) (λ _. 0) &&
    (same₂ s (times_modulo s) (λ a b. times_modulo s b a) &&
    (same₃ s (λ a b c. times_modulo s (times_modulo s a b) c) (λ a b c. times_modulo s a (times_modulo s b c)) &&
    (same₁ s (times_modulo s 1) (λ a. a) &&
    (same₁ s (λ a. times_modulo s a a) (λ a. cond (a == 0) 0 1) &&
    (same₃ s (λ a b c. times_modulo s a (plus_modulo s b c)) (λ a b c. plus_modulo s (times_modulo s a b) (times_modulo s a c)) &&
    (below (λ a. below (λ b. ltb (plus_modulo s a b) s) s) s &&
    (below (λ a. below (λ b. ltb (times_modulo s a b) s) s) s &&
    below (λ a. ltb (opposite_of s a) s) s)))))))))))

own_inverse : (a b : ℕ) → 0 < a → b ≡ cond (a == 0) 0 1 → b ≡ 1
own_inverse a b h e = e ∙ cond-false (a == 0) 0 1 (ne_eqb a 0 (λ z. omega (arith, z)))

pub modulo_field : (s : ℕ) → is_field s ≡ true → Field s (plus_modulo s) (times_modulo s)
modulo_field s t =
    let p0 = and_parts _ _ t in
    let p1 = and_parts _ _ p0.1 in
    let p2 = and_parts _ _ p1.1 in
    let p3 = and_parts _ _ p2.1 in
    let p4 = and_parts _ _ p3.1 in
    let p5 = and_parts _ _ p4.1 in
    let p6 = and_parts _ _ p5.1 in
    let p7 = and_parts _ _ p6.1 in
    let p8 = and_parts _ _ p7.1 in
    let p9 = and_parts _ _ p8.1 in
    let p10 = and_parts _ _ p9.1 in
    let p11 = and_parts _ _ p10.1 in
    record {
      two_levels = ltb-true 1 s p0.0;
      plus_level = within s s (plus_modulo s) p10.0;
      plus_comm = all₂ s (plus_modulo s) (λ a b. plus_modulo s b a) p1.0;
      plus_assoc = all₃ s (λ a b c. plus_modulo s (plus_modulo s a b) c) (λ a b c. plus_modulo s a (plus_modulo s b c)) p2.0;
      plus_zero = all₁ s (plus_modulo s 0) (λ a. a) p3.0;
      opposite = λ a la. (opposite_of s a, ltb-true (opposite_of s a) s (below_at (λ x. ltb (opposite_of s x) s) s p11.1 a la), all₁ s (λ x. plus_modulo s x (opposite_of s x)) (λ _. 0) p4.0 a la);
      times_level = within s s (times_modulo s) p11.0;
      times_comm = all₂ s (times_modulo s) (λ a b. times_modulo s b a) p5.0;
      times_assoc = all₃ s (λ a b c. times_modulo s (times_modulo s a b) c) (λ a b c. times_modulo s a (times_modulo s b c)) p6.0;
      times_one = all₁ s (times_modulo s 1) (λ a. a) p7.0;
      inverse = λ a la pa. (a, la, own_inverse a (times_modulo s a a) pa (all₁ s (λ x. times_modulo s x x) (λ x. cond (x == 0) 0 1) p8.0 a la));
      distribute = all₃ s (λ a b c. times_modulo s a (plus_modulo s b c)) (λ a b c. plus_modulo s (times_modulo s a b) (times_modulo s a c)) p9.0;
    }
