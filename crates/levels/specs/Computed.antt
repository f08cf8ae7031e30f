-- A law of all digits below a number, shown by one test that is computed.
use Rattle.std.specs.Prelude.{◌≡◌, ℕ, zero, suc, ◌<◌, Bool, true, ◌&&◌, nat_eq, nat_lt, refl}
use Rattle.std.proofs.lemmas.Bool.{eqb-true, ltb-true}
use Rattle.std.proofs.lemmas.Bool.Decides.{Decides-below_and}

-- the test passes at every number below n
abbrev pub below : (ℕ → Bool) → ℕ → Bool
below p zero = true
below p (suc n) = p n && below p n

pub below_at : (p : ℕ → Bool) (n : ℕ) → below p n ≡ true → (k : ℕ) → k < n → p k ≡ true
below_at p n = (Decides-below_and p (λ k. p k ≡ true) (below p) (λ k. ((λ e. e), (λ e. e))) refl (λ _. refl) n).0

-- two functions of one, two or three digits agree below s
abbrev pub same₁ : ℕ → (ℕ → ℕ) → (ℕ → ℕ) → Bool
same₁ s f g = below (λ a. nat_eq (f a) (g a)) s

abbrev pub same₂ : ℕ → (ℕ → ℕ → ℕ) → (ℕ → ℕ → ℕ) → Bool
same₂ s f g = below (λ a. same₁ s (f a) (g a)) s

abbrev pub same₃ : ℕ → (ℕ → ℕ → ℕ → ℕ) → (ℕ → ℕ → ℕ → ℕ) → Bool
same₃ s f g = below (λ a. same₂ s (f a) (g a)) s

pub all₁ : (s : ℕ) (f g : ℕ → ℕ) → same₁ s f g ≡ true → (a : ℕ) → a < s → f a ≡ g a
all₁ s f g t a la = eqb-true (f a) (g a) (below_at (λ x. nat_eq (f x) (g x)) s t a la)

pub all₂ : (s : ℕ) (f g : ℕ → ℕ → ℕ) → same₂ s f g ≡ true → (a b : ℕ) → a < s → b < s → f a b ≡ g a b
all₂ s f g t a b la lb = all₁ s (f a) (g a) (below_at (λ x. same₁ s (f x) (g x)) s t a la) b lb

pub all₃ : (s : ℕ) (f g : ℕ → ℕ → ℕ → ℕ) → same₃ s f g ≡ true → (a b c : ℕ) → a < s → b < s → c < s → f a b c ≡ g a b c
all₃ s f g t a b c la lb lc = all₂ s (f a) (g a) (below_at (λ x. same₂ s (f x) (g x)) s t a la) b c lb lc

-- a function of two digits stays below m
pub within : (s m : ℕ) (f : ℕ → ℕ → ℕ) → below (λ a. below (λ b. nat_lt (f a b) m) s) s ≡ true → (a b : ℕ) → a < s → b < s → f a b < m
within s m f t a b la lb =
    ltb-true (f a b) m (below_at (λ y. nat_lt (f a y) m) s (below_at (λ x. below (λ y. nat_lt (f x y) m) s) s t a la) b lb)
