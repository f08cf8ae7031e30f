-- The arithmetic of levels: s levels of a factor, packed into so many bits, that form a field.
use Rattle.std.specs.Prelude.{◌≡◌, ℕ, ◌+◌, ◌-◌, ◌*◌, ◌%◌, ◌^◌, ◌<◌, ◌≤◌, cond, ◌==◌, nat_lt}

-- An arithmetic: s levels, the bits of a digit, the limit of words, and the sum and the product of two digits.
pub record Arithmetic : Type 0 where
  pub s : ℕ
  pub bits : ℕ
  pub limit : ℕ
  pub plus : ℕ → ℕ → ℕ
  pub times : ℕ → ℕ → ℕ

-- The levels 0 to s − 1 are a field: 0 is neutral in sums, 1 in products.
pub record Field (s : ℕ) (plus times : ℕ → ℕ → ℕ) : Type 0 where
  pub two_levels : 2 ≤ s
  pub plus_level : (a b : ℕ) → a < s → b < s → plus a b < s
  pub plus_comm : (a b : ℕ) → a < s → b < s → plus a b ≡ plus b a
  pub plus_assoc : (a b c : ℕ) → a < s → b < s → c < s → plus (plus a b) c ≡ plus a (plus b c)
  pub plus_zero : (a : ℕ) → a < s → plus 0 a ≡ a
  pub opposite : (a : ℕ) → a < s → (b : ℕ) × (b < s) × (plus a b ≡ 0)
  pub times_level : (a b : ℕ) → a < s → b < s → times a b < s
  pub times_comm : (a b : ℕ) → a < s → b < s → times a b ≡ times b a
  pub times_assoc : (a b c : ℕ) → a < s → b < s → c < s → times (times a b) c ≡ times a (times b c)
  pub times_one : (a : ℕ) → a < s → times 1 a ≡ a
  pub inverse : (a : ℕ) → a < s → 0 < a → (b : ℕ) × (b < s) × (times a b ≡ 1)
  pub distribute : (a b c : ℕ) → a < s → b < s → c < s → times a (plus b c) ≡ plus (times a b) (times a c)

-- The laws of an arithmetic: its digits form a field; a digit takes 1 bit with two levels, else 2;
-- words within the limit generate 65,536 words at most. Bits that are no level have a sum too, within as many bits.
pub record Lawful (A : Arithmetic) : Type 0 where
  pub field : Field A.s A.plus A.times
  pub width : A.bits ≡ cond (A.s == 2) 1 2
  pub fits : A.s ≤ 2 ^ A.bits
  pub few : A.s ^ A.limit ≤ 65536
  pub plus_fits : (a b : ℕ) → a < 2 ^ A.bits → b < 2 ^ A.bits → A.plus a b < 2 ^ A.bits

-- the sum of two digits modulo s: less s where it reaches s
abbrev pub plus_modulo : ℕ → ℕ → ℕ → ℕ
plus_modulo s a b = cond (nat_lt (a + b) s) (a + b) (a + b - s)

-- the product of two digits modulo s
abbrev pub times_modulo : ℕ → ℕ → ℕ → ℕ
times_modulo s a b = a * b % s

-- Two levels: 1 bit a factor, at most 16 words.
abbrev pub two : Arithmetic
two = record { s = 2; bits = 1; limit = 16; plus = plus_modulo 2; times = times_modulo 2 }

-- Three levels: 2 bits a factor, at most 10 words.
abbrev pub three : Arithmetic
three = record { s = 3; bits = 2; limit = 10; plus = plus_modulo 3; times = times_modulo 3 }
