-- Words: codes and their digits, legal codes, sums, products and lengths, for any arithmetic of levels.
use Rattle.std.specs.Prelude.{ℕ, zero, suc, ◌+◌, ◌*◌, ◌/◌, ◌%◌, ◌^◌, Bool, true, cond, ◌&&◌, List, [], ◌∷◌, map, ◌==◌, nat_le, nat_lt}
use Rattle.levels.specs.Arithmetic.{Arithmetic}

-- the lowest n digits of a code, factor 1 first
abbrev pub digits : Arithmetic → ℕ → ℕ → List ℕ
digits A zero w = []
digits A (suc n) w = w % 2 ^ A.bits ∷ digits A n (w / 2 ^ A.bits)

-- the code of a list of digits
abbrev pub code : Arithmetic → List ℕ → ℕ
code A [] = 0
code A (d ∷ ds) = d + code A ds * 2 ^ A.bits

-- every digit is a level
abbrev pub all_levels : Arithmetic → List ℕ → Bool
all_levels A [] = true
all_levels A (d ∷ ds) = nat_lt d A.s && all_levels A ds

-- a code is legal for n factors: n is from 1 to 32, no bit beyond factor n is set, every digit is below s
abbrev pub legal : Arithmetic → ℕ → ℕ → Bool
legal A n w = (nat_le 1 n && nat_le n 32) && (nat_lt w (2 ^ (A.bits * n)) && all_levels A (digits A n w))

-- two lists of digits, digit by digit
abbrev pub zip_with : (ℕ → ℕ → ℕ) → List ℕ → List ℕ → List ℕ
zip_with f [] ys = []
zip_with f (a ∷ xs) [] = []
zip_with f (a ∷ xs) (b ∷ ys) = f a b ∷ zip_with f xs ys

-- the sum of two words of n factors, digit by digit; code 0 where a word is illegal
abbrev pub word_sum : Arithmetic → ℕ → ℕ → ℕ → ℕ
word_sum A n a b = cond (legal A n a && legal A n b) (code A (zip_with A.plus (digits A n a) (digits A n b))) 0

-- a word of n factors times a level, digit by digit; code 0 where the word is illegal or the level is not below s
abbrev pub word_multiple : Arithmetic → ℕ → ℕ → ℕ → ℕ
word_multiple A n c w = cond (nat_lt c A.s && legal A n w) (code A (map (A.times c) (digits A n w))) 0

-- how many digits are not 0
abbrev pub nonzero : List ℕ → ℕ
nonzero [] = 0
nonzero (d ∷ ds) = cond (d == 0) 0 1 + nonzero ds

-- the length of a code: how many of its digits are not 0. A code of 64 bits has at most 64 digits.
unfoldable pub word_length : Arithmetic → ℕ → ℕ
word_length A w = nonzero (digits A 64 w)

-- the sum of two codes of 64 bits, digit by digit, whatever their digits
unfoldable pub code_sum : Arithmetic → ℕ → ℕ → ℕ
code_sum A a b = code A (zip_with A.plus (digits A 64 a) (digits A 64 b))
