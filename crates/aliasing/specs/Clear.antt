-- Clear pairs of factors of a two-level trial.
use Rattle.std.specs.Prelude.{ℕ, zero, suc, ◌+◌, ◌^◌, Bool, false, cond, not, ◌&&◌, ◌||◌, List, [], ◌∷◌, ◌++◌, map, sum, ◌==◌}
use Rattle.levels.specs.Arithmetic.{two}
use Rattle.levels.specs.Words.{word_length}
use Rattle.levels.specs.Alias.{alias_set}

-- the word of one letter, of factor i from 0, and that of two
abbrev pub letter : ℕ → ℕ
letter i = 2 ^ i

abbrev pub pair : ℕ → ℕ → ℕ
pair i j = letter i + letter j

-- the pairs of factor i, from 0, with k factors from j on
abbrev pub pairs_with : ℕ → ℕ → ℕ → List ℕ
pairs_with i j zero = []
pairs_with i j (suc k) = pair i j ∷ pairs_with i (suc j) k

-- the pairs of k factors from i on: (i, i + 1), (i, i + 2), .. each factor with every later one
abbrev pub pairs_from : ℕ → ℕ → List ℕ
pairs_from i zero = []
pairs_from i (suc k) = pairs_with i (suc i) k ++ pairs_from (suc i) k

-- all pairs of n factors: those of factor 1 with each later one, then those of factor 2, and so on
abbrev pub pairs : ℕ → List ℕ
pairs n = pairs_from 0 n

-- a set holds a word of one letter, or a word of two letters other than p
abbrev pub crowded : ℕ → List ℕ → Bool
crowded p [] = false
crowded p (x ∷ xs) = (word_length two x == 1 || (word_length two x == 2 && not (x == p))) || crowded p xs

-- 1 if a pair is clear: its alias set over a list of words holds no word of one letter and no other of two; else 0
abbrev pub clear_byte : ℕ → List ℕ → ℕ → ℕ
clear_byte n ws p = cond (crowded p (alias_set two n ws p)) 0 1

-- one byte for each pair
abbrev pub clear_bytes : ℕ → List ℕ → List ℕ
clear_bytes n ws = map (clear_byte n ws) (pairs n)

-- the sum of bytes: how many ones there are
abbrev pub ones_in : List ℕ → ℕ
ones_in bytes = sum bytes
