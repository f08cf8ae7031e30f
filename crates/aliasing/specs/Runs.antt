-- Runs of a two-level trial, and the blocks that they fall into.
use Rattle.std.specs.Prelude.{◌≡◌, ℕ, zero, suc, ◌+◌, ◌*◌, ◌%◌, Bool, true, cond, not, ◌&&◌, List, [], ◌∷◌, ◌++◌, ◌==◌}
use Rattle.levels.specs.Arithmetic.{two}
use Rattle.levels.specs.Words.{digits, legal}

-- how many letters of a word are at level 1 in a run, from the digits of both
abbrev pub hits : List ℕ → List ℕ → ℕ
hits [] ds = 0
hits (r ∷ rs) [] = 0
hits (r ∷ rs) (d ∷ ds) = cond (r == 1 && not (d == 0)) 1 0 + hits rs ds

abbrev pub letters_at_one : ℕ → ℕ → ℕ → ℕ
letters_at_one n run w = hits (digits two n run) (digits two n w)

-- in a run, the letters at level 1 are even in number in each word of a list
abbrev pub all_even : ℕ → List ℕ → ℕ → Bool
all_even n [] run = true
all_even n (w ∷ ws) run = letters_at_one n run w % 2 == 0 && all_even n ws run

-- a run under a list of words: a legal code in which the letters at level 1 of each word are even in number
abbrev pub is_run : ℕ → List ℕ → ℕ → Bool
is_run n ws run = legal two n run && all_even n ws run

-- how many runs are smaller than a code
abbrev pub runs_below : ℕ → List ℕ → ℕ → ℕ
runs_below n ws zero = 0
runs_below n ws (suc x) = cond (is_run n ws x) 1 0 + runs_below n ws x

-- run m, from 0: a run, and m runs are smaller
pub record Run (n : ℕ) (ws : List ℕ) (m run : ℕ) : Type 0 where
  pub runs : is_run n ws run ≡ true
  pub smaller : runs_below n ws run ≡ m

-- the block number of a run: one binary digit for each word, the lowest first, 1 if an odd number of its letters are at level 1
abbrev pub block_number : ℕ → ℕ → List ℕ → ℕ
block_number n run [] = 0
block_number n run (w ∷ ws) = letters_at_one n run w % 2 + 2 * block_number n run ws

-- the runs below a code, in ascending order
abbrev pub runs_upto : ℕ → List ℕ → ℕ → List ℕ
runs_upto n ws zero = []
runs_upto n ws (suc x) = runs_upto n ws x ++ cond (is_run n ws x) (x ∷ []) []
