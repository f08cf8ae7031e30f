-- Masks of factors, and sums of costs for each value of six bits of a mask.
use Rattle.std.specs.Prelude.{◌≡◌, ℕ, ◌+◌, ◌*◌, ◌<◌, cond, List, [], ◌∷◌, ◌==◌, map, take, drop, slice_index}
use Rattle.levels.specs.Arithmetic.{Arithmetic, two}
use Rattle.levels.specs.Words.{digits}
use Rattle.preferences.specs.Built.{cost}

-- an element of one list and an element of another by turns
abbrev pub by_turns : List ℕ → List ℕ → List ℕ
by_turns [] ys = []
by_turns (x ∷ xs) [] = []
by_turns (x ∷ xs) (y ∷ ys) = x ∷ y ∷ by_turns xs ys

-- the order of factors in a mask: 1, 2, 3, .. where a digit takes one bit, 1, 17, 2, 18, .. where it takes two
abbrev pub mask_order : ℕ → List ℕ → List ℕ
mask_order bits xs = cond (bits == 1) xs (by_turns (take 16 xs) (drop 16 xs))

-- 1 for each of 32 factors whose digit in a word is not 0, and 0 for the others
unfoldable pub used : Arithmetic → ℕ → List ℕ
used A w = map (λ d. cond (d == 0) 0 1) (digits A 32 w)

-- the bits of a mask, the lowest first
unfoldable pub mask_bits : ℕ → List ℕ
mask_bits m = digits two 32 m

-- at place 64 k + y stands what part k of a mask, its bits 6 k to 6 k + 5, costs where its value is y
abbrev pub AreSums : List ℕ → List ℕ → Type 0
AreSums costs sums =
    (k y : ℕ) → k < 6 → y < 64 →
    slice_index sums (64 * k + y) ≡ cost (drop (6 * k) costs) (digits two 6 y)
