-- The plan file.
use Rattle.std.specs.Prelude.{◌≡◌, ℕ, zero, suc, ◌+◌, ◌*◌, ◌/◌, ◌%◌, cond, ◌&&◌, List, [], ◌∷◌, ◌++◌, length, take, drop, Ok, Err, Result, ◌==◌, nat_le, nat_lt, slice_index, slice_index_or}
use Rattle.levels.specs.Arithmetic.{Arithmetic, Lawful}
use Rattle.contents.specs.declared.refusal.Refusal.{Refusal}
use Rattle.contents.specs.declared.refusal.Refusal.TheVariants.{Factors, Limit, Cut, Mark, Version, Levels, Surplus}
use Rattle.contents.specs.declared.side.Side.TheVariants.{Defining, Block}
use Rattle.contents.specs.Content.{Content, blank, admitted_all}

-- the number that bytes spell, the lowest first
abbrev pub number : List ℕ → ℕ
number [] = 0
number (b ∷ bs) = b + 256 * number bs

-- a number in k bytes, the lowest first
abbrev pub bytes : ℕ → ℕ → List ℕ
bytes zero x = []
bytes (suc k) x = x % 256 ∷ bytes k (x / 256)

-- the mark DWF
abbrev pub mark : List ℕ
mark = 68 ∷ 87 ∷ 70 ∷ []

-- the words that stand in a row of 8 bytes each
abbrev pub words_in : ℕ → List ℕ → List ℕ
words_in zero bs = []
words_in (suc k) bs = number (take 8 bs) ∷ words_in k (drop 8 bs)

-- the bytes of words, 8 for each
abbrev pub word_bytes : List ℕ → List ℕ
word_bytes [] = []
word_bytes (w ∷ ws) = bytes 8 w ++ word_bytes ws

-- the file of a plan: the mark, version 1 in 16 bits, levels, factors, the two counts, the defining words, the block words
abbrev pub file_of : Arithmetic → Content → List ℕ
file_of A p =
    mark ++ bytes 2 1 ++ (A.s ∷ p.factors ∷ length p.defining ∷ length p.block ∷ [])
    ++ word_bytes p.defining ++ word_bytes p.block

-- the words of a file whose head has passed: first the defining words are admitted, then the block words
abbrev pub read_words : Arithmetic → ℕ → ℕ → ℕ → List ℕ → Result Content Refusal
read_words A n d b bs =
    elim (admitted_all A Defining (words_in d bs) (blank n)) [ Ok p ↦ admitted_all A Block (words_in b (drop (8 * d) bs)) p | Err e ↦ Err e ]

-- the checks of the head of a file, and what follows them: it is there, with the mark, version 1 and the levels
abbrev pub past_head : {X : Type 0} → Arithmetic → List ℕ → Result X Refusal → Result X Refusal
past_head A f next =
    cond (nat_lt (length f) 9) (Err Cut)
    (cond (slice_index f 0 == 68 && (slice_index f 1 == 87 && slice_index f 2 == 70))
    (cond (number (take 2 (drop 3 f)) == 1) (cond (slice_index f 5 == A.s) next (Err Levels)) (Err Version))
    (Err Mark))

-- the checks of a number of words, and what follows them: the limit, and the length of the file that follows from it
abbrev pub past_size : {X : Type 0} → Arithmetic → ℕ → ℕ → Result X Refusal → Result X Refusal
past_size A words len next =
    let end = 9 + 8 * words in
    cond (nat_le words A.limit) (cond (nat_lt len end) (Err Cut) (cond (nat_lt end len) (Err Surplus) next)) (Err Limit)

-- the plan that a file holds, or the first check that fails
abbrev pub read_file : Arithmetic → List ℕ → Result Content Refusal
read_file A f =
    let n = slice_index_or f 6 0 in
    let d = slice_index_or f 7 0 in
    let b = slice_index_or f 8 0 in
    past_head A f
    (cond (nat_le 1 n && nat_le n 32) (past_size A (d + b) (length f) (read_words A n d b (drop 9 f))) (Err Factors))

-- two files hold the same plan, or are refused alike, whatever the levels
abbrev pub ReadsAlike : List ℕ → List ℕ → Type 0
ReadsAlike f g = (A : Arithmetic) → Lawful A → read_file A f ≡ read_file A g
