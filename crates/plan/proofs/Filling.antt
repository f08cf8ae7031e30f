-- Alias sets and runs that are written whole, or refused where memory is shorter.
use Rattle.std.proofs.Common.{◌≡◌, ℕ, ◌*◌, ◌^◌, ◌<◌, ◌≤◌, true, ltb, List, [], ◌∷◌, ◌++◌, length, take, drop, Ok, Err, sym, refl, ap, ◌∙◌, subst, arith}
use Rattle.std.proofs.lemmas.Bool.{cond-true, cond-false, lt-ltb, le-ltb}
use Rattle.std.proofs.lemmas.List.{length-map, take_all}
use Rattle.levels.specs.Arithmetic.{Arithmetic, Lawful}
use Rattle.levels.specs.Words.{legal, word_sum}
use Rattle.levels.specs.Space.{Word, AllWords}
use Rattle.levels.specs.Generated.{Independent, combinations}
use Rattle.levels.specs.Alias.{alias_set, aliases, how_many, repeats}
use Rattle.levels.proofs.Any.{any_combination, any_zero}
use Rattle.levels.proofs.Ascending.{distinct_once}
use Rattle.levels.proofs.Multiplicity.{aliases_times}
use Rattle.levels.proofs.Space.{vector_space}
use Rattle.levels.proofs.Theory.{generation}
use Rattle.aliasing.specs.Filled.{filled}
use Rattle.aliasing.proofs.Filled.{filled_front, filled_length}
use Rattle.contents.specs.declared.refusal.Refusal.TheVariants.{Illegal, Memory}
use Rattle.contents.specs.Content.{Content}
use Rattle.contents.specs.Memory.{holding, wrote}
use Rattle.plan.specs.Answers.{alias_set_of}

-- every number of a list passes a test that all pass
all_pass : (xs : List ℕ) → how_many (λ _. true) xs ≡ length xs
all_pass [] = refl
all_pass (x ∷ xs) = let rest = all_pass xs in omega arith

-- the alias set of a word over d independent words has as many words as there are choices of d levels
pub alias_set_length : (A : Arithmetic) → Lawful A → (n : ℕ) (ws : List ℕ) (w : ℕ) → AllWords A n ws → Independent A n ws → Word A n w → length (alias_set A n ws w) ≡ A.s ^ length ws
alias_set_length A L n ws w words independent word =
    let V = vector_space A L n in
    let G = generation A L n in
    let many = G.as_many ws in
    let once : repeats A n ws ≡ 1 =
    distinct_once (combinations A n ws) 0
    (λ i j li lj e. G.distinct ws words independent i j (subst (λ k. i < k) many li) (subst (λ k. j < k) many lj) e)
    (any_combination A L n V ws 0 (any_zero A L n V ws)) in
    let all : how_many (λ _. true) (aliases A n ws w) ≡ A.s ^ length ws =
    all_pass (aliases A n ws w) ∙ length-map (combinations A n ws) (word_sum A n w) ∙ many in
    let times : how_many (λ _. true) (aliases A n ws w) ≡ 1 * how_many (λ _. true) (alias_set A n ws w) =
    aliases_times A L n ws w (λ _. true) word ∙ ap (λ k. k * how_many (λ _. true) (alias_set A n ws w)) once in
    omega (arith, times, all, all_pass (alias_set A n ws w))

-- a list that fits is written whole
pub filled_fits : (xs memory : List ℕ) → length xs ≤ length memory → filled xs memory ≡ xs ++ drop (length xs) memory
filled_fits [] memory h = refl
filled_fits (x ∷ xs) [] h = absurd (omega arith)
filled_fits (x ∷ xs) (y ∷ memory) h = ap (λ zs. x ∷ zs) (filled_fits xs memory (omega arith))

-- as much of a list as memory has places
pub filled_whole : (xs memory : List ℕ) (k : ℕ) → length memory ≡ k → k ≤ length xs → filled xs memory ≡ take k xs
filled_whole xs memory k e h =
    sym (take_all k (filled xs memory) (omega (arith, filled_length xs memory)))
    ∙ filled_front xs memory k h (omega arith)

-- an answer that fits
pub holding_fits : (xs memory : List ℕ) → length xs ≤ length memory → holding xs memory ≡ xs ++ drop (length xs) memory
holding_fits xs memory h = cond-false (ltb (length memory) (length xs)) memory (xs ++ drop (length xs) memory) (le-ltb (length memory) (length xs) h)

pub wrote_fits : (xs memory : List ℕ) → length xs ≤ length memory → wrote xs memory ≡ Ok (length xs)
wrote_fits xs memory h = cond-false (ltb (length memory) (length xs)) (Err Memory) (Ok (length xs)) (le-ltb (length memory) (length xs) h)

-- an answer that memory is too short for
pub holding_short : (xs memory : List ℕ) → length memory < length xs → holding xs memory ≡ memory
holding_short xs memory h = cond-true (ltb (length memory) (length xs)) memory (xs ++ drop (length xs) memory) (lt-ltb (length memory) (length xs) h)

pub wrote_short : (xs memory : List ℕ) → length memory < length xs → wrote xs memory ≡ Err Memory
wrote_short xs memory h = cond-true (ltb (length memory) (length xs)) (Err Memory) (Ok (length xs)) (lt-ltb (length memory) (length xs) h)

-- the alias set of a legal word
pub alias_set_legal : (A : Arithmetic) (w : ℕ) (p : Content) → Word A p.factors w → alias_set_of A w p ≡ Ok (alias_set A p.factors p.defining w)
alias_set_legal A w p word = cond-true (legal A p.factors w) (Ok (alias_set A p.factors p.defining w)) (Err Illegal) word
