-- What a settled plan can be asked, and what it answers.
use Rattle.std.specs.Borrow.{Bor}
use Rattle.std.specs.Prelude.{ℕ, Bool, true, if◌then◌else◌, List, length, Ok, Err, Result, ◌==◌}
use Rattle.levels.specs.Arithmetic.{Arithmetic}
use Rattle.preferences.specs.Relation.{Relation}
use Rattle.aliasing.specs.Pattern.{pattern, resolution}
use Rattle.aliasing.specs.Clear.{clear_bytes}
use Rattle.contents.specs.declared.refusal.Refusal.{Refusal}
use Rattle.contents.specs.declared.refusal.Refusal.TheVariants.{Memory}
use Rattle.contents.specs.Content.{Content, side_of, word_at}
use Rattle.contents.specs.Memory.{both_fit, holding, holding_if, holding_ok, wrote, wrote_ok}
use Rattle.plan.specs.Answers.{defined, chosen, chosen_scores, wrote_ones, alias_member, alias_set_of, run_of, runs_from, block_of}
use Rattle.planfile.specs.File.{file_of}
use Rattle.page.specs.Page.{page}
use Rattle.history.specs.declared.question.Reply.{Reply}
use Rattle.history.specs.declared.question.Reply.TheVariants.{Code, Written, Block}
use Rattle.history.specs.declared.question.Question.{Question}
use Rattle.history.specs.declared.question.Question.TheVariants.{Factors, Counts, Word, List as WordList, File, Generators, ScoredGenerators, Pattern, Resolution, AliasMember, AliasSet, Page, ClearPairs, Run, Runs, BlockNumber}
use Rattle.history.specs.Lent.{Lent}

-- a scored preference: its relation, and the score of a word of so many factors
pub record Scoring : Type 0 where
  pub good : Relation
  pub points : ℕ → ℕ → ℕ

-- a question as it is stated: a preference is what it means, words are a list
abbrev pub StatedQuestion : Type 0
StatedQuestion = Question Relation Scoring (List ℕ)

-- with the arithmetic A there is such a question: some are asked with two levels alone
abbrev pub exists : Arithmetic → StatedQuestion → Bool
exists A ClearPairs = A.s == 2
exists A (Run m) = A.s == 2
exists A (Runs first count) = A.s == 2
exists A (BlockNumber run ws) = A.s == 2
exists A _ = true

-- an answer goes to the start of the lent bytes, counts or words, or memory is refused as too short
abbrev pub in_bytes : List ℕ → Lent → Reply × Lent
in_bytes xs m = (Written (wrote xs m.bytes), record m { bytes = holding xs m.bytes })

abbrev pub in_counts : List ℕ → Lent → Reply × Lent
in_counts xs m = (Written (wrote xs m.counts), record m { counts = holding xs m.counts })

abbrev pub in_words : List ℕ → Lent → Reply × Lent
in_words xs m = (Written (wrote xs m.words), record m { words = holding xs m.words })

-- the same of words that may be refused before memory is looked at
abbrev pub in_words_ok : Result (List ℕ) Refusal → Lent → Reply × Lent
in_words_ok words m = (Written (wrote_ok words m.words), record m { words = holding_ok words m.words })

-- words and as many counts, where both fit
abbrev pub in_words_and_counts : List ℕ → List ℕ → Lent → Reply × Lent
in_words_and_counts xs ys m =
    let fit = both_fit (length xs) m.words m.counts in (
      Written (if fit then Ok (length xs) else Err Memory),
      record m { counts = holding_if fit ys m.counts; words = holding_if fit xs m.words },
    )

-- what is returned, and what lent memory holds then
abbrev pub answer : Arithmetic → StatedQuestion → Content → Lent → Reply × Lent
answer A Factors p m = (Reply.Factors p.factors, m)
answer A Counts p m = (Reply.Counts (length p.defining) (length p.block), m)
answer A (Word side place) p m = (Code (word_at side place p), m)
answer A (WordList side) p m = in_words (side_of side p) m
answer A File p m = in_bytes (file_of A p) m
answer A (Generators side good) p m = in_words (chosen A good side p) m
answer A (ScoredGenerators side s) p m =
    in_words_and_counts (chosen A s.good side p) (chosen_scores A s.good s.points side p) m
answer A Pattern p m = in_counts (pattern A p.factors (defined A p)) m
answer A Resolution p m = (Reply.Resolution (resolution A p.factors (defined A p)), m)
answer A (AliasMember w k) p m = (Code (alias_member A w k p), m)
answer A (AliasSet w) p m = in_words_ok (alias_set_of A w p) m
answer A Page p m = in_bytes (page A p) m
answer A ClearPairs p m =
    let bytes = clear_bytes p.factors p.defining in
    (Written (wrote_ones bytes m.bytes), record m { bytes = holding bytes m.bytes })
answer A (Run k) p m = (Code (run_of k p), m)
answer A (Runs first count) p m = in_words_ok (runs_from first count p) m
answer A (BlockNumber run ws) p m = (Block (block_of run ws p), m)

-- what the preferences of the code mean
pub record Meaning (P S : Type 0) : Type 0 where
  pub good : P → Relation
  pub scoring : S → Scoring

abbrev pub meaning_by : {P S : Type 0} → (P → Relation) → (S → Relation) → (S → ℕ → ℕ → ℕ) → Meaning P S
meaning_by good good' points = record {
  good = good;
  scoring = λ s. record { good = good' s; points = points s };
}

-- a question of the code as it is stated, by what its preferences mean
abbrev pub stated_question : {P S : Type 0} → Meaning P S → Question P S (Bor (List ℕ)) → StatedQuestion
stated_question meaning Factors = Factors
stated_question meaning Counts = Counts
stated_question meaning (Word side place) = Word side place
stated_question meaning (WordList side) = WordList side
stated_question meaning File = File
stated_question meaning (Generators side preference) = Generators side (meaning.good preference)
stated_question meaning (ScoredGenerators side preference) =
    ScoredGenerators side (meaning.scoring preference)
stated_question meaning Pattern = Pattern
stated_question meaning Resolution = Resolution
stated_question meaning (AliasMember w m) = AliasMember w m
stated_question meaning (AliasSet w) = AliasSet w
stated_question meaning Page = Page
stated_question meaning ClearPairs = ClearPairs
stated_question meaning (Run m) = Run m
stated_question meaning (Runs first count) = Runs first count
stated_question meaning (BlockNumber run ws) = BlockNumber run ws.now
