-- Best generators and equal answers: what is promised of every settled plan, whatever calls made it.
use Rattle.std.specs.Prelude.{◌≡◌, ℕ, ◌<◌, Bool, true, false, List, ◌∷◌, ◌++◌, length, map, Some, slice_get, slice_index}
use Rattle.levels.specs.Arithmetic.{Arithmetic}
use Rattle.levels.specs.Generated.{Generates, Independent, SameWords}
use Rattle.preferences.specs.Relation.{Relation, PreferenceLaws, better}
use Rattle.contents.specs.declared.side.Side.{Side}
use Rattle.contents.specs.Content.{Content, Kept, both, side_of}
use Rattle.plan.specs.Answers.{base_of}
use Rattle.history.specs.declared.question.Question.TheVariants.{Word, List as WordList, File, Generators, ScoredGenerators}
use Rattle.history.specs.Lent.{Lent}
use Rattle.history.specs.Questions.{StatedQuestion, answer, exists, in_words, in_words_and_counts}
use Rattle.history.specs.declared.call.Call.TheVariants.{Ask}
use Rattle.history.specs.declared.question.Reply.{Reply}
use Rattle.history.specs.States.{settled_state}
use Rattle.history.specs.Calls.{StatedCall, memory_after, new, plan_after}

-- a list of calls on a new plan leaves it settled, with this content
abbrev pub Settles : Arithmetic → List StatedCall → Content → Type 0
Settles A calls p = plan_after A calls new ≡ Some (settled_state p)

-- the wanted words of a side: all that its base list and the words that the calls left there generate
abbrev pub IsWanted : Arithmetic → Side → Content → ℕ → Type 0
IsWanted A side p = Generates A p.factors (base_of side p ++ side_of side p)

-- a rival: another list of so many wanted words from which, beside the base list, every wanted word is
-- generated; best words first
pub record IsRival (A : Arithmetic) (good : Relation) (side : Side) (p : Content)
    (theirs : List ℕ) : Type 0 where
  pub as_many : length theirs ≡ length (side_of side p)
  pub wanted : (i : ℕ) → i < length theirs → IsWanted A side p (slice_index theirs i)
  pub all_wanted : (w : ℕ) → IsWanted A side p w →
      Generates A p.factors (base_of side p ++ theirs) w
  pub best_first : (i j : ℕ) → i < j → j < length theirs →
      better good p.factors (base_of side p) (slice_index theirs j) (slice_index theirs i) ≡ false

-- the best generators of a side: none of them is superfluous beside the base list, they generate what is wanted and nothing
-- else, and wherever a rival has a word, ours at that place is as good
pub record AreBest (A : Arithmetic) (good : Relation) (side : Side) (p : Content)
    (ours : List ℕ) : Type 0 where
  pub as_many : length ours ≡ length (side_of side p)
  pub independent : Independent A p.factors (base_of side p ++ ours)
  pub exact : SameWords A p.factors (base_of side p ++ ours) (base_of side p ++ side_of side p)
  pub no_rival_is_better : (theirs : List ℕ) → IsRival A good side p theirs →
      (i : ℕ) → i < length ours →
      better good p.factors (base_of side p) (slice_index theirs i) (slice_index ours i) ≡ false

-- The questions for the generators of a side show the best ones: they go to the start of lent memory,
-- their scores too where there are any, or memory is refused as too short for them.
pub record ShowsBest (A : Arithmetic) (good : Relation) (side : Side) (p : Content) : Type 0 where
  pub ours : List ℕ
  pub best : AreBest A good side p ours
  pub shown : (m : Lent) → answer A (Generators side good) p m ≡ in_words ours m
  pub shown_scored : (points : ℕ → ℕ → ℕ) (m : Lent) →
      answer A (ScoredGenerators side (record { good = good; points = points })) p m
      ≡ in_words_and_counts ours (map (points p.factors) ours) m

-- two plans of as many factors generate the same words, on the defining side and together
pub record GenerateTheSame (A : Arithmetic) (p q : Content) : Type 0 where
  pub factors : p.factors ≡ q.factors
  pub defining : SameWords A p.factors p.defining q.defining
  pub together : SameWords A p.factors (both p) (both q)

-- whether a question tells the words that a plan holds at their places
abbrev pub tells_places : StatedQuestion → Bool
tells_places (Word side place) = true
tells_places (WordList side) = true
tells_places File = true
tells_places _ = false

-- a preference that is handed in keeps its laws
abbrev pub KeepsLaws : Arithmetic → StatedQuestion → Type 0
KeepsLaws A (Generators side good) = PreferenceLaws A good
KeepsLaws A (ScoredGenerators side s) = PreferenceLaws A s.good
KeepsLaws A _ = Unit {0}

-- every question that does not tell places returns the same of two plans, and leaves the same memory
abbrev pub AnswerAlike : Arithmetic → Content → Content → Type 0
AnswerAlike A p q =
    (question : StatedQuestion) → exists A question ≡ true →
    tells_places question ≡ false → KeepsLaws A question →
    (memory : Lent) → answer A question p memory ≡ answer A question q memory

-- What is promised of a content that calls left settled: its words are legal, independent and no more than
-- the limit; every lawful preference is shown best generators on both sides; every settled plan that
-- generates the same answers alike.
pub record BestGeneratorsAndEqualAnswers (A : Arithmetic) (p : Content) : Type 0 where
  pub kept : Kept A p
  pub best_generators : (good : Relation) → PreferenceLaws A good →
      (side : Side) → ShowsBest A good side p
  pub equal_answers : (calls : List StatedCall) (q : Content) → Settles A calls q →
      GenerateTheSame A p q → AnswerAlike A p q

-- A question anywhere in a list is answered of the content that the calls before it settled, in the memory
-- that they left.
abbrev pub AnswersInPlace : Arithmetic → List StatedCall → Lent → List (Reply × Lent) → Type 0
AnswersInPlace A calls memory told =
    (before rest : List StatedCall) (question : StatedQuestion) (p : Content) →
    calls ≡ before ++ Ask question ∷ rest → Settles A before p → exists A question ≡ true →
    slice_get told (length before) ≡ Some (answer A question p (memory_after A before new memory))
