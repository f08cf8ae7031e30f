-- The order of a judge, and what stands beside the best words while it searches.
use Rattle.std.specs.Prelude.{◌≡◌, ℕ, Bool, cond, ◌<◌, ◌≤◌, List, [], length, slice_index}
use Rattle.std.specs.Bool.{OnTrue}
use Rattle.std.specs.List.{All}
use Rattle.bounded.specs.Items.{items_of}
use Rattle.levels.specs.Arithmetic.{Arithmetic}
use Rattle.levels.specs.Space.{Word}
use Rattle.levels.specs.Generated.{Generates}
use Rattle.levels.specs.Words.{word_sum}
use Rattle.levels.specs.Rows.{basis_rows}
use Rattle.levels.specs.declared.arithmetic.Levels.{Ghosts}
use Rattle.preferences.specs.Relation.{Relation, EqualAliases, judged}
use Rattle.preferences.specs.Candidates.{IsReady}
use Rattle.preferences.specs.declared.candidate.Candidate.{Candidate}
use Rattle.choice.specs.declared.judge.Judge.{Judge}
use Rattle.choice.specs.declared.best.Best.{Best}
use Rattle.choice.specs.declared.progress.Progress.{Progress}
use Rattle.levels.specs.declared.opposites.Leaves.{Leaves}
use Rattle.levels.specs.Leaves.{AllOpposite, leaf_words}
use Rattle.choice.specs.Chosen.{chosen_words}
use Rattle.choice.specs.Search.{Below, Fits, Kept, Leaf, Least, LedAt, NoLater, Offered, keep, sieve}

-- the order by which a judge judges
abbrev pub order_of : {L P : Type 0} {levels : Ghosts L} → Arithmetic → (P → Relation) → Judge L P levels → ℕ → ℕ → Bool
order_of A good judge = judged A (good judge.preference.now) judge.factors judge.base.words.now

-- the rows whose words a judge adds to a word without finding it better or worse: those of the base list, where the preference says so
abbrev pub shared_rows : {L P : Type 0} {levels : Ghosts L} → Judge L P levels → List ℕ
shared_rows judge = cond judge.alike (basis_rows judge.known) []

-- what a candidate has beside its word is that word's own, over the base list of a judge
abbrev pub ReadyFor : {L P : Type 0} {levels : Ghosts L} → Arithmetic → Judge L P levels → Candidate → Type 0
ReadyFor A judge candidate = IsReady A judge.factors judge.base.words.now candidate

-- a candidate that a judge can be asked of
abbrev pub IsFor : {L P : Type 0} {levels : Ghosts L} → Arithmetic → Judge L P levels → Candidate → Type 0
IsFor A judge candidate = Word A judge.factors candidate.word × ReadyFor A judge candidate

-- a candidate of a word that a judge can be asked of
abbrev pub KnownAs : {L P : Type 0} {levels : Ghosts L} → Arithmetic → Judge L P levels → ℕ → Candidate → Type 0
KnownAs A judge w candidate = (candidate.word ≡ w) × ReadyFor A judge candidate

-- a word that is the smallest code of those that a judge finds alike
abbrev pub IsLeast : {L P : Type 0} {levels : Ghosts L} → Arithmetic → Judge L P levels → ℕ → Type 0
IsLeast A judge w = Least A judge.factors (shared_rows judge) w

-- so is each word of a list
abbrev pub AllLeast : {L P : Type 0} {levels : Ghosts L} → Arithmetic → Judge L P levels → List ℕ → Type 0
AllLeast A judge ws = (i : ℕ) → i < length ws → IsLeast A judge (slice_index ws i)

-- leaves that are the smallest codes of those that a judge finds alike, and their opposites
pub record AreLeaves {L P : Type 0} {levels : Ghosts L} (A : Arithmetic) (judge : Judge L P levels) (leaves : Leaves) : Type 0 where
  pub least : AllLeast A judge (leaf_words leaves)
  pub opposites : AllOpposite A judge.factors leaves

-- a word put behind kept words, unless there is no room for it, or it is generated
abbrev pub kept_by : {L P : Type 0} {levels : Ghosts L} → Arithmetic → Judge L P levels → List ℕ → ℕ → List ℕ
kept_by A judge kept w = keep A judge.factors judge.room judge.base.words.now kept w

-- the words of a list put behind kept words, one after the other
abbrev pub sieved_by : {L P : Type 0} {levels : Ghosts L} → Arithmetic → Judge L P levels → List ℕ → List ℕ → List ℕ
sieved_by A judge kept ws = sieve A judge.factors judge.room judge.base.words.now kept ws

-- rows beside the best words are those of the base list and one for each word
abbrev pub FitsBy : {L P : Type 0} {levels : Ghosts L} → Arithmetic → Judge L P levels → Best → Type 0
FitsBy A judge best = Fits A judge.factors (basis_rows judge.known) judge.base.words.now (basis_rows best.rows) (chosen_words best.words)

-- the best words so far
abbrev pub words_of : Progress → List ℕ
words_of progress = chosen_words progress.best.words

-- what stands beside them: rows, and candidates
abbrev pub Beside : {L P : Type 0} {levels : Ghosts L} → Arithmetic → Judge L P levels → Progress → Type 0
Beside A judge progress = FitsBy A judge progress.best × All (ReadyFor A judge) (items_of progress.candidates)

-- what a judge keeps: words in their order, and what stands beside them
abbrev pub KeptBy : {L P : Type 0} {levels : Ghosts L} → Arithmetic → (P → Relation) → Judge L P levels → Progress → Type 0
KeptBy A good judge progress =
    Kept A judge.factors (order_of A good judge) judge.room judge.base.words.now (words_of progress)
    × Beside A judge progress
    × OnTrue judge.alike (EqualAliases A (good judge.preference.now))

-- what becomes of it when some words are offered
abbrev pub OfferedTo : {L P : Type 0} {levels : Ghosts L} → Arithmetic → (P → Relation) → Judge L P levels → (ℕ → Type 0) → List ℕ → Progress → Type 0
OfferedTo A good judge Among before after =
    Offered A judge.factors (order_of A good judge) judge.room judge.base.words.now Among before (words_of after)
    × Beside A judge after

-- the sums of a start and the leaves from one place on to another stand behind a word
abbrev pub AllBehind : {L P : Type 0} {levels : Ghosts L} → Arithmetic → (P → Relation) → Judge L P levels → ℕ → List ℕ → ℕ → ℕ → ℕ → Type 0
AllBehind A good judge w leaves start first end =
    (k : ℕ) → first ≤ k → k < end → NoLater (order_of A good judge) w (word_sum A judge.factors start (slice_index leaves k))

-- the first place of a leaf, from one on, whose sum with a start may stand before a word
abbrev pub FirstAhead : {L P : Type 0} {levels : Ghosts L} → Arithmetic → (P → Relation) → Judge L P levels → ℕ → List ℕ → ℕ → ℕ → ℕ → Type 0
FirstAhead A good judge w leaves start first place =
    (first ≤ place) × (place < length leaves) × AllBehind A good judge w leaves start first place

-- the words that are alike to the sums of a start and the leaves from one place on to another change nothing
abbrev pub NoneAhead : {L P : Type 0} {levels : Ghosts L} → Arithmetic → (P → Relation) → Judge L P levels → Progress → List ℕ → ℕ → ℕ → ℕ → Type 0
NoneAhead A good judge progress leaves start first end =
    (k : ℕ) → first ≤ k → k < end → OfferedTo A good judge (Leaf A judge.factors (shared_rows judge) leaves start k) (words_of progress) progress

-- the first place of a leaf, from one on, whose sum with a start may change something
abbrev pub Found : {L P : Type 0} {levels : Ghosts L} → Arithmetic → (P → Relation) → Judge L P levels → Progress → List ℕ → ℕ → ℕ → ℕ → Type 0
Found A good judge progress leaves start first place =
    (first ≤ place) × (place < length leaves) × NoneAhead A good judge progress leaves start first place

-- each of some words is generated by the rows of the base list and the further words
abbrev pub AllGenerated : {L P : Type 0} {levels : Ghosts L} → Arithmetic → Judge L P levels → List ℕ → Type 0
AllGenerated A judge ws = (i : ℕ) → i < length ws → Generates A judge.factors (basis_rows judge.whole) (slice_index ws i)

-- the words that are left when all words that the added rows lead were offered to some that are generated
abbrev pub FoundBy : {L P : Type 0} {levels : Ghosts L} → Arithmetic → (P → Relation) → Judge L P levels → List ℕ → Type 0
FoundBy A good judge found =
    let n = judge.factors in
    let rows = basis_rows judge.whole in
    let led = Below (length rows) (LedAt A n rows (length (basis_rows judge.known))) in
    (before : List ℕ) × AllGenerated A judge before × Offered A n (order_of A good judge) judge.room judge.base.words.now led before found
