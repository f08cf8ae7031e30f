use Rattle.std.proofs.Common.{◌≡◌, ℕ, ◌<◌, ◌-◌, [], List, length, get_or, take, drop, sym, ap, ◌∙◌, subst, arith}
use Rattle.std.proofs.lemmas.List.{take_rest}
use Rattle.levels.specs.Space.{AllWords}
use Rattle.levels.specs.Generated.{Generates, combinations}
use Rattle.levels.specs.Rows.{basis_rows}
use Rattle.levels.proofs.Any.{any_zero}
use Rattle.levels.proofs.Generation.{generates_word}
use Rattle.levels.proofs.Leaves.{combinations_words}
use Rattle.levels.proofs.Reduced.{space_at}
use Rattle.levels.proofs.Space.{vector_space}
use Rattle.levels.specs.Leaves.{leaf_words}
use Rattle.choice.specs.Search.{Least, OneOf, Spread}
use Rattle.choice.proofs.Least.{drop_least, front_least, least_leaf, least_sums, part_least, shared_echelon}
use Rattle.choice.specs.Judged.{shared_rows, words_of}
use Rattle.choice.proofs.Samples.{shared_generates, drop_words, drop_generated, one_generated, leaf_generated, first_word, last_generated, start_generated, all_generated}
use Rattle.choice.proofs.judge.Judge.sample.Goals as goal

-- the added rows were offered
pub loop-row-init : goal.loop-row-init
loop-row-init g c =
    let A = g.L.Levels.model in
    let L = g.met.L.Levels.lawful in
    let s = c.args.self.now in
    let n = s.factors in
    let known = basis_rows s.known in
    let whole = basis_rows s.whole in
    let rows = c.rows.result.now in
    let k = c.len.result in
    let added = take (length rows - k) (drop k rows) in
    let is : added ≡ drop (length known) whole = take_rest rows k ∙ ap (λ (i : ℕ). drop i rows) c.len.ensures.count ∙ ap (drop (length known)) c.rows.ensures in
    let inside = shared_generates A L n known whole s.alike s.front in
    let words : AllWords A n added = subst (AllWords A n) (sym is) (drop_words A L n whole s.all.words (length known)) in
    let made : (i : ℕ) → i < length added → Generates A n whole (get_or added i 0) =
    subst (λ (us : List ℕ). (i : ℕ) → i < length us → Generates A n whole (get_or us i 0)) (sym is) (drop_generated A L n whole s.all.words (length known)) in
    record {
      smallest = λ i l c lc. omega arith;
      start = any_zero A L n (vector_space A L n) whole;
      kept = (c.offer_all.ensures.0.kept, c.offer_all.ensures.1, c.requires.law);
      generated = all_generated A L n whole (OneOf A n (shared_rows s) added) (one_generated A L n whole (shared_rows s) inside added words made)
          (words_of c.args.progress.now) (words_of c.offer_all.new.progress) (λ i l. absurd (omega (arith, ap length c.requires.none))) c.offer_all.ensures.0.from;
    }

-- they alone, where alias sets are judged
pub returns-else-self-gt0-clause-generated : goal.returns-else-self-gt0-clause-generated
returns-else-self-gt0-clause-generated g c =
    let A = g.L.Levels.model in
    let L = g.met.L.Levels.lawful in
    let s = c.args.self.now in
    let n = s.factors in
    let known = basis_rows s.known in
    let whole = basis_rows s.whole in
    let rows = c.rows.result.now in
    let k = c.len.result in
    let added = take (length rows - k) (drop k rows) in
    let is : added ≡ drop (length known) whole = take_rest rows k ∙ ap (λ (i : ℕ). drop i rows) c.len.ensures.count ∙ ap (drop (length known)) c.rows.ensures in
    let inside = shared_generates A L n known whole s.alike s.front in
    let words : AllWords A n added = subst (AllWords A n) (sym is) (drop_words A L n whole s.all.words (length known)) in
    let made : (i : ℕ) → i < length added → Generates A n whole (get_or added i 0) =
    subst (λ (us : List ℕ). (i : ℕ) → i < length us → Generates A n whole (get_or us i 0)) (sym is) (drop_generated A L n whole s.all.words (length known)) in
    all_generated A L n whole (OneOf A n (shared_rows s) added) (one_generated A L n whole (shared_rows s) inside added words made)
    (words_of c.args.progress.now) (words_of c.offer_all.new.progress) (λ i l. absurd (omega (arith, ap length c.requires.none))) c.offer_all.ensures.0.from

-- the added rows are the smallest codes of those that are alike
pub offer_all-requires-clause-words : goal.offer_all-requires-clause-words
offer_all-requires-clause-words g c =
    let s = c.args.self.now in
    let rows = c.rows.result.now in
    let k = c.len.result in
    part_least g.L.Levels.model g.met.L.Levels.lawful s.factors (basis_rows s.whole) (shared_rows s) c.shared-from.result k s.all c.shared-from.ensures.front (omega (arith, c.shared-from.ensures.within, c.len.ensures.count))
    (take (length rows - k) (drop k rows)) (length rows - k) (ap (λ (us : List ℕ). take (length rows - k) (drop k us)) c.rows.ensures)

-- the next start is one
pub offer_leaves-requires-clause-start : goal.offer_leaves-requires-clause-start
offer_leaves-requires-clause-start g c =
    let A = g.L.Levels.model in
    let L = g.met.L.Levels.lawful in
    let s = c.args.self.now in
    let n = s.factors in
    let shared = shared_rows s in
    let echelon = shared_echelon A n (basis_rows s.known) s.alike s.echelon in
    let rows = c.rows-2.result.now in
    let k = c.shared-from.result in
    let count = length rows - k in
    let part = take count (drop k rows) in
    let before = c.list_sums.result.0.now in
    let least : (i : ℕ) → i < length part → Least A n shared (get_or part i 0) =
    part_least A L n (basis_rows s.whole) shared k k s.all c.shared-from.ensures.front (omega arith) part count (ap (λ (us : List ℕ). take count (drop k us)) c.rows-2.ensures) in
    let front = front_least A L n shared echelon part before c.list_sums.ensures.words least in
    let i = c.loop-row.row-index in
    let start : Least A n shared c.loop-row.start = record {
      word = generates_word A L n (space_at A L n (get_or before i 0) (front i c.loop-row-test.true).word) (basis_rows s.whole) c.loop-row.start c.loop-row.invariant.start;
      smallest = c.loop-row.invariant.smallest;
    } in
    least_leaf A L n shared echelon before c.loop-row.start start front c.loop-row.row-index c.add-start.result c.loop-row-test.true c.add-start.ensures

-- so are the sums
pub offer_leaves-requires-clause-leaves : goal.offer_leaves-requires-clause-leaves
offer_leaves-requires-clause-leaves g c =
    let A = g.L.Levels.model in
    let L = g.met.L.Levels.lawful in
    let s = c.args.self.now in
    let n = s.factors in
    let shared = shared_rows s in
    let echelon = shared_echelon A n (basis_rows s.known) s.alike s.echelon in
    let rows = c.rows-2.result.now in
    let k = c.shared-from.result in
    let count = length rows - k in
    let part = take count (drop k rows) in
    let before = c.list_sums.result.0.now in
    let least : (i : ℕ) → i < length part → Least A n shared (get_or part i 0) =
    part_least A L n (basis_rows s.whole) shared k k s.all c.shared-from.ensures.front (omega arith) part count (ap (λ (us : List ℕ). take count (drop k us)) c.rows-2.ensures) in
    let i = c.loop-row.row-index in
    let row = front_least A L n shared echelon part before c.list_sums.ensures.words least i c.loop-row-test.true in
    record {
      least = least_sums A L n shared echelon (drop (length before) part) (leaf_words c.new-leaves.result) (drop_least A L n shared echelon part (length before) least)
          (get_or before i 0) row.word (c.new-leaves.ensures.words ∙ c.list_sums.ensures.sums);
      opposites = c.new-leaves.ensures.opposites;
    }

-- one start more
pub loop-row-preserved : goal.loop-row-preserved
loop-row-preserved g c =
    let A = g.L.Levels.model in
    let L = g.met.L.Levels.lawful in
    let s = c.args.self.now in
    let n = s.factors in
    let known = basis_rows s.known in
    let whole = basis_rows s.whole in
    let rows = c.rows-2.result.now in
    let k = c.shared-from.result in
    let all_rows = take (length rows - k) (drop k rows) in
    let is : all_rows ≡ drop k whole = take_rest rows k ∙ ap (drop k) c.rows-2.ensures in
    let before = c.list_sums.result.0.now in
    let split = c.list_sums.ensures.words in
    let i = c.loop-row.row-index in
    let inside = shared_generates A L n known whole s.alike s.front in
    let all : leaf_words c.new-leaves.result ≡ combinations A n (drop (length before) all_rows) = c.new-leaves.ensures.words ∙ c.list_sums.ensures.sums in
    let next = start_generated A L n whole s.all.words k all_rows before is split c.loop-row.start i c.add-start.result c.loop-row-test.true c.loop-row.invariant.start c.add-start.ensures in
    let words : AllWords A n (leaf_words c.new-leaves.result) = subst (AllWords A n) (sym all)
    (combinations_words A L n (drop (length before) all_rows) (get_or before i 0) (first_word A L n whole s.all.words k all_rows before is split i c.loop-row-test.true)) in
    record {
      smallest = (offer_leaves-requires-clause-start g c.before).smallest;
      start = next.1;
      kept = (c.offer_leaves.ensures.0.kept, c.offer_leaves.ensures.1, c.requires.law);
      generated = all_generated A L n whole (Spread A n (shared_rows s) [] (leaf_words c.new-leaves.result) c.add-start.result)
          (leaf_generated A L n whole (shared_rows s) inside (leaf_words c.new-leaves.result) c.add-start.result next.0 words next.1 (last_generated A L n whole s.all.words k all_rows before is split (leaf_words c.new-leaves.result) all))
          (words_of c.loop-row.progress) (words_of c.offer_leaves.new.progress) c.loop-row.invariant.generated c.offer_leaves.ensures.0.from;
    }
