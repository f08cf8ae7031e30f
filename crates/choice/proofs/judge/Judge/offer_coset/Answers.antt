use Rattle.std.proofs.lemmas.List.{append_assoc}
use Rattle.std.proofs.Common.{ℕ, List, ap, ◌≡◌, ◌++◌, length, drop, sym, ◌∙◌, subst}
use Rattle.levels.specs.Rows.{basis_rows}
use Rattle.levels.specs.Generated.{combinations}
use Rattle.levels.proofs.Reduced.{space_at}
use Rattle.levels.specs.Leaves.{leaf_words}
use Rattle.choice.specs.Search.{Coset, Spread}
use Rattle.choice.specs.Judged.{order_of, OfferedTo, shared_rows, words_of}
use Rattle.choice.proofs.Greedy.{judged_order}
use Rattle.choice.proofs.Least.{drop_least, front_least, least_sums, shared_echelon}
use Rattle.choice.proofs.Sums.{spread_coset, coset_spread}
use Rattle.choice.proofs.Sieve.{offered_same}
use Rattle.choice.proofs.judge.Judge.offer_coset.Goals as goal

-- the words before the listed ones are rows
pub offer_over_leaves-requires-clause-words : goal.offer_over_leaves-requires-clause-words
offer_over_leaves-requires-clause-words g c =
    let A = g.L.Levels.model in
    let s = c.args.self.now in
    front_least A g.met.L.Levels.lawful s.factors (shared_rows s) (shared_echelon A s.factors (basis_rows s.known) s.alike s.echelon) c.args.rows.now c.list_sums.result.0.now c.list_sums.ensures.words c.requires.rows

-- the leaves are these
pub offer_over_leaves-requires-clause-leaves : goal.offer_over_leaves-requires-clause-leaves
offer_over_leaves-requires-clause-leaves g c =
    let A = g.L.Levels.model in
    let L = g.met.L.Levels.lawful in
    let s = c.args.self.now in
    let rows = c.args.rows.now in
    let before = c.list_sums.result.0.now in
    let shared = shared_rows s in
    let echelon = shared_echelon A s.factors (basis_rows s.known) s.alike s.echelon in
    record {
      least = least_sums A L s.factors shared echelon (drop (length before) rows) (leaf_words c.new-leaves.result) (drop_least A L s.factors shared echelon rows (length before) c.requires.rows) c.args.start c.requires.start.word
          (c.new-leaves.ensures.words ∙ c.list_sums.ensures.sums);
      opposites = c.new-leaves.ensures.opposites;
    }

-- the sums with all leaves are the sums with multiples of the rows
pub returns : goal.returns
returns g c =
    let A = g.L.Levels.model in
    let L = g.met.L.Levels.lawful in
    let s = c.args.self.now in
    let n = s.factors in
    let start = c.args.start in
    let before = c.list_sums.result.0.now in
    let behind = drop (length before) c.args.rows.now in
    let leaves = leaf_words c.new-leaves.result in
    let all : leaves ≡ combinations A n behind = c.new-leaves.ensures.words ∙ c.list_sums.ensures.sums in
    let V = space_at A L n start c.requires.start.word in
    let good = g.P.Preference.good s.preference.now in
    let base = s.base.words.now in
    let at_least = order_of A g.P.Preference.good s in
    let shared = shared_rows s in
    let rows : before ++ (behind ++ shared) ≡ c.args.rows.now ++ shared = sym (append_assoc before behind shared) ∙ ap (λ (us : List ℕ). us ++ shared) c.list_sums.ensures.words in
    let o = offered_same A L n at_least (judged_order A good (g.met.P.Preference.lawful s.preference.now) n base) s.room base (Spread A n shared before leaves start) (Coset A n (before ++ (behind ++ shared)) start) (words_of c.args.progress.now) (words_of c.offer_over_leaves.new.progress)
    (spread_coset A L n V before behind shared leaves start c.requires.start.word all) (coset_spread A L n V before behind shared leaves start c.requires.start.word all) c.offer_over_leaves.ensures.0 in
    subst (λ (us : List ℕ). OfferedTo A g.P.Preference.good s (Coset A n us start) (words_of c.args.progress.now) c.offer_over_leaves.new.progress) rows (o, c.offer_over_leaves.ensures.1)
