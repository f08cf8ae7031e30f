-- Words that no multiple of the shared rows makes smaller, and what is made of them.
use Rattle.std.proofs.Common.{◌≡◌, ℕ, ◌+◌, ◌<◌, ◌≤◌, Bool, Option, Some, None, true, false, cond, List, [], ◌++◌, ◌-◌, length, get_or, take, drop, sym, ap, ◌∙◌, subst, arith}
use Rattle.std.proofs.lemmas.List.{get_or-take, get_or-drop, get_or_append_left, take_rest, length-append, length-take, length-drop}
use Rattle.levels.specs.Arithmetic.{Arithmetic, Lawful}
use Rattle.levels.specs.Words.{word_sum, word_multiple, code_sum}
use Rattle.levels.specs.Space.{Word}
use Rattle.levels.specs.Generated.{Generates, combinations}
use Rattle.levels.specs.Basis.{Echelon, Smallest, LeastAlias}
use Rattle.levels.proofs.Reduced.{space_at, smallest_generated, clear_alias, echelon_none}
use Rattle.levels.proofs.Leads.{smallest_sum, smallest_multiple}
use Rattle.levels.proofs.Linear.{add_zero_word}
use Rattle.levels.proofs.Generation.{space, generates_zero}
use Rattle.levels.proofs.Leaves.{sums_words}
use Rattle.levels.proofs.Lengths.{sum_code}
use Rattle.std.specs.Option.{IfSome, IfNone}
use Rattle.std.specs.Bool.{OnTrue}
use Rattle.levels.specs.Generated.{generated}
use Rattle.preferences.specs.Relation.{Relation, PreferenceLaws, EqualAliases, judged}
use Rattle.choice.specs.Search.{Kept, Leaf, Least, NoLater, Offered}
use Rattle.choice.proofs.Offers.{alias_behind, shared_base, shared_law}
use Rattle.choice.proofs.Samples.{sum_generated}

module _ (A : Arithmetic) (L : Lawful A) (n : ℕ) (shared : List ℕ) (e : Echelon A n shared) where
  -- it is its own least alias
  pub least_alias : (w : ℕ) → Least A n shared w → LeastAlias A n shared w w
  least_alias w p =
      let V = space_at A L n w p.word in
      clear_alias A L n V shared e w w p.word (0, generates_zero A L n V shared, sym (add_zero_word (space A L n V) w p.word)) p.smallest

  -- the sum of two
  pub least_sum : (a b : ℕ) → Least A n shared a → Least A n shared b → Least A n shared (word_sum A n a b)
  least_sum a b p q = record {
    word = (space_at A L n a p.word).sum_word a b p.word q.word;
    smallest = λ i l. smallest_sum A L n (get_or shared i 0) (e.words i l) a b p.word q.word (p.smallest i l) (q.smallest i l);
  }

  -- a multiple of one
  pub least_multiple : (c w : ℕ) → c < A.s → Least A n shared w → Least A n shared (word_multiple A n c w)
  least_multiple c w l p = record {
    word = (space_at A L n w p.word).multiple_word c w l p.word;
    smallest = λ i m. smallest_multiple A L n (get_or shared i 0) (e.words i m) c w l p.word (p.smallest i m);
  }

  -- a sum of one and a leaf, as its code is summed
  pub least_leaf : (leaves : List ℕ) (start : ℕ) → Least A n shared start → ((i : ℕ) → i < length leaves → Least A n shared (get_or leaves i 0)) → (k sum : ℕ) → k < length leaves → sum ≡ code_sum A start (get_or leaves k 0) → Least A n shared sum
  least_leaf leaves start p all k sum l e =
      let q = all k l in
      subst (Least A n shared) (sym (e ∙ sym (sum_code A L n start (get_or leaves k 0) p.word q.word))) (least_sum start (get_or leaves k 0) p q)

  -- what such words generate
  pub least_generated : (ws : List ℕ) → ((i : ℕ) → i < length ws → Least A n shared (get_or ws i 0)) → (g : ℕ) → Word A n g → Generates A n ws g → Least A n shared g
  least_generated ws all g hg G = record {
    word = hg;
    smallest = λ i l. smallest_generated A L n (space_at A L n g hg) (get_or shared i 0) (e.words i l) ws (λ j m. (all j m).word) (λ j m. (all j m).smallest i l) g G;
  }

  -- all sums of such words
  pub least_sums : (ws sums : List ℕ) → ((i : ℕ) → i < length ws → Least A n shared (get_or ws i 0)) → (x : ℕ) → Word A n x → sums ≡ combinations A n ws → (k : ℕ) → k < length sums → Least A n shared (get_or sums k 0)
  least_sums ws sums all x hx is k l = least_generated ws all (get_or sums k 0) (sums_words A L n ws sums x is hx k l) (sum_generated A L n ws sums is k l)

  -- words of a list from a place on
  pub drop_least : (ws : List ℕ) (k : ℕ) → ((i : ℕ) → i < length ws → Least A n shared (get_or ws i 0)) → (i : ℕ) → i < length (drop k ws) → Least A n shared (get_or (drop k ws) i 0)
  drop_least ws k all i l = subst (Least A n shared) (sym (get_or-drop k ws i 0)) (all (k + i) (omega (arith, l, length-drop k ws)))

  -- words of a list behind the first
  pub rest_least : (ws : List ℕ) → ((i : ℕ) → i < length ws → Least A n shared (get_or ws i 0)) → (i : ℕ) → i < length (take (length ws - 1) (drop 1 ws)) → Least A n shared (get_or (take (length ws - 1) (drop 1 ws)) i 0)
  rest_least ws all i l = subst (λ us. Least A n shared (get_or us i 0)) (sym (take_rest ws 1)) (drop_least ws 1 all i (subst (λ us. i < length us) (take_rest ws 1) l))

  -- words of a list before others
  pub front_least : (ws front : List ℕ) → front ++ drop (length front) ws ≡ ws → ((i : ℕ) → i < length ws → Least A n shared (get_or ws i 0)) → (i : ℕ) → i < length front → Least A n shared (get_or front i 0)
  front_least ws front split all i l =
      let rest = drop (length front) ws in
      let same : get_or front i 0 ≡ get_or ws i 0 = sym (get_or_append_left front rest 0 i l) ∙ ap (λ us. get_or us i 0) split in
      subst (Least A n shared) (sym same) (all i (omega (arith, l, ap length split, length-append front rest)))

-- the shared rows are in echelon form
pub shared_echelon : (A : Arithmetic) (n : ℕ) (known : List ℕ) (alike : Bool) → Echelon A n known → Echelon A n (cond alike known [])
shared_echelon A n known true e = e
shared_echelon A n known false e = echelon_none A n

-- no multiple of the first rows makes the rows behind them smaller
pub rows_least : (A : Arithmetic) (L : Lawful A) (n : ℕ) (rows shared : List ℕ) (from : ℕ) → Echelon A n rows → take from rows ≡ shared → (j : ℕ) → from ≤ j → j < length rows → Least A n shared (get_or rows j 0)
rows_least A L n rows shared from all front j l m = record {
  word = all.words j m;
  smallest = λ i h.
      let inside : i < from = omega (arith, ap length front, length-take from rows) in
      let same : get_or rows i 0 ≡ get_or shared i 0 = sym (get_or-take from rows i 0 inside) ∙ ap (λ us. get_or us i 0) front in
      subst (λ v. Smallest A n v (get_or rows j 0)) same (all.reduced i j (omega arith) m);
}

-- so each of them, in a part of the rows
pub part_least : (A : Arithmetic) (L : Lawful A) (n : ℕ) (rows shared : List ℕ) (from first : ℕ) → Echelon A n rows → take from rows ≡ shared → from ≤ first → (part : List ℕ) (count : ℕ) → part ≡ take count (drop first rows) →
    (i : ℕ) → i < length part → Least A n shared (get_or part i 0)
part_least A L n rows shared from first all front l part count is i m =
    let size : first + i < length rows = omega (arith, m, ap length is, length-take count (drop first rows), length-drop first rows) in
    let inside : i < count = omega (arith, m, ap length is, length-take count (drop first rows)) in
    let same : get_or part i 0 ≡ get_or rows (first + i) 0 = ap (λ us. get_or us i 0) is ∙ get_or-take count (drop first rows) i 0 inside ∙ get_or-drop first rows i 0 in
    subst (Least A n shared) (sym same) (rows_least A L n rows shared from all front (first + i) (omega arith) size)

-- what an answer without a value promises follows from what another promise
none_weaker : {X : Type 0} (o : Option X) {P Q : Type 0} → IfNone o P → (P → Q) → IfNone o Q
none_weaker None h f = f h
none_weaker (Some x) h f = h

-- so with a value
some_weaker : {X : Type 0} (o : Option X) {P Q : X → Type 0} → IfSome o P → ((x : X) → P x → Q x) → IfSome o Q
some_weaker None h f = h
some_weaker (Some x) h f = f x h

module _ (A : Arithmetic) (L : Lawful A) (good : Relation) (laws : PreferenceLaws A good) (n room : ℕ) (base known : List ℕ) (spans : generated A n known ≡ generated A n base) (echelon : Echelon A n known) (alike : Bool) (equal : OnTrue alike (EqualAliases A good))
    (ours : List ℕ) (kept : Kept A n (judged A good n base) room base ours) (full : room ≤ length ours) (last : ℕ) (is : last ≡ get_or ours (length ours - 1) 0)
    (leaves : List ℕ) (start : ℕ) (least : Least A n (cond alike known []) start) (all : (i : ℕ) → i < length leaves → Least A n (cond alike known []) (get_or leaves i 0)) (first : ℕ) (Rest : Type 0) (rest : Rest) where
  -- sums that stand behind the last of full words
  abbrev pub Behind : ℕ → Type 0
  Behind end = (k : ℕ) → first ≤ k → k < end → NoLater (judged A good n base) last (word_sum A n start (get_or leaves k 0))

  -- the words that are alike to them change nothing, beside what stays
  abbrev pub Unchanged : ℕ → Type 0
  Unchanged end = (k : ℕ) → first ≤ k → k < end → Offered A n (judged A good n base) room base (Leaf A n (cond alike known []) leaves start k) ours ours × Rest

  behind_unchanged : (end : ℕ) → end ≤ length leaves → Behind end → Unchanged end
  behind_unchanged end l behind k from to =
      let shared = cond alike known [] in
      let e = shared_echelon A n known alike echelon in
      let sum = word_sum A n start (get_or leaves k 0) in
      let p = least_sum A L n shared e start (get_or leaves k 0) least (all k (omega arith)) in (
        alias_behind A L good laws n room base shared (shared_base A L n base known spans alike) (shared_law A L good laws n base known spans alike equal)
            ours kept full last sum sum is p.word (least_alias A L n shared e sum p) (behind k from to),
        rest,
      )

  -- no leaf is ahead
  pub none_ahead : (result : Option ℕ) → IfNone result (Behind (length leaves)) → IfNone result (Unchanged (length leaves))
  none_ahead result h = none_weaker result h (behind_unchanged (length leaves) (omega arith))

  -- the first leaf that is
  pub first_found : (result : Option ℕ) → IfSome result (λ place. (first ≤ place) × (place < length leaves) × Behind place) → IfSome result (λ place. (first ≤ place) × (place < length leaves) × Unchanged place)
  first_found result h = some_weaker result h (λ place p. (p.0, p.1, behind_unchanged place (omega (arith, p.1)) p.2))
