-- Two kept plans with the same words answer alike.
use Rattle.std.proofs.Common.{◌≡◌, ℕ, suc, ◌^◌, ◌≤◌, ◌+◌, Bool, true, false, cond, eqb, leb, ltb, List, [], ◌∷◌, ◌++◌, map, length, take, drop, Ok, Err, Result, codes, decimal, sym, refl, ap, subst, inl, inr, arith}
use Rattle.std.proofs.lemmas.List.{length-append}
use Rattle.std.proofs.lemmas.Bool.{and_from, cases_lt, le-leb, leb-true, eqb-true}
use Rattle.levels.specs.Arithmetic.{Arithmetic, Lawful, two}
use Rattle.levels.specs.Words.{legal, word_sum}
use Rattle.levels.specs.Space.{AllWords}
use Rattle.levels.specs.Generated.{SameWords, ascending, generated}
use Rattle.levels.specs.Lawful.{lawful_two}
use Rattle.levels.proofs.Multiplicity.{same_alias_set}
use Rattle.levels.proofs.Sets.{generated_same}
use Rattle.levels.proofs.Theory.{generation}
use Rattle.preferences.specs.Relation.{Relation, PreferenceLaws, all_legal, fair}
use Rattle.preferences.specs.Built.{by_score, length_score, shortest, least_aberration}
use Rattle.preferences.specs.Counts.{least_aberration_laws}
use Rattle.choice.proofs.Greedy.{same_generators}
use Rattle.aliasing.specs.Pattern.{pattern, resolution}
use Rattle.aliasing.specs.Clear.{crowded, clear_bytes, ones_in, pairs}
use Rattle.aliasing.specs.Runs.{runs_upto}
use Rattle.contents.specs.declared.refusal.Refusal.{Refusal}
use Rattle.contents.specs.declared.refusal.Refusal.TheVariants.{Illegal, Last}
use Rattle.contents.specs.declared.side.Side.{Side}
use Rattle.contents.specs.declared.side.Side.TheVariants.{Defining, Block}
use Rattle.contents.specs.Content.{Content, Kept}
use Rattle.plan.specs.Answers.{defined, chosen, chosen_scores, entry, alias_member, alias_set_of, run_of, runs_from, block_of}
use Rattle.contents.proofs.Keeps.{kept_defining}
use Rattle.page.specs.Page.{shown, fields, line, resolution_fields, page}
use Rattle.history.specs.BestAndEqual.{GenerateTheSame}
use Rattle.plan.proofs.Twos.{same_words_two}

-- what two plans have in common that generate the same words
pub record EqualParts (A : Arithmetic) (p q : Content) : Type 0 where
  pub factors : p.factors ≡ q.factors
  pub defining_count : length p.defining ≡ length q.defining
  pub block_count : length p.block ≡ length q.block
  pub generators : (good : Relation) → PreferenceLaws A good → (side : Side) → chosen A good side p ≡ chosen A good side q
  pub scores : (good : Relation) → PreferenceLaws A good → (points : ℕ → ℕ → ℕ) (side : Side) → chosen_scores A good points side p ≡ chosen_scores A good points side q
  pub patterns : pattern A p.factors (defined A p) ≡ pattern A q.factors (defined A q)
  pub resolutions : resolution A p.factors (defined A p) ≡ resolution A q.factors (defined A q)
  pub members : (w m : ℕ) → alias_member A w m p ≡ alias_member A w m q
  pub alias_sets : (w : ℕ) → alias_set_of A w p ≡ alias_set_of A w q
  pub clear : A.s ≡ 2 → clear_bytes p.factors p.defining ≡ clear_bytes q.factors q.defining
  pub run : A.s ≡ 2 → (m : ℕ) → run_of m p ≡ run_of m q
  pub runs : A.s ≡ 2 → (first count : ℕ) → runs_from first count p ≡ runs_from first count q
  pub blocks : (run : ℕ) (ws : List ℕ) → block_of run ws p ≡ block_of run ws q
  pub pages : page A p ≡ page A q

-- a refusal in place of a value
abbrev refused : {X : Type 0} → Refusal → Result X Refusal
refused e = Err e

-- a list of words is legal throughout
all_legal_of : (A : Arithmetic) (n : ℕ) (ws : List ℕ) → AllWords A n ws → all_legal A n ws ≡ true
all_legal_of A n [] h = refl
all_legal_of A n (w ∷ ws) h = and_from (legal A n w) (all_legal A n ws) (h 0 (omega arith)) (all_legal_of A n ws (λ i l. h (suc i) (omega arith)))

-- words within the limit are a list that a preference judges by
pub fair_of : (A : Arithmetic) (n : ℕ) (ws : List ℕ) → length ws ≤ A.limit → AllWords A n ws → fair A n ws ≡ true
fair_of A n ws few words = and_from (leb (length ws) A.limit) (all_legal A n ws) (le-leb (length ws) A.limit few) (all_legal_of A n ws words)

-- a preference by a score has the laws
pub score_laws : (A : Arithmetic) (score : ℕ → ℕ → ℕ) → PreferenceLaws A (by_score score)
score_laws A score = record {
  total = λ n base f a b wa wb. elim (cases_lt (score n a) (score n b)) [
    | inl l ↦ inl (le-leb (score n a) (score n b) (omega arith))
    | inr g ↦ inr (le-leb (score n b) (score n a) g)
  ];
  transitive = λ n base f a b c wa wb wc ab bc.
      le-leb (score n a) (score n c) (omega (arith, leb-true (score n a) (score n b) ab, leb-true (score n b) (score n c) bc));
  same_base = λ n us vs fu fv same a b wa wb. refl;
}

-- what is chosen by a test that passed is all that has to agree
cond_same : (b : Bool) (x y z : List ℕ) → (b ≡ true → x ≡ y) → cond b x z ≡ cond b y z
cond_same true x y z h = h refl
cond_same false x y z h = refl

-- the last line of the page, from the clear bytes
abbrev last_line : Arithmetic → List ℕ → List ℕ
last_line A bytes = cond (eqb A.s 2) (line (codes "clear") (fields decimal (ones_in bytes ∷ []))) []

-- the page, from the counts, the generated words, the generators and the last line
abbrev sheet : Arithmetic → ℕ → ℕ → ℕ → List ℕ → List ℕ → List ℕ → List ℕ → List ℕ
sheet A n d b set gs hs last =
    line (codes "plan") (fields decimal (A.s ∷ n ∷ d ∷ b ∷ []))
    ++ line (codes "resolution") (resolution_fields (resolution A n set))
    ++ line (codes "pattern") (fields decimal (pattern A n set))
    ++ line (codes "defining") (fields (shown A n) gs)
    ++ line (codes "blocks") (fields (shown A n) hs)
    ++ last

-- equal parts make equal pages
sheet_same : (A : Arithmetic) (n d d' b b' : ℕ) (set set' gs gs' hs hs' last last' : List ℕ) → d ≡ d' → b ≡ b' → set ≡ set' → gs ≡ gs' → hs ≡ hs' → last ≡ last' → sheet A n d b set gs hs last ≡ sheet A n d' b' set' gs' hs' last'
sheet_same A n d d' b b' set set' gs gs' hs hs' last last' e1 e2 e3 e4 e5 e6 = cc

-- the clear bytes, from the generated words
abbrev clear_from : ℕ → List ℕ → List ℕ
clear_from n gs = map (λ p. cond (crowded p (ascending (map (word_sum two n p) gs))) 0 1) (pairs n)

-- a preference judges by the defining words of a kept plan
judged_by : (A : Arithmetic) → Lawful A → (p : Content) → Kept A p → fair A p.factors p.defining ≡ true
judged_by A L p k = let d = kept_defining A L p k in fair_of A p.factors p.defining d.few d.words

-- Two contents of n factors.
module _ (A : Arithmetic) (L : Lawful A) (n : ℕ) (ds bs es cs : List ℕ) where
  -- the first
  abbrev one : Content
  one = record { factors = n; defining = ds; block = bs }

  -- the second
  abbrev another : Content
  another = record { factors = n; defining = es; block = cs }

  -- with two levels, the same clear bytes
  two_clear : SameWords two n ds es → clear_bytes n ds ≡ clear_bytes n es
  two_clear same = ap (clear_from n) (generated_same two lawful_two n ds es same)

  -- with two levels, the same runs
  two_run : SameWords two n ds es → (m : ℕ) → run_of m one ≡ run_of m another
  two_run same m = ap (λ gs. entry (runs_upto n gs (2 ^ n)) m) (generated_same two lawful_two n ds es same)

  two_runs : SameWords two n ds es → (first count : ℕ) → runs_from first count one ≡ runs_from first count another
  two_runs same first count =
      ap (λ gs. let runs = runs_upto n gs (2 ^ n) in cond (ltb (length runs) (first + count)) (refused {X = List ℕ} Last) (Ok (take count (drop first runs))))
      (generated_same two lawful_two n ds es same)

  module _ (k : Kept A one) (k' : Kept A another) (same : SameWords A n ds es) (together : SameWords A n (ds ++ bs) (es ++ cs)) where
    -- as many defining words
    defining-alike : length ds ≡ length es
    defining-alike =
        let d = kept_defining A L one k in
        let d' = kept_defining A L another k' in
        (generation A L n).equally_long ds es d.words d'.words d.independent d'.independent same

    -- as many block words
    block-alike : length bs ≡ length cs
    block-alike =
        let t : length (ds ++ bs) ≡ length (es ++ cs) =
        (generation A L n).equally_long (ds ++ bs) (es ++ cs) k.words k'.words k.independent k'.independent together in
        omega (arith, defining-alike, t, length-append ds bs, length-append es cs)

    -- the same generators
    chosen-alike : (good : Relation) → PreferenceLaws A good → (side : Side) → chosen A good side one ≡ chosen A good side another
    chosen-alike good laws Defining =
        let none : fair A n [] ≡ true = fair_of A n [] (omega arith) (λ i l. absurd (omega arith)) in
        same_generators A L good laws n [] ds [] es none none (λ w. ((λ g. g), (λ g. g))) same
    chosen-alike good laws Block =
        same_generators A L good laws n ds bs es cs (judged_by A L one k) (judged_by A L another k') same together

    -- the same clear bytes
    clear-alike : A.s ≡ 2 → clear_bytes n ds ≡ clear_bytes n es
    clear-alike e = two_clear (same_words_two A L e n ds es same)

    -- the same generated words
    set-alike : generated A n ds ≡ generated A n es
    set-alike = generated_same A L n ds es same

    -- the same last line
    last-alike : last_line A (clear_bytes n ds) ≡ last_line A (clear_bytes n es)
    last-alike =
        cond_same (eqb A.s 2) (line (codes "clear") (fields decimal (ones_in (clear_bytes n ds) ∷ [])))
        (line (codes "clear") (fields decimal (ones_in (clear_bytes n es) ∷ []))) []
        (λ t. ap (λ bytes. line (codes "clear") (fields decimal (ones_in bytes ∷ []))) (clear-alike (eqb-true A.s 2 t)))

    -- the same page
    page-alike : page A one ≡ page A another
    page-alike =
        let g = chosen-alike (shortest A) (score_laws A (length_score A)) Defining in
        let h = chosen-alike (least_aberration A) (least_aberration_laws A L) Block in
        sheet_same A n (length ds) (length es) (length bs) (length cs) (generated A n ds) (generated A n es)
        (chosen A (shortest A) Defining one) (chosen A (shortest A) Defining another)
        (chosen A (least_aberration A) Block one) (chosen A (least_aberration A) Block another)
        (last_line A (clear_bytes n ds)) (last_line A (clear_bytes n es))
        defining-alike block-alike set-alike g h last-alike

    -- all answers
    alike : EqualParts A one another
    alike = record {
      factors = refl;
      defining_count = defining-alike;
      block_count = block-alike;
      generators = chosen-alike;
      scores = λ good laws points side. ap (map (points n)) (chosen-alike good laws side);
      patterns = ap (pattern A n) set-alike;
      resolutions = ap (resolution A n) set-alike;
      members = λ w m. ap (λ set. cond (legal A n w) (entry set m) (Err Illegal)) (same_alias_set A L n ds es w same);
      alias_sets = λ w. ap (λ set. cond (legal A n w) (Ok set) (refused {X = List ℕ} Illegal)) (same_alias_set A L n ds es w same);
      clear = clear-alike;
      run = λ e m. two_run (same_words_two A L e n ds es same) m;
      runs = λ e first count. two_runs (same_words_two A L e n ds es same) first count;
      blocks = λ run ws. refl;
      pages = page-alike;
    }

-- two kept plans with the same words answer alike
pub equal_parts : (A : Arithmetic) → Lawful A → (p q : Content) → Kept A p → Kept A q → GenerateTheSame A p q → EqualParts A p q
equal_parts A L p q k k' same =
    subst (λ n. EqualParts A p (record { factors = n; defining = q.defining; block = q.block })) same.factors
    (alike A L p.factors p.defining p.block q.defining q.block k
    (subst (λ n. Kept A (record { factors = n; defining = q.defining; block = q.block })) (sym same.factors) k')
    same.defining same.together)
