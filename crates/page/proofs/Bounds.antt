-- How long a page is at most.
use Rattle.std.proofs.Common.{◌≡◌, ℕ, zero, suc, ◌+◌, ◌-◌, ◌*◌, ◌/◌, ◌%◌, ◌^◌, ◌<◌, ◌≤◌, cond, eqb, ltb, List, [], ◌∷◌, ◌++◌, map, length, Some, codes, decimal, sym, ap, ◌∙◌, subst, inl, inr, le_trans, mul-le-mul_left, mul-suc, div-le_self, arith}
use native.Mathlib.Nat.{pow-le-pow_left, pow-le-pow_right}
use Rattle.std.proofs.lemmas.Nat.{mod_below, pow_pos}
use Rattle.std.proofs.lemmas.Fmt.{length-decimal-le}
use Rattle.std.proofs.lemmas.List.Sums.{sum_by-cons}
use Rattle.std.proofs.lemmas.List.{length-append}
use Rattle.std.proofs.lemmas.Bool.{cond_both, cond-false, cases_Bool, cases_lt, eqb-true, eqb-false}
use Rattle.levels.specs.Arithmetic.{Arithmetic, Lawful, two}
use Rattle.levels.specs.Words.{digits, word_length}
use Rattle.levels.specs.Generated.{combinations, generated, ascending, insert}
use Rattle.levels.specs.Alias.{of_length, alias_set}
use Rattle.levels.proofs.Any.{any_length}
use Rattle.levels.proofs.Ascending.{how_many_most}
use Rattle.levels.proofs.Space.{vector_space}
use Rattle.preferences.specs.Relation.{Relation}
use Rattle.preferences.specs.Built.{shortest, least_aberration}
use Rattle.aliasing.specs.Pattern.{count, counts_from, pattern, first_positive, resolution}
use Rattle.aliasing.specs.Clear.{clear_byte, clear_bytes, crowded, ones_in, pairs, pairs_from, pairs_with}
use Rattle.choice.specs.Choice.{generators}
use Rattle.choice.proofs.Greedy.{generators_length}
use Rattle.contents.specs.declared.side.Side.TheVariants.{Defining, Block}
use Rattle.contents.specs.Content.{Content, Kept}
use Rattle.contents.proofs.Membership.{bits_small, limit_small}
use Rattle.plan.specs.Answers.{defined}
use Rattle.page.specs.Page.{fields, letter_of, letters, line, page, resolution_fields, shown}
use Rattle.page.specs.Parts.{clear_line, generators_line, head_line, pattern_line, resolution_line}
use Rattle.page.proofs.Lines.{length_line, mark}

-- the page has the length of its lines
page_length : (A : Arithmetic) (p : Content) → length (page A p) ≡ length (head_line A p) + length (resolution_line A p) + length (pattern_line A p) + length (generators_line A (codes "defining") (shortest A) Defining p) + length (generators_line A (codes "blocks") (least_aberration A) Block p) + length (clear_line A p)
page_length A p =
    let one = head_line A p in
    let two = resolution_line A p in
    let three = pattern_line A p in
    let four = generators_line A (codes "defining") (shortest A) Defining p in
    let five = generators_line A (codes "blocks") (least_aberration A) Block p in
    omega (
      arith,
      length-append (one ++ two ++ three ++ four ++ five) (clear_line A p),
      length-append (one ++ two ++ three ++ four) five,
      length-append (one ++ two ++ three) four,
      length-append (one ++ two) three,
      length-append one two,
    )

-- a digit has at most 2 bits, so there are at most 4 levels
levels_few : (A : Arithmetic) → Lawful A → A.s ≤ 4
levels_few A L = le_trans L.fits (pow-le-pow_right {n = 2} (omega arith) (bits_small A L))

-- a number of one digit
digit_short : (d : ℕ) → d < 10 → length (decimal d) ≤ 1
digit_short d h = length-decimal-le 1 d (omega arith) h (omega arith)

-- one digit of a word takes at most 2 bytes
mark_two : (i d : ℕ) → d < 4 → length (mark i d) ≤ 2
mark_two i d h =
    let one = digit_short d (omega arith) in
    cond_both (eqb d 0) [] (letter_of i ∷ cond (eqb d 1) [] (decimal d)) (λ zs. length zs ≤ 2) (λ e. omega arith)
    (λ e. cond_both (eqb d 1) [] (decimal d) (λ zs. suc (length zs) ≤ 2) (λ t. omega arith) (λ t. omega arith))

-- with two levels at most 1
mark_one : (i d : ℕ) → d < 2 → length (mark i d) ≤ 1
mark_one i d h =
    cond_both (eqb d 0) [] (letter_of i ∷ cond (eqb d 1) [] (decimal d)) (λ zs. length zs ≤ 1) (λ e. omega arith)
    (λ e. cond_both (eqb d 1) [] (decimal d) (λ zs. suc (length zs) ≤ 1) (λ t. omega arith) (λ t. absurd (omega (arith, eqb-false d 0 e, eqb-false d 1 t))))

-- a word takes at most as many bytes as its n digits
word_most : (A : Arithmetic) (k : ℕ) → ((i d : ℕ) → d < 2 ^ A.bits → length (mark i d) ≤ k) → (n i w : ℕ) → length (letters i (digits A n w)) ≤ k * n
word_most A k most zero i w = omega arith
word_most A k most (suc n) i w =
    omega (
      arith,
      length-append (mark i (w % 2 ^ A.bits)) (letters (suc i) (digits A n (w / 2 ^ A.bits))),
      most i (w % 2 ^ A.bits) (mod_below w (2 ^ A.bits) (pow_pos A.bits)),
      word_most A k most n (suc i) (w / 2 ^ A.bits),
      mul-suc k n,
    )

-- 64 bytes for up to 32 factors, and 32 of them with two levels
shown_most : (A : Arithmetic) → Lawful A → (n : ℕ) → n ≤ 32 → (w : ℕ) → length (shown A n w) ≤ 64
shown_most A L n h w =
    let four = pow-le-pow_right {n = 2} (omega arith) (bits_small A L) in
    omega (arith, word_most A 2 (λ i d l. mark_two i d (omega arith)) n 0 w)

shown_two : (A : Arithmetic) → Lawful A → A.s ≡ 2 → (n : ℕ) → n ≤ 32 → (w : ℕ) → length (shown A n w) ≤ 32
shown_two A L e n h w =
    let one : A.bits ≡ 1 = L.width ∙ ap (λ s. cond (eqb s 2) 1 2) e in
    let below : (d : ℕ) → d < 2 ^ A.bits → d < 2 = λ d. subst (λ (b : ℕ). d < 2 ^ b → d < 2) (sym one) (λ l. l) in
    omega (arith, word_most A 1 (λ i d l. mark_one i d (below d l)) n 0 w)

-- fields that take at most m bytes each
fields_most : (show : ℕ → List ℕ) (m : ℕ) → ((x : ℕ) → length (show x) ≤ m) → (xs : List ℕ) → length (fields show xs) ≤ suc m * length xs
fields_most show m most [] = omega arith
fields_most show m most (x ∷ xs) =
    omega (arith, length-append (32 ∷ show x) (fields show xs), most x, fields_most show m most xs, mul-suc (suc m) (length xs))

-- a count of lengths is at most the size of the set
count_most : (A : Arithmetic) (set : List ℕ) (i : ℕ) → count A set i ≤ length set
count_most A set i = le_trans (div-le_self (of_length A i set) (A.s - 1)) (how_many_most (λ w. eqb (word_length A w) i) set)

-- a number that is put into an ascending list makes it longer by 1 at most
insert_most : (x : ℕ) (ys : List ℕ) → length (insert x ys) ≤ suc (length ys)
insert_most x [] = omega arith
insert_most x (y ∷ ys) =
    let more = insert_most x ys in
    cond_both (ltb x y) (x ∷ y ∷ ys) (cond (eqb x y) (y ∷ ys) (y ∷ insert x ys)) (λ zs. length zs ≤ suc (suc (length ys))) (λ e. omega arith)
    (λ e. cond_both (eqb x y) (y ∷ ys) (y ∷ insert x ys) (λ zs. length zs ≤ suc (suc (length ys))) (λ t. omega arith) (λ t. omega arith))

ascending_most : (xs : List ℕ) → length (ascending xs) ≤ length xs
ascending_most [] = omega arith
ascending_most (x ∷ xs) = omega (arith, insert_most x (ascending xs), ascending_most xs)

-- k words generate at most s to the power of k
generated_most : (A : Arithmetic) → Lawful A → (n : ℕ) (ws : List ℕ) (k : ℕ) → length ws ≤ k → length (generated A n ws) ≤ A.s ^ k
generated_most A L n ws k h =
    let some : 0 < A.s = omega (arith, L.field.two_levels) in
    le_trans (ascending_most (combinations A n ws))
    (subst (λ (m : ℕ). m ≤ A.s ^ k) (sym (any_length A L n (vector_space A L n) ws)) (pow-le-pow_right {n = A.s} some h))

-- the length of one field more
field_length : (show : ℕ → List ℕ) (x : ℕ) (xs : List ℕ) → length (fields show (x ∷ xs)) ≡ suc (length (show x)) + length (fields show xs)
field_length show x xs = length-append (32 ∷ show x) (fields show xs)

-- numbers below 100
two_digits : (x : ℕ) → x < 100 → length (decimal x) ≤ 2
two_digits x h = length-decimal-le 2 x (omega arith) h (omega arith)

-- the line of the plan
head_most : (a b c d : ℕ) → a < 10 → b < 100 → c < 100 → d < 100 → length (line (codes "plan") (fields decimal (a ∷ b ∷ c ∷ d ∷ []))) ≤ 16
head_most a b c d la lb lc ld =
    omega (
      arith,
      length_line (codes "plan") (fields decimal (a ∷ b ∷ c ∷ d ∷ [])),
      field_length decimal a (b ∷ c ∷ d ∷ []),
      field_length decimal b (c ∷ d ∷ []),
      field_length decimal c (d ∷ []),
      field_length decimal d [],
      digit_short a la,
      two_digits b lb,
      two_digits c lc,
      two_digits d ld,
    )

module _ (A : Arithmetic) (set : List ℕ) (short : (j : ℕ) → length (decimal (count A set j)) ≤ 5) where
  -- counts of at most 5 digits
  counts_most : (k i : ℕ) → length (fields decimal (counts_from A set i k)) ≤ 6 * k
  counts_most zero i = omega arith
  counts_most (suc k) i =
      omega (arith, field_length decimal (count A set i) (counts_from A set (suc i) k), short i, counts_most k (suc i), mul-suc 6 k)

  -- the first of them that is not 0, behind its length
  first_most : (k i : ℕ) → i + k ≤ 33 → length (resolution_fields (first_positive i (counts_from A set i k))) ≤ 9
  first_most zero i h = omega arith
  first_most (suc k) i h =
      let c = count A set i in
      cond_both (eqb c 0) (first_positive (suc i) (counts_from A set (suc i) k)) (Some (i, c)) (λ o. length (resolution_fields o) ≤ 9)
      (λ e. first_most k (suc i) (omega arith))
      (λ e. omega (arith, field_length decimal i (c ∷ []), field_length decimal c [], two_digits i (omega arith), short i))

-- a byte is at most 1, so a sum of bytes is at most their number
ones_most : (n : ℕ) (ws ps : List ℕ) → ones_in (map (clear_byte n ws) ps) ≤ length ps
ones_most n ws [] = omega arith
ones_most n ws (p ∷ ps) =
    let more = ones_most n ws ps in
    let rest : List ℕ = map (clear_byte n ws) ps in
    rw (sum_by-cons (λ b. b) (clear_byte n ws p) rest)
    (cond_both (crowded p (alias_set two n ws p)) 0 1 (λ b. b + ones_in rest ≤ suc (length ps)) (λ e. omega arith) (λ e. omega arith))

-- the pairs of one factor with k others
pairs_with_most : (k i j : ℕ) → length (pairs_with i j k) ≤ k
pairs_with_most zero i j = omega arith
pairs_with_most (suc k) i j = omega (arith, pairs_with_most k i (suc j))

-- the pairs of at most 32 factors
pairs_most : (k i : ℕ) → k ≤ 32 → length (pairs_from i k) ≤ 32 * k
pairs_most zero i h = omega arith
pairs_most (suc k) i h =
    omega (arith, length-append (pairs_with i (suc i) k) (pairs_from (suc i) k), pairs_with_most k i (suc i), pairs_most k (suc i) (omega arith))

-- so few pairs of at most 32 factors are clear
pub clear_few : (n : ℕ) (ws : List ℕ) → n ≤ 32 → ones_in (clear_bytes n ws) ≤ 1024
clear_few n ws h = omega (arith, ones_most n ws (pairs n), pairs_most n 0 h)

-- the line of clear pairs
clear_most : (A : Arithmetic) (p : Content) → p.factors ≤ 32 → length (clear_line A p) ≤ 11
clear_most A p h =
    let n = p.factors in
    let k = ones_in (clear_bytes n p.defining) in
    let few : k ≤ 1024 = clear_few n p.defining h in
    cond_both (eqb A.s 2) (line (codes "clear") (fields decimal (k ∷ []))) [] (λ zs. length zs ≤ 11)
    (λ e. omega (
      arith,
      length_line (codes "clear") (fields decimal (k ∷ [])),
      field_length decimal k [],
      length-decimal-le 4 k (omega arith) (omega arith) (omega arith),
    ))
    (λ e. omega arith)

-- with more than two levels the limit is at most 10
limit_more : (A : Arithmetic) → Lawful A → 3 ≤ A.s → A.limit ≤ 10
limit_more A L three = elim (cases_lt 10 A.limit) [
  | inl h ↦ absurd (omega (arith, L.few, pow-le-pow_left three A.limit, pow-le-pow_right {n = 3} (omega arith) h))
  | inr h ↦ h
]

module _ (A : Arithmetic) (L : Lawful A) (p : Content) (kept : Kept A p) where
  -- both lists are within the limit
  both_few : length p.defining + length p.block ≤ A.limit
  both_few = omega (arith, kept.few, length-append p.defining p.block)

  -- a count has at most 5 digits
  count_short : (j : ℕ) → length (decimal (count A (defined A p) j)) ≤ 5
  count_short j =
      let all : length (defined A p) ≤ 65536 = le_trans (generated_most A L p.factors p.defining A.limit (omega (arith, both_few))) L.few in
      let most = count_most A (defined A p) j in
      length-decimal-le 5 (count A (defined A p) j) (omega arith) (omega arith) (omega arith)

  -- the line of the resolution
  resolution_most : length (resolution_line A p) ≤ 20
  resolution_most =
      let fs = resolution_fields (resolution A p.factors (defined A p)) in
      omega (arith, length_line (codes "resolution") fs, first_most A (defined A p) count_short p.factors 1 (omega (arith, kept.high)))

  -- the line of the pattern
  pattern_most : length (pattern_line A p) ≤ 200
  pattern_most =
      let fs = fields decimal (pattern A p.factors (defined A p)) in
      omega (arith, length_line (codes "pattern") fs, counts_most A (defined A p) count_short p.factors 1, kept.high)

  module _ (m : ℕ) (words : (w : ℕ) → length (shown A p.factors w) ≤ m) where
    -- the lines of generators
    generators_most : (label : List ℕ) (good : Relation) (base further : List ℕ) → length (line label (fields (shown A p.factors) (generators A good p.factors base further))) ≤ length label + 1 + suc m * length further
    generators_most label good base further =
        let ws = generators A good p.factors base further in
        omega (
          arith,
          length_line label (fields (shown A p.factors) ws),
          fields_most (shown A p.factors) m words ws,
          mul-le-mul_left (suc m) (generators_length A L good p.factors base further),
        )

    -- all lines together
    page_most : length (page A p) ≤ 255 + suc m * length p.defining + suc m * length p.block + length (clear_line A p)
    page_most =
        let few = both_few in
        let limit = limit_small A L in
        omega (
          arith,
          page_length A p,
          head_most A.s p.factors (length p.defining) (length p.block) (omega (arith, levels_few A L)) (omega (arith, kept.high)) (omega arith) (omega arith),
          resolution_most,
          pattern_most,
          generators_most (codes "defining") (shortest A) [] p.defining,
          generators_most (codes "blocks") (least_aberration A) p.defining p.block,
        )

  -- the page has at most 1,024 bytes
  pub page_short : length (page A p) ≤ 1024
  page_short = elim (cases_Bool (eqb A.s 2)) [
    | inl e ↦
        omega (
          arith,
          both_few,
          limit_small A L,
          page_most 32 (shown_two A L (eqb-true A.s 2 e) p.factors kept.high),
          clear_most A p kept.high,
        )
    | inr e ↦
        let three : 3 ≤ A.s = omega (arith, eqb-false A.s 2 e, L.field.two_levels) in
        omega (
          arith,
          both_few,
          limit_more A L three,
          page_most 64 (shown_most A L p.factors kept.high),
          ap length (cond-false (eqb A.s 2) (line (codes "clear") (fields decimal (ones_in (clear_bytes p.factors p.defining) ∷ []))) [] e),
        )
  ]
