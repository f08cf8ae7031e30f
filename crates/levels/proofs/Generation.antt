-- What a list of words generates, exchange and independence, for words of n factors.
use Rattle.std.proofs.Common.{◌≡◌, ℕ, ◌<◌, ◌≤◌, false, ◌&&◌, eqb, ltb, List, ◌∷◌, ◌++◌, map, length, get_or, take, sym, refl, ◌∙◌}
use Rattle.std.proofs.lemmas.Bool.{and_left, and_right, cond-false, le-ltb, eq-eqb, eqb-true}
use Rattle.levels.specs.Arithmetic.{Arithmetic, Lawful}
use Rattle.levels.specs.Words.{legal, word_sum, word_multiple, code, digits, zip_with}
use Rattle.levels.specs.Space.{Word, VectorSpace}
use Rattle.levels.specs.Generated.{combination, Generates, Independent, combinations}
use Rattle.levels.proofs.Linear.{Space, gen_word, gen_zero, gen_tail, gen_head, gen_place, gen_sum, gen_multiple, gen_trans, gen_without, gen_under, gen_front, gen_inside, gen_right, gen_left, ind_bound, ind_front, ind_tail, ind_left, ind_from_before, ind_before}
use Rattle.levels.proofs.Counting.{all_gen, all_distinct}
use Rattle.levels.proofs.Places.{In, Distinct}

-- the multiple by what is no level is 0
pub multiple_no_level : (A : Arithmetic) (n c w : ℕ) → A.s ≤ c → word_multiple A n c w ≡ 0
multiple_no_level A n c w h =
    cond-false (ltb c A.s && legal A n w) (code A (map (A.times c) (digits A n w))) 0 (and_left (ltb c A.s) (legal A n w) (le-ltb c A.s h))

-- the multiple of what is no word is 0
pub multiple_no_word : (A : Arithmetic) (n c w : ℕ) → legal A n w ≡ false → word_multiple A n c w ≡ 0
multiple_no_word A n c w h =
    cond-false (ltb c A.s && legal A n w) (code A (map (A.times c) (digits A n w))) 0 (and_right (ltb c A.s) (legal A n w) h)

-- the sum with what is no word is 0
pub sum_no_word : (A : Arithmetic) (n a b : ℕ) → legal A n a ≡ false → word_sum A n a b ≡ 0
sum_no_word A n a b h =
    cond-false (legal A n a && legal A n b) (code A (zip_with A.plus (digits A n a) (digits A n b))) 0 (and_left (legal A n a) (legal A n b) h)

-- the words of n factors
abbrev pub space : (A : Arithmetic) → Lawful A → (n : ℕ) → VectorSpace A n → Space
space A L n V = record {
  s = A.s;
  plus = A.plus;
  times = A.times;
  levels = L.field;
  word = legal A n;
  add = word_sum A n;
  mul = word_multiple A n;
  combine = combination A n;
  combine_nil = λ cs. refl;
  combine_none = λ w ws. refl;
  combine_more = λ c cs w ws. refl;
  no_level = multiple_no_level A n;
  no_word = multiple_no_word A n;
  zero_word = V.zero_word;
  sum_word = V.sum_word;
  sum_comm = V.sum_comm;
  sum_assoc = V.sum_assoc;
  sum_zero = V.sum_zero;
  opposite = V.opposite;
  multiple_word = V.multiple_word;
  multiple_zero = V.multiple_zero;
  multiple_one = V.multiple_one;
  multiple_times = V.multiple_times;
  multiple_plus = V.multiple_plus;
  multiple_sum = V.multiple_sum;
}

-- where no code is legal, every sum and every multiple is 0: the space of the word 0 alone
abbrev pub space_of_none : (A : Arithmetic) → Lawful A → (n : ℕ) → ((w : ℕ) → legal A n w ≡ false) → Space
space_of_none A L n none =
    let sum : (a b : ℕ) → word_sum A n a b ≡ 0 = λ a b. sum_no_word A n a b (none a) in
    let multiple : (c a : ℕ) → word_multiple A n c a ≡ 0 = λ c a. multiple_no_word A n c a (none a) in
    record {
      s = A.s;
      plus = A.plus;
      times = A.times;
      levels = L.field;
      word = λ w. eqb w 0;
      add = word_sum A n;
      mul = word_multiple A n;
      combine = combination A n;
      combine_nil = λ cs. refl;
      combine_none = λ w ws. refl;
      combine_more = λ c cs w ws. refl;
      no_level = λ c w h. multiple c w;
      no_word = λ c w h. multiple c w;
      zero_word = refl;
      sum_word = λ a b wa wb. eq-eqb (word_sum A n a b) 0 (sum a b);
      sum_comm = λ a b wa wb. sum a b ∙ sym (sum b a);
      sum_assoc = λ a b c wa wb wc. sum (word_sum A n a b) c ∙ sym (sum a (word_sum A n b c));
      sum_zero = λ a wa. sum 0 a ∙ sym (eqb-true a 0 wa);
      opposite = λ a wa. (0, refl, sum a 0);
      multiple_word = λ c a lc wa. eq-eqb (word_multiple A n c a) 0 (multiple c a);
      multiple_zero = λ a wa. multiple 0 a;
      multiple_one = λ a wa. multiple 1 a ∙ sym (eqb-true a 0 wa);
      multiple_times = λ c d a lc ld wa. multiple c (word_multiple A n d a) ∙ sym (multiple (A.times c d) a);
      multiple_plus = λ c d a lc ld wa. multiple (A.plus c d) a ∙ sym (sum (word_multiple A n c a) (word_multiple A n d a));
      multiple_sum = λ c a b lc wa wb. multiple c (word_sum A n a b) ∙ sym (sum (word_multiple A n c a) (word_multiple A n c b));
    }

module _ (A : Arithmetic) (L : Lawful A) (n : ℕ) (V : VectorSpace A n) where
  -- every generated code is a word
  pub generates_word : (ws : List ℕ) (w : ℕ) → Generates A n ws w → Word A n w
  generates_word = gen_word (space A L n V)

  -- every list generates 0
  pub generates_zero : (ws : List ℕ) → Generates A n ws 0
  generates_zero = gen_zero (space A L n V)

  -- a list generates its first word, if legal
  pub generates_head : (w : ℕ) (ws : List ℕ) → Word A n w → Generates A n (w ∷ ws) w
  generates_head = gen_head (space A L n V)

  -- a list generates the word at any place, if legal
  pub generates_place : (ws : List ℕ) (i : ℕ) → Word A n (get_or ws i 0) → Generates A n ws (get_or ws i 0)
  generates_place = gen_place (space A L n V)

  -- a list generates a legal word in its middle
  pub generates_member : (us : List ℕ) (w : ℕ) (vs : List ℕ) → Word A n w → Generates A n (us ++ w ∷ vs) w
  generates_member us w vs h = gen_right (space A L n V) us (w ∷ vs) w (generates_head w vs h)

  -- sums of generated words are generated
  pub generates_sum : (ws : List ℕ) (a b : ℕ) → Generates A n ws a → Generates A n ws b → Generates A n ws (word_sum A n a b)
  generates_sum = gen_sum (space A L n V)

  -- multiples of generated words are generated
  pub generates_multiple : (ws : List ℕ) (c a : ℕ) → Generates A n ws a → Generates A n ws (word_multiple A n c a)
  generates_multiple = gen_multiple (space A L n V)

  -- what us generates, vs generates that generates every legal word of us
  pub generates_trans : (us vs : List ℕ) (w : ℕ) → ((i : ℕ) → Word A n (get_or us i 0) → Generates A n vs (get_or us i 0)) → Generates A n us w → Generates A n vs w
  generates_trans = gen_trans (space A L n V)

  -- one more word in front takes nothing away
  pub generates_tail : (x : ℕ) (ws : List ℕ) (w : ℕ) → Generates A n ws w → Generates A n (x ∷ ws) w
  generates_tail = gen_tail (space A L n V)

  -- words added behind take nothing away
  pub generates_left : (us vs : List ℕ) (w : ℕ) → Generates A n us w → Generates A n (us ++ vs) w
  generates_left = gen_left (space A L n V)

  -- one more word in front on both sides
  pub generates_under : (x : ℕ) (us vs : List ℕ) → ((w : ℕ) → Generates A n us w → Generates A n vs w) → (w : ℕ) → Generates A n (x ∷ us) w → Generates A n (x ∷ vs) w
  generates_under = gen_under (space A L n V)

  -- a first word that the others generate adds nothing
  pub generates_without : (x : ℕ) (ws : List ℕ) (w : ℕ) → Generates A n ws x → Generates A n (x ∷ ws) w → Generates A n ws w
  generates_without = gen_without (space A L n V)

  -- a word of the list may move to the front
  pub generates_front : (us : List ℕ) (x : ℕ) (vs : List ℕ) (w : ℕ) → Generates A n (us ++ x ∷ vs) w → Generates A n (x ∷ us ++ vs) w
  generates_front = gen_front (space A L n V)

  -- the first word may move into the list
  pub generates_inside : (us : List ℕ) (x : ℕ) (vs : List ℕ) (w : ℕ) → Generates A n (x ∷ us ++ vs) w → Generates A n (us ++ x ∷ vs) w
  generates_inside = gen_inside (space A L n V)

  -- independent words are no more than words that generate them
  pub independent_bound : (us vs : List ℕ) → Independent A n us → ((i : ℕ) → i < length us → Generates A n vs (get_or us i 0)) → length us ≤ length vs
  independent_bound = ind_bound (space A L n V)

  -- a list is independent where no word is generated by the words before it
  pub independent_from_before : (us : List ℕ) → ((i : ℕ) → i < length us → Generates A n (take i us) (get_or us i 0) → ⊥) → Independent A n us
  independent_from_before = ind_from_before (space A L n V)

  -- the words before a word of an independent list do not generate it
  pub independent_before : (us : List ℕ) → Independent A n us → (i : ℕ) → i < length us → Generates A n (take i us) (get_or us i 0) → ⊥
  independent_before = ind_before (space A L n V)

  -- one more word in front that the others do not generate
  pub independent_front : (y : ℕ) (ws : List ℕ) → Independent A n ws → (Generates A n ws y → ⊥) → Independent A n (y ∷ ws)
  independent_front = ind_front (space A L n V)

  -- without its first word an independent list is independent
  pub independent_tail : (w : ℕ) (ws : List ℕ) → Independent A n (w ∷ ws) → Independent A n ws
  independent_tail = ind_tail (space A L n V)

  -- a front of an independent list is independent
  pub independent_left : (us vs : List ℕ) → Independent A n (us ++ vs) → Independent A n us
  independent_left = ind_left (space A L n V)

  -- each sum of multiples is generated
  pub combination_generated : (ws : List ℕ) (w : ℕ) → In w (combinations A n ws) → Generates A n ws w
  combination_generated = all_gen (space A L n V) (combinations A n) refl (λ w ws. refl)

  -- no two are equal, of independent words
  pub combinations_distinct : (ws : List ℕ) → Independent A n ws → ((i : ℕ) → i < length ws → Word A n (get_or ws i 0)) → Distinct (combinations A n ws)
  combinations_distinct = all_distinct (space A L n V) (combinations A n) refl (λ w ws. refl)
