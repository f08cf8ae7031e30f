-- Clear pairs: no other word of one letter or two has the same least alias.
use Rattle.std.proofs.Common.{◌≡◌, ℕ, zero, suc, ◌+◌, ◌-◌, ◌*◌, ◌/◌, ◌%◌, ◌<◌, ◌≤◌, Bool, true, false, not, ◌&&◌, ◌||◌, eqb, ◌⊎◌, List, [], ◌∷◌, ◌++◌, map, length, get_or, take, drop, Decides, sym, refl, ap, ap₂, ◌∙◌, subst, inl, inr, arith, length-append, length-take, length-drop}
use Rattle.std.proofs.lemmas.List.{get_or-map, length-map, map-append, get_or-take, get_or-drop, take_all, append_assoc, append-nil}
use Rattle.std.proofs.lemmas.Grind.{same_number_lists}
use Rattle.std.proofs.lemmas.Bool.{cases_eq, cases_lt, cases_Bool, or_cases, or_left, or_right, and_parts, and_from, eqb-true, eqb-false, eq-eqb, ne_eqb, not-true, not_from_false, both_ways, cond-true, cond-false}
use Rattle.levels.specs.Arithmetic.{two}
use Rattle.levels.specs.Words.{word_length, code_sum}
use Rattle.levels.specs.Generated.{SameWords}
use Rattle.levels.specs.Basis.{Echelon, LeastAlias}
use Rattle.levels.specs.Alias.{alias_set}
use Rattle.levels.specs.Lawful.{lawful_two}
use Rattle.levels.proofs.Reduced.{space_at, alias_word, least_same}
use Rattle.levels.proofs.Multiplicity.{in_alias_set, in_alias_set_from}
use Rattle.levels.proofs.Places.{In}
use Rattle.levels.proofs.Ascending.{in_here, in_later, in_cons, in_none}
use Rattle.aliasing.specs.Clear.{pair, pairs, pairs_with, pairs_from, crowded, clear_byte, clear_bytes}
use Rattle.aliasing.specs.Short.{two_letters, LeastAliases, Settled, Stands, sum_at}
use Rattle.aliasing.specs.Buckets.{Alone, Tells, Told}
use Rattle.aliasing.proofs.Evens.{word_below}
use Rattle.aliasing.proofs.Factors.{factors_same, one_twice, pair_stands, sum_pair}
use Rattle.aliasing.proofs.Ladders.{alias-is-word}
use Rattle.aliasing.proofs.Shorts.{pairs_most}
use Rattle.aliasing.proofs.Sums.{pair_two, two_is, short_is, short_factors, least_two}

-- a word of one letter, or one of two other than p
abbrev Crowd : ℕ → ℕ → Type 0
Crowd p z = (word_length two z ≡ 1) ⊎ ((word_length two z ≡ 2) × (z ≡ p → ⊥))

-- the test of one word
abbrev crowds : ℕ → ℕ → Bool
crowds p z = eqb (word_length two z) 1 || (eqb (word_length two z) 2 && not (eqb z p))

-- what the test says
crowds_decide : (p z : ℕ) → Decides (crowds p z) (Crowd p z)
crowds_decide p z = (
  (λ t. elim (or_cases (eqb (word_length two z) 1) (eqb (word_length two z) 2 && not (eqb z p)) t) [
    | inl a ↦ inl (eqb-true (word_length two z) 1 a)
    | inr b ↦
        let q = and_parts (eqb (word_length two z) 2) (not (eqb z p)) b in
        inr (eqb-true (word_length two z) 2 q.0, eqb-false z p (not-true (eqb z p) q.1))
  ]),
  (λ c. elim c [
    | inl a ↦ or_left (eqb (word_length two z) 1) (eqb (word_length two z) 2 && not (eqb z p)) (eq-eqb (word_length two z) 1 a)
    | inr b ↦ or_right (eqb (word_length two z) 1) (eqb (word_length two z) 2 && not (eqb z p))
        (and_from (eqb (word_length two z) 2) (not (eqb z p)) (eq-eqb (word_length two z) 2 b.0) (not_from_false (eqb z p) (ne_eqb z p b.1)))
  ]),
)

-- a crowded set has such a word
crowded_from : (p : ℕ) (xs : List ℕ) → crowded p xs ≡ true → (z : ℕ) × In z xs × Crowd p z
crowded_from p [] t = absurd (both_ways false refl t)
crowded_from p (x ∷ xs) t = elim (or_cases (crowds p x) (crowded p xs) t) [
  | inl a ↦ (x, in_here x xs, (crowds_decide p x).0 a)
  | inr b ↦ let r = crowded_from p xs b in (r.0, in_later x r.0 xs r.1, r.2)
]

-- and a set with such a word is crowded
crowded_to : (p : ℕ) (xs : List ℕ) (z : ℕ) → In z xs → Crowd p z → crowded p xs ≡ true
crowded_to p [] z q c = absurd (in_none z q)
crowded_to p (x ∷ xs) z q c = elim (in_cons x z xs q) [
  | inl e ↦ or_left (crowds p x) (crowded p xs) ((crowds_decide p x).1 (subst (Crowd p) (sym e) c))
  | inr r ↦ or_right (crowds p x) (crowded p xs) (crowded_to p xs z r c)
]

-- the pairs of a factor with k others, one after the other
pairs_with_at : (i j k m : ℕ) → m < k → get_or (pairs_with i j k) m 0 ≡ pair i (j + m)
pairs_with_at i j zero m l = absurd (omega arith)
pairs_with_at i j (suc k) zero l = ap (pair i) (omega arith)
pairs_with_at i j (suc k) (suc m) l = pairs_with_at i (suc j) k m (omega arith) ∙ ap (pair i) (omega arith)

-- there are so many
pairs_with_length : (i j k : ℕ) → length (pairs_with i j k) ≡ k
pairs_with_length i j zero = refl
pairs_with_length i j (suc k) = ap suc (pairs_with_length i (suc j) k)

-- rows are pushed up to a factor, from 1: the bytes of the pairs of the others are left
abbrev pub Pushed : ℕ → List ℕ → ℕ → List ℕ → Type 0
Pushed n ws i bytes = bytes ++ map (clear_byte n ws) (pairs_from (i - 1) (n - (i - 1))) ≡ clear_bytes n ws

module _ (n : ℕ) (high : n ≤ 32) (ws rows ls : List ℕ) (e' : Echelon two n rows) (same : SameWords two n rows ws)
    (size : length ls ≡ n + 1) (least : LeastAliases n rows ls) where
  -- a least alias of one letter or two is its own
  pub settled : Settled ls
  settled p i j s l e =
      let a = p / 32 in
      let b = p % 32 + 1 in
      let ab : a < b = let q = s.0 in omega arith in
      let bn : b ≤ n = let q = s.1 in omega arith in
      let w = two_letters a b in
      let r = sum_at ls p in
      let hw = (short_is n high a b ab bn).0 in
      let la = least_two n high rows ls e' least a b ab bn s.1 in
      let below = word_below n r (alias_word two lawful_two n (space_at two lawful_two n w hw) rows w r hw la) in
      let jn : j ≤ n = elim (cases_lt n j) [ inl lt ↦ absurd (omega (arith, one_twice n j lt)) | inr le ↦ le ] in
      let lr = least_two n high rows ls e' least i j l jn (omega arith) in
      let same = (least_same two lawful_two n rows w (two_letters i j) r (code_sum two (get_or ls i 0) (get_or ls j 0)) hw (short_is n high i j l jn).0 la lr
      ).1 (la.alias.0, la.alias.1, e ∙ la.alias.2) in
      (omega arith, sum_pair ls i j l (omega arith) ∙ sym same)

  module _ (i j : ℕ) (low : 1 ≤ i) (l : i < j) (h : j ≤ n) where
    -- the word of two factors
    abbrev p : ℕ
    p = two_letters i j

    -- its place
    abbrev place : ℕ
    place = 32 * i + j - 1

    -- and its least alias
    least_here : LeastAlias two n rows p (code_sum two (get_or ls i 0) (get_or ls j 0))
    least_here = least_two n high rows ls e' least i j l h (omega arith)

    -- a word with the same least alias has the same place, or another word is in the alias set
    same_place : (a b : ℕ) → a < b → two_letters a b ≡ p → 32 * a + b - 1 ≡ place
    same_place a b m s = let q = factors_same a b i j m l s in omega (arith, q.0, q.1)

    -- a pair alone with its least alias is clear
    alone-clear : Alone ls place → crowded p (alias_set two n ws p) ≡ true → ⊥
    alone-clear alone crowd =
        let hp = (two_is n high i j low l h).0 in
        let c = crowded_from p (alias_set two n ws p) crowd in
        let z = c.0 in
        let x = in_alias_set_from two lawful_two n ws p z c.1 in
        let hz = alias-is-word two lawful_two n p hp ws z c.1 in
        let s = short_factors n high z hz (elim c.2 [ inl y ↦ inl y | inr y ↦ inr y.0 ]) in
        let a = s.0 in
        let b = s.1 in
        let ab = s.2 in
        let bn = s.3 in
        let hw = (short_is n high a b ab bn).0 in
        let r = (least_same two lawful_two n rows p (two_letters a b) (code_sum two (get_or ls i 0) (get_or ls j 0)) (code_sum two (get_or ls a 0) (get_or ls b 0)) hp hw
        least_here (least_two n high rows ls e' least a b ab bn (omega arith))).1 (x.0, (same x.0).1 x.1, s.4 ∙ x.2) in
        let there = alone (32 * a + b - 1) (pair_stands ls a b ab (omega arith) (omega arith))
        (sum_pair ls a b ab (omega arith) ∙ sym r ∙ sym (sum_pair ls i j l (omega arith))) in
        let fa : a ≡ i = omega arith in
        let fb : b ≡ j = omega arith in
        let is : z ≡ p = sym s.4 ∙ ap₂ two_letters fa fb in
        elim c.2 [
          | inl y ↦ let t = ap (word_length two) is in let w = (two_is n high i j low l h).1 in omega arith
          | inr y ↦ y.1 is
        ]

    -- and a clear pair is alone
    clear-alone : crowded p (alias_set two n ws p) ≡ false → Alone ls place
    clear-alone clear k s r =
        let a = k / 32 in
        let b = k % 32 + 1 in
        let ab : a < b = let q = s.0 in omega arith in
        let bn : b ≤ n = let q = s.1 in omega arith in
        let z = two_letters a b in
        let hp = (two_is n high i j low l h).0 in
        let hz = short_is n high a b ab bn in
        let q = (least_same two lawful_two n rows p z (code_sum two (get_or ls i 0) (get_or ls j 0)) (sum_at ls k) hp hz.0
        least_here (least_two n high rows ls e' least a b ab bn s.1)).0 (sym (sum_pair ls i j l (omega arith)) ∙ sym r) in
        let member : In z (alias_set two n ws p) = subst (λ w. In w (alias_set two n ws p)) (sym q.2) (in_alias_set two lawful_two n ws p q.0 ((same q.0).0 q.1)) in
        elim (cases_eq z p) [
          | inl s ↦ let t = same_place a b ab s in omega arith
          | inr ne ↦ absurd (both_ways (crowded p (alias_set two n ws p)) clear
              (crowded_to p (alias_set two n ws p) z member (elim hz.1 [ inl y ↦ inl y | inr y ↦ inr (y, ne) ])))
        ]

    -- so a byte that tells of it is its byte
    pub told-byte : (byte : ℕ) → Tells ls place byte → byte ≡ clear_byte n ws (pair (i - 1) (j - 1))
    told-byte byte t =
        let test = crowded p (alias_set two n ws p) in
        elim (cases_Bool test) [
          | inl c ↦ elim t [
            | inl y ↦ absurd (alone-clear y.1 c)
            | inr y ↦ y.0 ∙ sym (cond-true {A = ℕ} test 0 1 c)
          ]
          | inr c ↦ elim t [
            | inl y ↦ y.0 ∙ sym (cond-false {A = ℕ} test 0 1 c)
            | inr y ↦ absurd (y.1 (clear-alone c))
          ]
        ]
        ∙ ap (clear_byte n ws) (pair_two n high i j low l)

  module _ (alone : List ℕ) (room : length alone ≡ 1024) (told : Told ls alone) (i : ℕ) (low : 1 ≤ i) (l : i < n) where
    -- the bytes of the pairs of a factor with each later one
    row-bytes : take (32 * i + n - 33 * i) (drop (33 * i) alone) ≡ map (clear_byte n ws) (pairs_with (i - 1) i (n - i))
    row-bytes =
        let k = 32 * i + n - 33 * i in
        let many : k ≡ n - i = omega arith in
        let ps = pairs_with (i - 1) i (n - i) in
        let row = take k (drop (33 * i) alone) in
        let count = pairs_with_length (i - 1) i (n - i) in
        let long : length row ≡ n - i = omega (arith, length-take k (drop (33 * i) alone), length-drop (33 * i) alone) in
        same_number_lists row (map (clear_byte n ws) ps) (long ∙ sym (length-map ps (clear_byte n ws) ∙ count))
        (λ m lm.
        let lt : m < n - i = omega arith in
        let j = i + m + 1 in
        let at : 32 * i + j - 1 ≡ 33 * i + m = omega arith in
        let stands : Stands ls (32 * i + j - 1) = pair_stands ls i j (omega arith) (omega arith) (omega arith) in
        get_or-take k (drop (33 * i) alone) m 0 (omega arith)
        ∙ get_or-drop (33 * i) alone m 0
        ∙ ap (λ q. get_or alone q 0) (sym at)
        ∙ told-byte i j low (omega arith) (omega arith) (get_or alone (32 * i + j - 1) 0) (told (32 * i + j - 1) stands)
        ∙ ap (λ q. clear_byte n ws (pair (i - 1) q)) (let e : j - 1 ≡ i + m = omega arith in e)
        ∙ ap (clear_byte n ws) (sym (pairs_with_at (i - 1) i (n - i) m lt))
        ∙ sym (get_or-map (clear_byte n ws) ps m 0 0 (omega arith)))

    -- one row more
    pub pushed_more : (old new : List ℕ) → new ≡ take 496 (old ++ take (32 * i + n - 33 * i) (drop (33 * i) alone)) → Pushed n ws i old → Pushed n ws (i + 1) new
    pushed_more old new is h =
        let f = clear_byte n ws in
        let row = map f (pairs_with (i - 1) i (n - i)) in
        let rest = map f (pairs_from i (n - i)) in
        let count : n - (i - 1) ≡ suc (n - i) = omega arith in
        let next : suc (i - 1) ≡ i = omega arith in
        let split : map f (pairs_from (i - 1) (n - (i - 1))) ≡ row ++ rest =
        ap (λ k. map f (pairs_from (i - 1) k)) count
        ∙ ap (λ j. map f (pairs_with (i - 1) j (n - i) ++ pairs_from j (n - i))) next
        ∙ map-append f (pairs_with (i - 1) i (n - i)) (pairs_from i (n - i)) in
        let all : (old ++ row) ++ rest ≡ clear_bytes n ws = append_assoc old row rest ∙ ap (λ xs. old ++ xs) (sym split) ∙ h in
        let few : length (old ++ row) ≤ 496 = omega (arith, ap length all, length-append (old ++ row) rest, length-map (pairs n) f, pairs_most n high) in
        let whole : new ≡ old ++ row = is ∙ ap (λ xs. take 496 (old ++ xs)) row-bytes ∙ take_all 496 (old ++ row) few in
        let same_rest : i + 1 - 1 ≡ i = omega arith in
        ap (λ j. new ++ map f (pairs_from j (n - j))) same_rest ∙ ap (λ xs. xs ++ rest) whole ∙ all

-- no pairs are left
pub pushed_all : (n : ℕ) (ws : List ℕ) (i : ℕ) (bytes : List ℕ) → n ≤ i → Pushed n ws i bytes → bytes ≡ clear_bytes n ws
pushed_all n ws i bytes l h =
    let f = clear_byte n ws in
    let none : (a k : ℕ) → k ≤ 1 → map f (pairs_from a k) ≡ [] = left f in
    sym (append-nil bytes) ∙ ap (λ xs. bytes ++ xs) (sym (none (i - 1) (n - (i - 1)) (omega arith))) ∙ h
  where
    left : (f : ℕ → ℕ) (a k : ℕ) → k ≤ 1 → map f (pairs_from a k) ≡ []
    left f a zero m = refl
    left f a (suc zero) m = refl
    left f a (suc (suc k)) m = absurd (omega arith)
