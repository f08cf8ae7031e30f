-- Whether one of some words is shorter than a bound, list by list.
use Rattle.std.proofs.Common.{◌≡◌, ℕ, zero, suc, ◌+◌, ◌<◌, ◌≤◌, ◌-◌, true, false, ◌||◌, nat_lt, List, [], ◌∷◌, ◌++◌, map, length, get_or, take, drop, sym, ap, ◌∙◌, subst, arith}
use Rattle.std.proofs.Math.Bool.{or-true}
use Rattle.std.proofs.lemmas.Bool.{lt-ltb, le-ltb}
use Rattle.std.proofs.lemmas.List.{map_more, take_all, take_rest}
use Rattle.std.proofs.lemmas.List.Folds.{list_any-append}
use Rattle.levels.specs.Arithmetic.{Arithmetic, Lawful}
use Rattle.levels.specs.Words.{word_sum, word_multiple, word_length, code_sum}
use Rattle.levels.specs.Space.{Word, AllWords}
use Rattle.levels.specs.Alias.{any_shorter, multiples_below}
use Rattle.levels.proofs.Lengths.{sum_code}
use Rattle.levels.proofs.Leaves.{one_level_more}

-- a list with a first word is that word and the others
pub words_head : (ws : List ℕ) → 1 ≤ length ws → get_or ws 0 0 ∷ take (length ws - 1) (drop 1 ws) ≡ ws
words_head [] l = absurd (omega arith)
words_head (w ∷ ws) l = ap (λ (us : List ℕ). w ∷ us) (take_rest (w ∷ ws) 1)

module _ (A : Arithmetic) (bound : ℕ) where
  -- one of two lists
  appended : (xs ys : List ℕ) → any_shorter A bound (xs ++ ys) ≡ (any_shorter A bound xs || any_shorter A bound ys)
  appended xs ys = list_any-append (λ w. nat_lt (word_length A w) bound) xs ys

  -- one of the first list
  first_shorter : (xs ys : List ℕ) → any_shorter A bound xs ≡ true → any_shorter A bound (xs ++ ys) ≡ true
  first_shorter xs ys t = appended xs ys ∙ ap (λ b. b || any_shorter A bound ys) t

  -- one of the second list
  second_shorter : (xs ys : List ℕ) → any_shorter A bound ys ≡ true → any_shorter A bound (xs ++ ys) ≡ true
  second_shorter xs ys t = appended xs ys ∙ ap (λ b. any_shorter A bound xs || b) t ∙ or-true (any_shorter A bound xs)

  -- none of either
  none_shorter : (xs ys : List ℕ) → any_shorter A bound xs ≡ false → any_shorter A bound ys ≡ false → any_shorter A bound (xs ++ ys) ≡ false
  none_shorter xs ys f h = appended xs ys ∙ ap (λ b. b || any_shorter A bound ys) f ∙ h

  module _ (L : Lawful A) (n start : ℕ) (ws : Word A n start) where
    -- a start plus the leaves below a place
    abbrev pub sums_below : List ℕ → ℕ → List ℕ
    sums_below leaves i = map (word_sum A n start) (take i leaves)

    module _ (leaves : List ℕ) (words : AllWords A n leaves) (i sum : ℕ) (l : i < length leaves) (is : sum ≡ code_sum A start (get_or leaves i 0)) where
      one_more : sums_below leaves (i + 1) ≡ sums_below leaves i ++ sum ∷ []
      one_more = map_more (word_sum A n start) leaves i 0 l ∙ ap (λ x. sums_below leaves i ++ x ∷ []) (sym (is ∙ sym (sum_code A L n start (get_or leaves i 0) ws (words i l))))

      -- the next is not shorter
      pub leaf_not_shorter : bound ≤ word_length A sum → any_shorter A bound (sums_below leaves i) ≡ false → any_shorter A bound (sums_below leaves (i + 1)) ≡ false
      leaf_not_shorter long f =
          ap (any_shorter A bound) one_more
          ∙ none_shorter (sums_below leaves i) (sum ∷ []) f (ap (λ b. b || false) (le-ltb (word_length A sum) bound long))

    -- leaves more do not matter once one is shorter
    leaves_kept : (leaves : List ℕ) → AllWords A n leaves → (i k : ℕ) → i + k ≤ length leaves → any_shorter A bound (sums_below leaves i) ≡ true → any_shorter A bound (sums_below leaves (i + k)) ≡ true
    leaves_kept leaves words i zero l t = let e : i ≡ i + 0 = omega arith in subst (λ j. any_shorter A bound (sums_below leaves j) ≡ true) e t
    leaves_kept leaves words i (suc k) l t =
        let e : i + k + 1 ≡ i + suc k = omega arith in
        let step = map_more (word_sum A n start) leaves (i + k) 0 (omega arith) in
        subst (λ j. any_shorter A bound (sums_below leaves j) ≡ true) e
        (ap (any_shorter A bound) step ∙ first_shorter (sums_below leaves (i + k)) (word_sum A n start (get_or leaves (i + k) 0) ∷ []) (leaves_kept leaves words i k (omega arith) t))

    -- a leaf makes a shorter sum
    pub leaf_shorter : (leaves : List ℕ) → AllWords A n leaves → (i sum : ℕ) → i < length leaves → sum ≡ code_sum A start (get_or leaves i 0) → word_length A sum < bound → any_shorter A bound (map (word_sum A n start) leaves) ≡ true
    leaf_shorter leaves words i sum l is short =
        let here = ap (any_shorter A bound) (one_more leaves words i sum l is) ∙ second_shorter (sums_below leaves i) (sum ∷ []) (ap (λ b. b || false) (lt-ltb (word_length A sum) bound short)) in
        let rest : (k : ℕ) × (i + 1 + k ≡ length leaves) = (length leaves - (i + 1), omega arith) in
        ap (λ us. any_shorter A bound (map (word_sum A n start) us)) (sym (take_all (length leaves) leaves (omega arith)) ∙ ap (λ j. take j leaves) (sym rest.1))
        ∙ leaves_kept leaves words (i + 1) rest.0 (omega (arith, rest.1)) here

    module _ (word : ℕ) (xs : List ℕ) (words : AllWords A n xs) where
      -- a start plus a list plus multiples by levels below a level
      abbrev pub sums_by : ℕ → List ℕ
      sums_by k = map (word_sum A n start) (multiples_below A n k word xs)

      -- none by the next level either
      pub level_not_shorter : (k sum : ℕ) → sum ≡ word_sum A n start (word_multiple A n k word) → any_shorter A bound (sums_by k) ≡ false → any_shorter A bound (map (word_sum A n sum) xs) ≡ false → any_shorter A bound (sums_by (k + 1)) ≡ false
      level_not_shorter k sum is f h =
          let e : suc k ≡ k + 1 = omega arith in
          ap (λ j. any_shorter A bound (sums_by j)) (sym e)
          ∙ ap (any_shorter A bound) (one_level_more A L n start k word xs ws words)
          ∙ none_shorter (sums_by k) (map (word_sum A n (word_sum A n start (word_multiple A n k word))) xs) f (ap (λ x. any_shorter A bound (map (word_sum A n x) xs)) (sym is) ∙ h)

      -- one by the next level
      pub level_shorter : (k sum : ℕ) → sum ≡ word_sum A n start (word_multiple A n k word) → any_shorter A bound (map (word_sum A n sum) xs) ≡ true → any_shorter A bound (sums_by (suc k)) ≡ true
      level_shorter k sum is t =
          ap (any_shorter A bound) (one_level_more A L n start k word xs ws words)
          ∙ second_shorter (sums_by k) (map (word_sum A n (word_sum A n start (word_multiple A n k word))) xs) (ap (λ x. any_shorter A bound (map (word_sum A n x) xs)) (sym is) ∙ t)

      -- levels more do not matter once one is shorter
      pub levels_kept : (k j : ℕ) → any_shorter A bound (sums_by k) ≡ true → any_shorter A bound (sums_by (j + k)) ≡ true
      levels_kept k zero t = let e : k ≡ 0 + k = omega arith in subst (λ i. any_shorter A bound (sums_by i) ≡ true) e t
      levels_kept k (suc j) t =
          let e : suc (j + k) ≡ suc j + k = omega arith in
          subst (λ i. any_shorter A bound (sums_by i) ≡ true) e
          (ap (any_shorter A bound) (one_level_more A L n start (j + k) word xs ws words)
          ∙ first_shorter (sums_by (j + k)) (map (word_sum A n (word_sum A n start (word_multiple A n (j + k) word))) xs) (levels_kept k j t))
