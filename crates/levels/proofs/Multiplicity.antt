-- Every generated word stands equally often among all sums of multiples; the list of generated words, and alias sets.
use Rattle.std.proofs.Common.{◌≡◌, ℕ, ◌*◌, ◌<◌, Bool, eqb, List, [], ◌∷◌, map, sym, refl, ap, ◌∙◌, subst, inl, inr, mul-pos, arith}
use Rattle.std.proofs.lemmas.Bool.{cases_Bool}
use Rattle.std.proofs.lemmas.Bool.Decides.{same_from_decides, Decides-eqb, Decides-like}
use Rattle.levels.specs.Arithmetic.{Arithmetic, Lawful}
use Rattle.levels.specs.Words.{word_sum, word_length}
use Rattle.levels.specs.Space.{Word}
use Rattle.levels.specs.Generated.{Generates, SameWords, combinations, generated, each_below, ascending, Ascends}
use Rattle.levels.specs.Alias.{how_many, of_length, aliases, alias_set, repeats}
use Rattle.levels.proofs.Digits.{word_legal}
use Rattle.levels.proofs.Space.{vector_space}
use Rattle.levels.proofs.Lengths.{zero_length, length_zero}
use Rattle.levels.proofs.Linear.{Space, Is, Gen, gen_nil, gen_zero, gen_word, gen_sum, gen_split, gen_multiple, mul_word, mul_plus, mul_by_zero, level_zero}
use Rattle.levels.proofs.Counting.{all_gen, gen_or_not, cancel, clash}
use Rattle.levels.proofs.Generation.{space, space_of_none}
use Rattle.levels.proofs.Any.{in_range_or_none, none_generates, any_combination, any_generated, any_zero}
use Rattle.levels.proofs.Places.{In, in_map, in_map_from}
use Rattle.levels.proofs.Sets.{generated_same}
use Rattle.levels.proofs.Ascending.{in_ascending, in_ascending_from, ascending_ascends, ascending_same, how_many_each, how_many_one, how_many_absent, how_many_same, how_many_moved, how_many_times}

module _ (S : Space) (all : List ℕ → List ℕ) (all_nil : all [] ≡ 0 ∷ []) (all_more : (w : ℕ) (ws : List ℕ) → all (w ∷ ws) ≡ each_below S.s (λ c. map (S.add (S.mul c w)) (all ws))) where
  -- adding one word to all sums moves what is counted along
  moved : (ws : List ℕ) (d x : ℕ) → Is S d → Is S x → how_many (eqb (S.add d x)) (map (S.add d) (all ws)) ≡ how_many (eqb x) (all ws)
  moved ws d x wd wx =
      how_many_moved (S.add d) x (all ws)
      (λ y p. cancel S all all_nil all_more d x y wd wx (gen_word S ws y (all_gen S all all_nil all_more ws y p)))

  -- what is generated, less a multiple that is generated too
  less : (ws : List ℕ) (c w x : ℕ) → c < S.s → Gen S ws x → ((k : ℕ) → Gen S ws (S.mul k w)) → (b : ℕ) × Gen S ws b × (S.add (S.mul c w) b ≡ x)
  less ws c w x lc gx gw =
      let o = S.levels.opposite c lc in
      let k = o.0 in
      let wx = gen_word S ws x gx in (
        S.add (S.mul k w) x,
        gen_sum S ws (S.mul k w) x (gw k) gx,
        cc (S.sum_assoc (S.mul c w) (S.mul k w) x (mul_word S c w) (mul_word S k w) wx, mul_plus S c k w lc o.1, o.2, mul_by_zero S w, S.sum_zero x wx),
      )

  -- each word that a list generates stands m times among its sums of multiples
  abbrev Often : List ℕ → ℕ → Type 0
  Often ws m = (x : ℕ) → Gen S ws x → how_many (eqb x) (all ws) ≡ m

  -- one more word whose multiples the others generate: s times as often
  often_known : (w : ℕ) (ws : List ℕ) (m : ℕ) → ((k : ℕ) → Gen S ws (S.mul k w)) → Often ws m → Often (w ∷ ws) (S.s * m)
  often_known w ws m gw h x g =
      let p = gen_split S w ws x g in
      let gx : Gen S ws x = subst (Gen S ws) (sym p.4) (gen_sum S ws (S.mul p.0 w) p.1 (gw p.0) p.3) in
      ap (how_many (eqb x)) (all_more w ws)
      ∙ how_many_each (eqb x) m S.s (λ c. map (S.add (S.mul c w)) (all ws))
      (λ c lc. let b = less ws c w x lc gx gw in
      ap (λ v. how_many (eqb v) (map (S.add (S.mul c w)) (all ws))) (sym b.2)
      ∙ moved ws (S.mul c w) b.0 (mul_word S c w) (gen_word S ws b.0 b.1) ∙ h b.0 b.1)

  -- one more word that the others do not generate: as often
  often_fresh : (w : ℕ) (ws : List ℕ) (m : ℕ) → Is S w → (Gen S ws w → ⊥) → Often ws m → Often (w ∷ ws) m
  often_fresh w ws m ww new h x g =
      let p = gen_split S w ws x g in
      let d = p.0 in
      let b = p.1 in
      ap (how_many (eqb x)) (all_more w ws)
      ∙ how_many_one (eqb x) S.s d (λ c. map (S.add (S.mul c w)) (all ws)) p.2
      (λ c lc ne. how_many_absent x (map (S.add (S.mul c w)) (all ws))
      (λ q. let r = in_map_from (S.add (S.mul c w)) (all ws) x q in
      new (clash S all all_nil all_more ws w c d r.0 b ww lc p.2 (all_gen S all all_nil all_more ws r.0 r.1) p.3 (sym r.2 ∙ p.4) ne)))
      ∙ ap (λ v. how_many (eqb v) (map (S.add (S.mul d w)) (all ws))) p.4
      ∙ moved ws (S.mul d w) b (mul_word S d w) (gen_word S ws b p.3) ∙ h b p.3

  -- every generated word stands equally often, and at least once, among all sums of multiples
  pub all_often : (ws : List ℕ) → (m : ℕ) × (0 < m) × Often ws m
  all_often [] = (1, omega arith, λ x g. rw (all_nil, gen_nil S x g) refl)
  all_often (w ∷ ws) =
      let r = all_often ws in
      let m = r.0 in
      let known : ((k : ℕ) → Gen S ws (S.mul k w)) → (k : ℕ) × (0 < k) × Often (w ∷ ws) k =
      λ gw. (S.s * m, mul-pos (level_zero S) r.1, often_known w ws m gw r.2) in
      elim (cases_Bool (S.word w)) [
        | inl t ↦ elim (gen_or_not S all all_nil all_more ws w) [
          | inl g ↦ known (λ k. gen_multiple S ws k w g)
          | inr n ↦ (m, r.1, often_fresh w ws m t n r.2)
        ]
        | inr f ↦ known (λ k. subst (Gen S ws) (sym (S.no_word k w f)) (gen_zero S ws))
      ]

module _ (A : Arithmetic) (L : Lawful A) (n : ℕ) where
  -- every generated word stands equally often, and at least once, among all sums of multiples
  any_often : (ws : List ℕ) → (m : ℕ) × (0 < m) × ((x : ℕ) → Generates A n ws x → how_many (eqb x) (combinations A n ws) ≡ m)
  any_often = elim (in_range_or_none A n) [
    | inl r ↦ all_often (space A L n (vector_space A L n r.0 r.1)) (combinations A n) refl (λ w ws. refl)
    | inr z ↦ all_often (space_of_none A L n z) (combinations A n) refl (λ w ws. refl)
  ]

  -- every generated word stands as often among the sums of multiples as code 0 does
  pub generated_repeats : (ws : List ℕ) (x : ℕ) → Generates A n ws x → how_many (eqb x) (combinations A n ws) ≡ repeats A n ws
  generated_repeats ws x g = let r = any_often ws in r.2 x g ∙ sym (r.2 0 (any_zero A L n (vector_space A L n) ws))

  -- that is at least once
  pub repeats_positive : (ws : List ℕ) → 0 < repeats A n ws
  repeats_positive ws = let r = any_often ws in let h = r.1 in omega (arith, r.2 0 (any_zero A L n (vector_space A L n) ws))

  -- a generated word of length 0 is code 0
  pub generated_length_zero : (ws : List ℕ) (w : ℕ) → Generates A n ws w → word_length A w ≡ 0 → w ≡ 0
  generated_length_zero ws w g e = elim (in_range_or_none A n) [
    | inl r ↦ length_zero A n w (gen_word (space A L n (vector_space A L n r.0 r.1)) ws w g) e
    | inr z ↦ (none_generates A L n z ws w).0 g
  ]

  -- code 0 stands as often as there are sums of multiples of length 0
  pub repeats_length : (ws : List ℕ) → repeats A n ws ≡ of_length A 0 (combinations A n ws)
  repeats_length ws =
      how_many_same (eqb 0) (λ w. eqb (word_length A w) 0) (combinations A n ws)
      (λ w p. same_from_decides (eqb 0 w) (eqb (word_length A w) 0) (Decides-eqb 0 w)
      (Decides-like (eqb (word_length A w) 0)
      (λ e. sym (generated_length_zero ws w (any_generated A L n (vector_space A L n) ws w p) e))
      (λ e. subst (λ v. word_length A v ≡ 0) e (zero_length A))
      (Decides-eqb (word_length A w) 0)))

  -- a word that a list generates stands in the list of generated words
  pub in_generated : (ws : List ℕ) (w : ℕ) → Generates A n ws w → In w (generated A n ws)
  in_generated ws w g = in_ascending (combinations A n ws) w (any_combination A L n (vector_space A L n) ws w g)

  -- and no other
  pub in_generated_from : (ws : List ℕ) (w : ℕ) → In w (generated A n ws) → Generates A n ws w
  in_generated_from ws w p = any_generated A L n (vector_space A L n) ws w (in_ascending_from (combinations A n ws) w p)

  -- the generated words ascend
  pub generated_ascends : (ws : List ℕ) → Ascends (generated A n ws)
  generated_ascends ws = ascending_ascends (combinations A n ws)

  -- a test passes in the sums of multiples as often as in the generated words, times the repeats
  pub combinations_times : (ws : List ℕ) (p : ℕ → Bool) → how_many p (combinations A n ws) ≡ repeats A n ws * how_many p (generated A n ws)
  combinations_times ws p =
      how_many_times p (repeats A n ws) (combinations A n ws)
      (λ x q. generated_repeats ws x (any_generated A L n (vector_space A L n) ws x q))

  -- w plus a generated word stands in the alias set of w
  pub in_alias_set : (ws : List ℕ) (w g : ℕ) → Generates A n ws g → In (word_sum A n w g) (alias_set A n ws w)
  in_alias_set ws w g h =
      in_ascending (map (word_sum A n w) (generated A n ws)) (word_sum A n w g)
      (in_map (word_sum A n w) (generated A n ws) g (in_generated ws g h))

  -- and nothing else
  pub in_alias_set_from : (ws : List ℕ) (w x : ℕ) → In x (alias_set A n ws w) → (g : ℕ) × Generates A n ws g × (x ≡ word_sum A n w g)
  in_alias_set_from ws w x p =
      let q = in_map_from (word_sum A n w) (generated A n ws) x (in_ascending_from (map (word_sum A n w) (generated A n ws)) x p) in
      (q.0, in_generated_from ws q.0 q.1, q.2)

  -- an alias set ascends
  pub alias_set_ascends : (ws : List ℕ) (w : ℕ) → Ascends (alias_set A n ws w)
  alias_set_ascends ws w = ascending_ascends (map (word_sum A n w) (generated A n ws))

  -- lists that generate the same words have the same alias sets
  pub same_alias_set : (us vs : List ℕ) (w : ℕ) → SameWords A n us vs → alias_set A n us w ≡ alias_set A n vs w
  same_alias_set us vs w same = ap (λ gs. ascending (map (word_sum A n w) gs)) (generated_same A L n us vs same)

  -- the alias set of w is the ascending order of its aliases
  pub alias_set_aliases : (ws : List ℕ) (w : ℕ) → alias_set A n ws w ≡ ascending (aliases A n ws w)
  alias_set_aliases ws w =
      ascending_same (map (word_sum A n w) (generated A n ws)) (aliases A n ws w)
      (λ z p. let q = in_map_from (word_sum A n w) (generated A n ws) z p in
      subst (λ v. In v (aliases A n ws w)) (sym q.2)
      (in_map (word_sum A n w) (combinations A n ws) q.0 (in_ascending_from (combinations A n ws) q.0 q.1)))
      (λ z p. let q = in_map_from (word_sum A n w) (combinations A n ws) z p in
      subst (λ v. In v (map (word_sum A n w) (generated A n ws))) (sym q.2)
      (in_map (word_sum A n w) (generated A n ws) q.0 (in_ascending (combinations A n ws) q.0 q.1)))

  -- adding a word keeps generated words apart
  pub sum_apart : (ws : List ℕ) (w a b : ℕ) → Word A n w → Generates A n ws a → Generates A n ws b → word_sum A n w a ≡ word_sum A n w b → a ≡ b
  sum_apart ws w a b ww ga gb =
      let l = word_legal A n w ww in
      let S = space A L n (vector_space A L n l.low l.high) in
      cancel S (combinations A n) refl (λ w ws. refl) w a b ww (gen_word S ws a ga) (gen_word S ws b gb)

  -- a test passes in the aliases of a word as often as in its alias set, times the repeats
  pub aliases_times : (ws : List ℕ) (w : ℕ) (p : ℕ → Bool) → Word A n w → how_many p (aliases A n ws w) ≡ repeats A n ws * how_many p (alias_set A n ws w)
  aliases_times ws w p ww =
      how_many_times p (repeats A n ws) (aliases A n ws w)
      (λ x q. let r = in_map_from (word_sum A n w) (combinations A n ws) x q in
      let V = vector_space A L n in
      let g = any_generated A L n V ws r.0 r.1 in
      ap (λ v. how_many (eqb v) (aliases A n ws w)) r.2
      ∙ how_many_moved (word_sum A n w) r.0 (combinations A n ws)
      (λ y s. sum_apart ws w r.0 y ww g (any_generated A L n V ws y s))
      ∙ generated_repeats ws r.0 g)
      ∙ ap (λ gs. repeats A n ws * how_many p gs) (sym (alias_set_aliases ws w))
