-- Words over a field, in the abstract: what a list of words generates, the exchange of words, and independent lists.
use Rattle.std.proofs.Common.{◌≡◌, ℕ, zero, suc, ◌<◌, ◌≤◌, Bool, true, false, ◌⊎◌, List, [], ◌∷◌, ◌++◌, length, get_or, take, drop, sym, refl, ap, ◌∙◌, subst, inl, inr, arith, drop-cons}
use Rattle.std.proofs.lemmas.Bool.{cases_Bool, cases_lt, cases_eq}
use Rattle.std.proofs.lemmas.List.{append-nil, take-append-drop}
use Rattle.levels.specs.Arithmetic.{Field}
use Rattle.levels.specs.Generated.{others}

-- A vector space of codes: sum is a ⊕ b, a multiple is c · a, and combine is a sum of multiples.
-- A multiple of what is no word, or by what is no level, is 0.
pub record Space : Type 0 where
  pub s : ℕ
  pub plus : ℕ → ℕ → ℕ
  pub times : ℕ → ℕ → ℕ
  pub levels : Field s plus times
  pub word : ℕ → Bool
  pub add : ℕ → ℕ → ℕ
  pub mul : ℕ → ℕ → ℕ
  pub combine : List ℕ → List ℕ → ℕ
  pub combine_nil : (cs : List ℕ) → combine cs [] ≡ 0
  pub combine_none : (w : ℕ) (ws : List ℕ) → combine [] (w ∷ ws) ≡ 0
  pub combine_more : (c : ℕ) (cs : List ℕ) (w : ℕ) (ws : List ℕ) → combine (c ∷ cs) (w ∷ ws) ≡ add (mul c w) (combine cs ws)
  pub no_level : (c w : ℕ) → s ≤ c → mul c w ≡ 0
  pub no_word : (c w : ℕ) → word w ≡ false → mul c w ≡ 0
  pub zero_word : word 0 ≡ true
  pub sum_word : (a b : ℕ) → word a ≡ true → word b ≡ true → word (add a b) ≡ true
  pub sum_comm : (a b : ℕ) → word a ≡ true → word b ≡ true → add a b ≡ add b a
  pub sum_assoc : (a b c : ℕ) → word a ≡ true → word b ≡ true → word c ≡ true → add (add a b) c ≡ add a (add b c)
  pub sum_zero : (a : ℕ) → word a ≡ true → add 0 a ≡ a
  pub opposite : (a : ℕ) → word a ≡ true → (b : ℕ) × (word b ≡ true) × (add a b ≡ 0)
  pub multiple_word : (c a : ℕ) → c < s → word a ≡ true → word (mul c a) ≡ true
  pub multiple_zero : (a : ℕ) → word a ≡ true → mul 0 a ≡ 0
  pub multiple_one : (a : ℕ) → word a ≡ true → mul 1 a ≡ a
  pub multiple_times : (c d a : ℕ) → c < s → d < s → word a ≡ true → mul c (mul d a) ≡ mul (times c d) a
  pub multiple_plus : (c d a : ℕ) → c < s → d < s → word a ≡ true → mul (plus c d) a ≡ add (mul c a) (mul d a)
  pub multiple_sum : (c a b : ℕ) → c < s → word a ≡ true → word b ≡ true → mul c (add a b) ≡ add (mul c a) (mul c b)

module _ (S : Space) where
  -- w is a word
  abbrev pub Is : ℕ → Type 0
  Is w = S.word w ≡ true

  -- a list generates w: w is a sum of multiples of its words
  abbrev pub Gen : List ℕ → ℕ → Type 0
  Gen ws w = (cs : List ℕ) × (w ≡ S.combine cs ws)

  -- adding 0 on the right changes nothing
  pub add_zero_word : (a : ℕ) → Is a → S.add a 0 ≡ a
  add_zero_word a wa = S.sum_comm a 0 wa S.zero_word ∙ S.sum_zero a wa

  -- the sum of two sums, regrouped
  regroup : (a b c d : ℕ) → Is a → Is b → Is c → Is d → S.add (S.add a b) (S.add c d) ≡ S.add (S.add a c) (S.add b d)
  regroup a b c d wa wb wc wd =
      cc (
        S.sum_assoc a b (S.add c d) wa wb (S.sum_word c d wc wd),
        S.sum_assoc b c d wb wc wd,
        S.sum_comm b c wb wc,
        S.sum_assoc c b d wc wb wd,
        S.sum_assoc a c (S.add b d) wa wc (S.sum_word b d wb wd),
      )

  -- a word that is its own double is 0
  double : (a : ℕ) → Is a → S.add a a ≡ a → a ≡ 0
  double a wa e =
      let o = S.opposite a wa in
      cc (S.sum_assoc a a o.0 wa wa o.1, o.2, add_zero_word a wa)

  -- 1 is a level
  level_one : 1 < S.s
  level_one = S.levels.two_levels

  -- 0 is a level
  pub level_zero : 0 < S.s
  level_zero = let h = S.levels.two_levels in omega arith

  -- every multiple of 0 is 0
  mul_of_zero : (c : ℕ) → S.mul c 0 ≡ 0
  mul_of_zero c = elim (cases_lt c S.s) [
    | inl lc ↦
        let z = S.zero_word in
        double (S.mul c 0) (S.multiple_word c 0 lc z) (sym (S.multiple_sum c 0 0 lc z z) ∙ ap (S.mul c) (S.sum_zero 0 z))
    | inr ge ↦ S.no_level c 0 ge
  ]

  -- 0 times anything is 0
  pub mul_by_zero : (w : ℕ) → S.mul 0 w ≡ 0
  mul_by_zero w = elim (cases_Bool (S.word w)) [ inl t ↦ S.multiple_zero w t | inr f ↦ S.no_word 0 w f ]

  -- every multiple is a word
  pub mul_word : (c w : ℕ) → Is (S.mul c w)
  mul_word c w = elim (cases_Bool (S.word w)) [
    | inl t ↦ elim (cases_lt c S.s) [
      | inl lc ↦ S.multiple_word c w lc t
      | inr ge ↦ rw (S.no_level c w ge) S.zero_word
    ]
    | inr f ↦ rw (S.no_word c w f) S.zero_word
  ]

  -- the multiple by a sum of levels, of any code
  pub mul_plus : (c d w : ℕ) → c < S.s → d < S.s → S.mul (S.plus c d) w ≡ S.add (S.mul c w) (S.mul d w)
  mul_plus c d w lc ld = elim (cases_Bool (S.word w)) [
    | inl t ↦ S.multiple_plus c d w lc ld t
    | inr f ↦ cc (S.no_word (S.plus c d) w f, S.no_word c w f, S.no_word d w f, S.sum_zero 0 S.zero_word)
  ]

  -- the multiple by a product of levels, of any code
  mul_times : (c d w : ℕ) → c < S.s → d < S.s → S.mul c (S.mul d w) ≡ S.mul (S.times c d) w
  mul_times c d w lc ld = elim (cases_Bool (S.word w)) [
    | inl t ↦ S.multiple_times c d w lc ld t
    | inr f ↦ cc (S.no_word (S.times c d) w f, S.no_word d w f, mul_of_zero c)
  ]

  -- every sum of multiples is a word
  combine_word : (cs ws : List ℕ) → Is (S.combine cs ws)
  combine_word cs [] = rw (S.combine_nil cs) S.zero_word
  combine_word [] (w ∷ ws) = rw (S.combine_none w ws) S.zero_word
  combine_word (c ∷ cs) (w ∷ ws) =
      rw (S.combine_more c cs w ws) (S.sum_word (S.mul c w) (S.combine cs ws) (mul_word c w) (combine_word cs ws))

  -- every generated code is a word
  pub gen_word : (ws : List ℕ) (w : ℕ) → Gen ws w → Is w
  gen_word ws w g = rw g.1 (combine_word g.0 ws)

  -- the empty list generates 0 alone
  pub gen_nil : (w : ℕ) → Gen [] w → w ≡ 0
  gen_nil w g = g.1 ∙ S.combine_nil g.0

  -- every list generates 0
  pub gen_zero : (ws : List ℕ) → Gen ws 0
  gen_zero [] = ([], sym (S.combine_nil []))
  gen_zero (w ∷ ws) = ([], sym (S.combine_none w ws))

  -- a multiple of the first word and what the others generate
  pub gen_more : (c w : ℕ) (ws : List ℕ) (b : ℕ) → Gen ws b → Gen (w ∷ ws) (S.add (S.mul c w) b)
  gen_more c w ws b g = (c ∷ g.0, rw (S.combine_more c g.0 w ws) (ap (S.add (S.mul c w)) g.1))

  -- a is a multiple of w, by a level, and what ws generates
  abbrev pub Split : ℕ → List ℕ → ℕ → Type 0
  Split w ws a = (c : ℕ) × (b : ℕ) × (c < S.s) × Gen ws b × (a ≡ S.add (S.mul c w) b)

  -- what a list generates is a multiple of its first word, by a level, and what the others generate
  pub gen_split : (w : ℕ) (ws : List ℕ) (a : ℕ) → Gen (w ∷ ws) a → Split w ws a
  gen_split w ws a g = go g.0 g.1
    where
      flat : (b : ℕ) → Is b → b ≡ S.add (S.mul 0 w) b
      flat b wb = cc (mul_by_zero w, S.sum_zero b wb)

      go : (cs : List ℕ) → a ≡ S.combine cs (w ∷ ws) → Split w ws a
      go [] e = (0, 0, level_zero, gen_zero ws, e ∙ S.combine_none w ws ∙ flat 0 S.zero_word)
      go (c ∷ cs) e =
          let b = S.combine cs ws in
          let m = S.combine_more c cs w ws in
          elim (cases_lt c S.s) [
            | inl lc ↦ (c, b, lc, (cs, refl), e ∙ m)
            | inr ge ↦ (0, b, level_zero, (cs, refl), cc (S.no_level c w ge, mul_by_zero w))
          ]

  -- the list with one more word in front generates as much
  pub gen_tail : (x : ℕ) (ws : List ℕ) (w : ℕ) → Gen ws w → Gen (x ∷ ws) w
  gen_tail x ws w g =
      subst (Gen (x ∷ ws)) (ap (λ z. S.add z w) (mul_by_zero x) ∙ S.sum_zero w (gen_word ws w g)) (gen_more 0 x ws w g)

  -- a list generates its first word, if legal
  pub gen_head : (w : ℕ) (ws : List ℕ) → Is w → Gen (w ∷ ws) w
  gen_head w ws ww =
      subst (Gen (w ∷ ws)) (ap (λ z. S.add z 0) (S.multiple_one w ww) ∙ add_zero_word w ww) (gen_more 1 w ws 0 (gen_zero ws))

  -- a list generates each of its legal words
  pub gen_place : (ws : List ℕ) (i : ℕ) → Is (get_or ws i 0) → Gen ws (get_or ws i 0)
  gen_place [] i h = gen_zero []
  gen_place (w ∷ ws) zero h = gen_head w ws h
  gen_place (w ∷ ws) (suc i) h = gen_tail w ws (get_or ws i 0) (gen_place ws i h)

  -- the sum of two generated words is generated
  pub gen_sum : (ws : List ℕ) (a b : ℕ) → Gen ws a → Gen ws b → Gen ws (S.add a b)
  gen_sum [] a b ga gb =
      subst (Gen []) (cc (gen_nil a ga, gen_nil b gb, S.sum_zero 0 S.zero_word)) (gen_zero [])
  gen_sum (w ∷ ws) a b ga gb =
      let p = gen_split w ws a ga in
      let q = gen_split w ws b gb in
      let r = gen_sum ws p.1 q.1 p.3 q.3 in
      let h = regroup (S.mul p.0 w) p.1 (S.mul q.0 w) q.1 (mul_word p.0 w) (gen_word ws p.1 p.3) (mul_word q.0 w) (gen_word ws q.1 q.3) in
      subst (Gen (w ∷ ws)) (cc (h, mul_plus p.0 q.0 w p.2 q.2, p.4, q.4))
      (gen_more (S.plus p.0 q.0) w ws (S.add p.1 q.1) r)

  -- every multiple of a generated word is generated
  pub gen_multiple : (ws : List ℕ) (c a : ℕ) → Gen ws a → Gen ws (S.mul c a)
  gen_multiple [] c a g = subst (Gen []) (cc (gen_nil a g, mul_of_zero c)) (gen_zero [])
  gen_multiple (w ∷ ws) c a g = elim (cases_lt c S.s) [
    | inl lc ↦
        let p = gen_split w ws a g in
        let r = gen_multiple ws c p.1 p.3 in
        let h = S.multiple_sum c (S.mul p.0 w) p.1 lc (mul_word p.0 w) (gen_word ws p.1 p.3) in
        subst (Gen (w ∷ ws)) (cc (h, mul_times c p.0 w lc p.2, p.4))
        (gen_more (S.times c p.0) w ws (S.mul c p.1) r)
    | inr ge ↦ subst (Gen (w ∷ ws)) (sym (S.no_level c a ge)) (gen_zero (w ∷ ws))
  ]

  -- every legal word of us is generated by vs
  abbrev pub Within : List ℕ → List ℕ → Type 0
  Within us vs = (i : ℕ) → Is (get_or us i 0) → Gen vs (get_or us i 0)

  -- a list generates what a list of words that it generates generates
  pub gen_trans : (us vs : List ℕ) (w : ℕ) → Within us vs → Gen us w → Gen vs w
  gen_trans [] vs w h g = subst (Gen vs) (sym (gen_nil w g)) (gen_zero vs)
  gen_trans (u ∷ us) vs w h g =
      let p = gen_split u us w g in
      let m : Gen vs (S.mul p.0 u) = elim (cases_Bool (S.word u)) [
        | inl t ↦ gen_multiple vs p.0 u (h 0 t)
        | inr f ↦ subst (Gen vs) (sym (S.no_word p.0 u f)) (gen_zero vs)
      ] in
      let r = gen_trans us vs p.1 (λ i. h (suc i)) p.3 in
      subst (Gen vs) (sym p.4) (gen_sum vs (S.mul p.0 u) p.1 m r)

  -- a first word that the others generate adds nothing
  pub gen_without : (x : ℕ) (ws : List ℕ) (w : ℕ) → Gen ws x → Gen (x ∷ ws) w → Gen ws w
  gen_without x ws w gx = gen_trans (x ∷ ws) ws w at
    where
      at : Within (x ∷ ws) ws
      at zero h = gx
      at (suc i) h = gen_place ws i h

  -- one more word in front on both sides
  pub gen_under : (x : ℕ) (us vs : List ℕ) → ((w : ℕ) → Gen us w → Gen vs w) → (w : ℕ) → Gen (x ∷ us) w → Gen (x ∷ vs) w
  gen_under x us vs h w g =
      let p = gen_split x us w g in
      subst (Gen (x ∷ vs)) (sym p.4) (gen_more p.0 x vs p.1 (h p.1 p.3))

  -- the first two words change places
  gen_swap : (x y : ℕ) (ws : List ℕ) (w : ℕ) → Gen (x ∷ y ∷ ws) w → Gen (y ∷ x ∷ ws) w
  gen_swap x y ws w = gen_trans (x ∷ y ∷ ws) (y ∷ x ∷ ws) w at
    where
      at : Within (x ∷ y ∷ ws) (y ∷ x ∷ ws)
      at zero h = gen_tail y (x ∷ ws) x (gen_head x ws h)
      at (suc zero) h = gen_head y (x ∷ ws) h
      at (suc (suc i)) h = gen_tail y (x ∷ ws) (get_or ws i 0) (gen_tail x ws (get_or ws i 0) (gen_place ws i h))

  -- a word of the list moves to the front
  pub gen_front : (us : List ℕ) (x : ℕ) (vs : List ℕ) (w : ℕ) → Gen (us ++ x ∷ vs) w → Gen (x ∷ us ++ vs) w
  gen_front [] x vs w g = g
  gen_front (u ∷ us) x vs w g = gen_swap u x (us ++ vs) w (gen_under u (us ++ x ∷ vs) (x ∷ us ++ vs) (gen_front us x vs) w g)

  -- the first word moves into the list
  pub gen_inside : (us : List ℕ) (x : ℕ) (vs : List ℕ) (w : ℕ) → Gen (x ∷ us ++ vs) w → Gen (us ++ x ∷ vs) w
  gen_inside [] x vs w g = g
  gen_inside (u ∷ us) x vs w g = gen_under u (x ∷ us ++ vs) (us ++ x ∷ vs) (gen_inside us x vs) w (gen_swap x u (us ++ vs) w g)

  -- more words in front generate as much
  pub gen_right : (us vs : List ℕ) (w : ℕ) → Gen vs w → Gen (us ++ vs) w
  gen_right [] vs w g = g
  gen_right (u ∷ us) vs w g = gen_tail u (us ++ vs) w (gen_right us vs w g)

  -- more words behind generate as much
  pub gen_left : (us vs : List ℕ) (w : ℕ) → Gen us w → Gen (us ++ vs) w
  gen_left [] vs w g = subst (Gen vs) (sym (gen_nil w g)) (gen_zero vs)
  gen_left (u ∷ us) vs w g = gen_under u us (us ++ vs) (gen_left us vs) w g

  -- from y = c·x + b with c not 0, x is generated by y and what generates b
  pub solve : (ws : List ℕ) (c x b : ℕ) → c < S.s → 0 < c → Is x → Gen ws b → Gen (S.add (S.mul c x) b ∷ ws) x
  solve ws c x b lc pc wx g =
      let y = S.add (S.mul c x) b in
      let i = S.levels.inverse c lc pc in
      let d = i.0 in
      let o = S.levels.opposite 1 level_one in
      let e = o.0 in
      let wb = gen_word ws b g in
      let wm = mul_word d b in
      let m = S.mul e (S.mul d b) in
      let whole : S.mul d y ≡ S.add x (S.mul d b) =
      cc (
        S.multiple_sum d (S.mul c x) b i.1 (mul_word c x) wb,
        mul_times d c x i.1 lc,
        S.levels.times_comm c d lc i.1,
        i.2,
        S.multiple_one x wx,
      ) in
      let gone : S.add (S.mul d b) m ≡ 0 =
      cc (mul_plus 1 e (S.mul d b) level_one o.1, o.2, mul_by_zero (S.mul d b), S.multiple_one (S.mul d b) wm) in
      let same : S.add (S.mul d y) m ≡ x =
      cc (whole, gone, S.sum_assoc x (S.mul d b) m wx wm (mul_word e (S.mul d b)), add_zero_word x wx) in
      subst (Gen (y ∷ ws)) same (gen_more d y ws m (gen_multiple ws e (S.mul d b) (gen_multiple ws d b g)))

  -- exchange: a word that x and ws generate is generated by ws, or takes the place of x
  pub gen_exchange : (x : ℕ) (ws : List ℕ) (y : ℕ) → Gen (x ∷ ws) y → Gen ws y ⊎ Gen (y ∷ ws) x
  gen_exchange x ws y g =
      let p = gen_split x ws y g in
      let flat : S.mul p.0 x ≡ 0 → Gen ws y =
      λ z. subst (Gen ws) (sym (cc (z, p.4, S.sum_zero p.1 (gen_word ws p.1 p.3)))) p.3 in
      elim (cases_Bool (S.word x)) [
        | inl t ↦ elim (cases_eq p.0 0) [
          | inl z ↦ inl (flat (cc (z, mul_by_zero x)))
          | inr nz ↦ inr (subst (λ v. Gen (v ∷ ws) x) (sym p.4) (solve ws p.0 x p.1 p.2 (omega (arith, nz)) t p.3))
        ]
        | inr f ↦ inl (flat (S.no_word p.0 x f))
      ]

  -- no word of the list is generated by the others
  abbrev pub Ind : List ℕ → Type 0
  Ind ws = (i : ℕ) → i < length ws → Gen (others ws i) (get_or ws i 0) → ⊥

  -- no word of the list is generated by ps and the words before it
  abbrev pub IndOver : List ℕ → List ℕ → Type 0
  IndOver ps [] = Unit {0}
  IndOver ps (u ∷ us) = (Gen ps u → ⊥) × IndOver (u ∷ ps) us

  -- u takes the place of a word of vs: the rest with u and ps generates what vs with ps does
  abbrev Swapped : ℕ → List ℕ → List ℕ → Type 0
  Swapped u vs ps = (rest : List ℕ) × (length vs ≡ suc (length rest)) × ((w : ℕ) → Gen (vs ++ ps) w → Gen (rest ++ u ∷ ps) w)

  -- a word that vs and ps generate, and ps alone does not, takes the place of a word of vs
  swap_in : (u : ℕ) (vs ps : List ℕ) → (Gen ps u → ⊥) → Gen (vs ++ ps) u → Swapped u vs ps
  swap_in u [] ps new g = absurd (new g)
  swap_in u (v ∷ vs) ps new g = elim (gen_exchange v (vs ++ ps) u g) [
    | inl behind ↦
        let r = swap_in u vs ps new behind in
        (v ∷ r.0, ap suc r.1, gen_under v (vs ++ ps) (r.0 ++ u ∷ ps) r.2)
    | inr instead ↦ (vs, refl, λ w h. gen_inside vs u ps w (gen_trans (v ∷ vs ++ ps) (u ∷ vs ++ ps) w (at instead) h))
  ]
    where
      at : Gen (u ∷ vs ++ ps) v → Within (v ∷ vs ++ ps) (u ∷ vs ++ ps)
      at h zero wv = h
      at h (suc i) wi = gen_tail u (vs ++ ps) (get_or (vs ++ ps) i 0) (gen_place (vs ++ ps) i wi)

  -- words that are independent over ps are no more than the words that generate them together with ps
  pub bound_over : (us vs ps : List ℕ) → IndOver ps us → ((i : ℕ) → i < length us → Gen (vs ++ ps) (get_or us i 0)) → length us ≤ length vs
  bound_over [] vs ps ind h = omega arith
  bound_over (u ∷ us) vs ps ind h =
      let r = swap_in u vs ps ind.0 (h 0 (omega arith)) in
      let k = bound_over us r.0 (u ∷ ps) ind.1 (λ i li. r.2 (get_or us i 0) (h (suc i) (omega arith))) in
      let e = r.1 in
      omega arith

  -- a list with no word generated by the others has none generated by those before it
  ind_to_over : (us ps : List ℕ) → ((i : ℕ) → i < length us → Gen (ps ++ others us i) (get_or us i 0) → ⊥) → IndOver ps us
  ind_to_over [] ps h = tt
  ind_to_over (u ∷ us) ps h = (
    (λ g. h 0 (omega arith) (gen_left ps us u g)),
    ind_to_over us (u ∷ ps) (λ i li g. h (suc i) (omega arith) (gen_inside ps u (others us i) (get_or us i 0) g)),
  )

  -- an independent list has no word generated by those before it
  pub in_order : (us : List ℕ) → Ind us → IndOver [] us
  in_order us h = ind_to_over us [] h

  -- independent words are no more than words that generate them
  pub ind_bound : (us vs : List ℕ) → Ind us → ((i : ℕ) → i < length us → Gen vs (get_or us i 0)) → length us ≤ length vs
  ind_bound us vs ind h = bound_over us vs [] (in_order us ind) (λ i li. subst (λ l. Gen l (get_or us i 0)) (sym (append-nil vs)) (h i li))

  -- fewer words to be independent of
  over_less : (us ps qs : List ℕ) → ((w : ℕ) → Gen qs w → Gen ps w) → IndOver ps us → IndOver qs us
  over_less [] ps qs h ind = tt
  over_less (u ∷ us) ps qs h ind =
      ((λ g. ind.0 (h u g)), over_less us (u ∷ ps) (u ∷ qs) (gen_under u qs ps h) ind.1)

  -- words that come later do not generate an earlier one
  not_later : (us ps : List ℕ) (u : ℕ) → (Gen ps u → ⊥) → IndOver (u ∷ ps) us → Gen (us ++ ps) u → ⊥
  not_later [] ps u new ind g = new g
  not_later (v ∷ us) ps u new ind g = elim (gen_exchange v (us ++ ps) u g) [
    | inl behind ↦ not_later us ps u new (over_less us (v ∷ u ∷ ps) (u ∷ ps) (gen_tail v (u ∷ ps)) ind.1) behind
    | inr instead ↦ not_later us (u ∷ ps) v ind.0 ind.1 (gen_inside us u ps v instead)
  ]

  -- the two lists change places
  pub gen_flip : (us vs : List ℕ) (w : ℕ) → Gen (us ++ vs) w → Gen (vs ++ us) w
  gen_flip [] vs w g = subst (λ l. Gen l w) (sym (append-nil vs)) g
  gen_flip (u ∷ us) vs w g = gen_inside vs u us w (gen_under u (us ++ vs) (vs ++ us) (gen_flip us vs) w g)

  -- a list with no word generated by those before it has none generated by the others
  over_to_ind : (us ps : List ℕ) → IndOver ps us → (i : ℕ) → i < length us → Gen (ps ++ others us i) (get_or us i 0) → ⊥
  over_to_ind [] ps ind i li g = omega arith
  over_to_ind (u ∷ us) ps ind zero li g = not_later us ps u ind.0 ind.1 (gen_flip ps us u g)
  over_to_ind (u ∷ us) ps ind (suc i) li g =
      over_to_ind us (u ∷ ps) ind.1 i (omega arith) (gen_front ps u (others us i) (get_or us i 0) g)

  -- and a list with none generated by those before it is independent
  pub from_order : (us : List ℕ) → IndOver [] us → Ind us
  from_order us ind = over_to_ind us [] ind

  -- a word behind that us and ps do not generate
  over_push : (us ps : List ℕ) (y : ℕ) → IndOver ps us → (Gen (us ++ ps) y → ⊥) → IndOver ps (us ++ y ∷ [])
  over_push [] ps y ind new = (new, tt)
  over_push (u ∷ us) ps y ind new = (ind.0, over_push us (u ∷ ps) y ind.1 (λ g. new (gen_front us u ps y g)))

  -- an independent list stays so with a word behind that it does not generate
  pub ind_push : (us : List ℕ) (y : ℕ) → Ind us → (Gen us y → ⊥) → Ind (us ++ y ∷ [])
  ind_push us y ind new =
      from_order (us ++ y ∷ []) (over_push us [] y (in_order us ind) (λ g. new (subst (λ l. Gen l y) (append-nil us) g)))

  -- independent lists of words that generate the same have one length
  pub ind_same : (us vs : List ℕ) → Ind us → Ind vs → ((i : ℕ) → i < length us → Gen vs (get_or us i 0)) → ((i : ℕ) → i < length vs → Gen us (get_or vs i 0)) → length us ≡ length vs
  ind_same us vs iu iv hu hv = let p = ind_bound us vs iu hu in let q = ind_bound vs us iv hv in omega arith

  -- without its first word an independent list is independent
  pub ind_tail : (u : ℕ) (us : List ℕ) → Ind (u ∷ us) → Ind us
  ind_tail u us ind i li g = ind (suc i) (omega arith) (gen_tail u (others us i) (get_or us i 0) g)

  -- no word generated by ps and those before it, shown place by place
  pub over_from_places : (us ps : List ℕ) → ((i : ℕ) → i < length us → Gen (take i us ++ ps) (get_or us i 0) → ⊥) → IndOver ps us
  over_from_places [] ps h = tt
  over_from_places (u ∷ us) ps h = (
    h 0 (omega arith),
    over_from_places us (u ∷ ps) (λ i li g. h (suc i) (omega arith) (gen_front (take i us) u ps (get_or us i 0) g)),
  )

  -- a list is independent where the words before a word never generate it
  pub ind_from_before : (us : List ℕ) → ((i : ℕ) → i < length us → Gen (take i us) (get_or us i 0) → ⊥) → Ind us
  ind_from_before us h =
      from_order us (over_from_places us [] (λ i li g. h i li (subst (λ l. Gen l (get_or us i 0)) (append-nil (take i us)) g)))

  -- the words before a word of an independent list do not generate it
  pub ind_before : (us : List ℕ) → Ind us → (i : ℕ) → i < length us → Gen (take i us) (get_or us i 0) → ⊥
  ind_before us ind i li g = ind i li (gen_left (take i us) (drop (suc i) us) (get_or us i 0) g)

  -- one more word in front, that the others do not generate
  pub ind_front : (y : ℕ) (us : List ℕ) → Ind us → (Gen us y → ⊥) → Ind (y ∷ us)
  ind_front y us ind new zero li g = new g
  ind_front y us ind new (suc i) li g = elim (gen_exchange y (others us i) (get_or us i 0) g) [
    | inl same ↦ ind i (omega arith) same
    | inr instead ↦ new (subst (λ l. Gen l y) whole (gen_inside (take i us) (get_or us i 0) (drop (suc i) us) y instead))
  ]
    where
      whole : take i us ++ get_or us i 0 ∷ drop (suc i) us ≡ us
      whole = ap (◌++◌ (take i us)) (sym (drop-cons us i 0 (omega arith))) ∙ take-append-drop i us

  -- a front of the list is independent over ps too
  over_left : (us vs ps : List ℕ) → IndOver ps (us ++ vs) → IndOver ps us
  over_left [] vs ps ind = tt
  over_left (u ∷ us) vs ps ind = (ind.0, over_left us vs (u ∷ ps) ind.1)

  -- a front of an independent list is independent
  pub ind_left : (us vs : List ℕ) → Ind (us ++ vs) → Ind us
  ind_left us vs ind = from_order us (over_left us vs [] (in_order (us ++ vs) ind))
