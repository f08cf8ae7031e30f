-- All sums of multiples of a list of words: they are what the list generates, s to the power of its length of them,
-- and no two are equal where the list is independent.
use Rattle.std.proofs.Common.{◌≡◌, ℕ, zero, suc, ◌^◌, ◌<◌, ◌⊎◌, List, [], ◌∷◌, map, length, get_or, sym, refl, ◌∙◌, subst, inl, inr, mul_comm, pow-suc, arith}
use native.Mathlib.Nat.{pow-zero}
use Rattle.std.proofs.lemmas.Bool.{cases_eq}
use Rattle.std.proofs.lemmas.List.{length-map}
use Rattle.levels.specs.Generated.{each_below}
use Rattle.levels.proofs.Linear.{Space, Is, Gen, Ind, gen_nil, gen_zero, gen_word, gen_more, gen_split, gen_without, solve, mul_word, mul_plus, mul_by_zero, ind_tail}
use Rattle.levels.proofs.Places.{In, Distinct, in_map, in_map_from, in_each, in_each_from, length_each, in_or_not, distinct_map, distinct_each}

module _ (S : Space) (all : List ℕ → List ℕ) (all_nil : all [] ≡ 0 ∷ []) (all_more : (w : ℕ) (ws : List ℕ) → all (w ∷ ws) ≡ each_below S.s (λ c. map (S.add (S.mul c w)) (all ws))) where
  -- the sums of multiples are s to the power of the number of words
  pub length_all : (ws : List ℕ) → length (all ws) ≡ S.s ^ length ws
  length_all [] = rw all_nil (sym (pow-zero S.s))
  length_all (w ∷ ws) =
      rw all_more
      (length_each S.s (S.s ^ length ws) (λ c. map (S.add (S.mul c w)) (all ws))
      (λ c. length-map (all ws) (S.add (S.mul c w)) ∙ length_all ws)
      ∙ mul_comm S.s (S.s ^ length ws) ∙ sym (pow-suc S.s (length ws)))

  -- every sum of multiples is generated
  pub all_gen : (ws : List ℕ) (w : ℕ) → In w (all ws) → Gen S ws w
  all_gen [] w p = subst (Gen S []) (only p.0 (rw all_nil at p.1) (rw all_nil at p.2)) (gen_zero S [])
    where
      only : (i : ℕ) → i < 1 → get_or (0 ∷ []) i 0 ≡ w → 0 ≡ w
      only zero l e = e
      only (suc i) l e = absurd (omega arith)
  all_gen (v ∷ ws) w p =
      let q = in_each_from S.s (λ c. map (S.add (S.mul c v)) (all ws)) w (rw all_more at p) in
      let r = in_map_from (S.add (S.mul q.0 v)) (all ws) w q.2 in
      subst (Gen S (v ∷ ws)) (sym r.2) (gen_more S q.0 v ws r.0 (all_gen ws r.0 r.1))

  -- every generated word is one of the sums of multiples
  pub gen_all : (ws : List ℕ) (w : ℕ) → Gen S ws w → In w (all ws)
  gen_all [] w g = rw (all_nil, gen_nil S w g) (0, omega arith, refl)
  gen_all (v ∷ ws) w g =
      let p = gen_split S v ws w g in
      let r = in_map (S.add (S.mul p.0 v)) (all ws) p.1 (gen_all ws p.1 p.3) in
      rw (all_more, p.4) (in_each S.s (λ c. map (S.add (S.mul c v)) (all ws)) p.0 (S.add (S.mul p.0 v) p.1) p.2 r)

  -- a list generates a word or not
  pub gen_or_not : (ws : List ℕ) (w : ℕ) → Gen S ws w ⊎ (Gen S ws w → ⊥)
  gen_or_not ws w = elim (in_or_not w (all ws)) [ inl p ↦ inl (all_gen ws w p) | inr n ↦ inr (λ g. n (gen_all ws w g)) ]

  -- an equal first part leaves equal second parts
  pub cancel : (p a b : ℕ) → Is S p → Is S a → Is S b → S.add p a ≡ S.add p b → a ≡ b
  cancel p a b wp wa wb e =
      let o = S.opposite p wp in
      cc (
        S.sum_comm p o.0 wp o.1,
        S.sum_assoc o.0 p a o.1 wp wa,
        S.sum_assoc o.0 p b o.1 wp wb,
        o.2,
        S.sum_zero a wa,
        S.sum_zero b wb,
      )

  -- two different multiples of w that differ by what ws generates: ws generates w
  pub clash : (ws : List ℕ) (w c d a b : ℕ) → Is S w → c < S.s → d < S.s → Gen S ws a → Gen S ws b → S.add (S.mul c w) a ≡ S.add (S.mul d w) b → (c ≡ d → ⊥) → Gen S ws w
  clash ws w c d a b ww lc ld ga gb e ne =
      let F = S.levels in
      let o = F.opposite d ld in
      let m = o.0 in
      let lm = o.1 in
      let k = S.plus c m in
      let wa = gen_word S ws a ga in
      let wb = gen_word S ws b gb in
      let wc = mul_word S c w in
      let wd = mul_word S d w in
      let wm = mul_word S m w in
      let left : b ≡ S.add (S.mul k w) a =
      cc (
        mul_plus S c m w lc lm,
        S.sum_comm (S.mul c w) (S.mul m w) wc wm,
        S.sum_assoc (S.mul m w) (S.mul c w) a wm wc wa,
        S.sum_assoc (S.mul m w) (S.mul d w) b wm wd wb,
        S.sum_comm (S.mul m w) (S.mul d w) wm wd,
        mul_plus S d m w ld lm,
        o.2,
        mul_by_zero S w,
        S.sum_zero b wb,
      ) in
      let same : k ≡ 0 → c ≡ d = λ z.
      cc (
        F.plus_assoc c m d lc lm ld,
        F.plus_comm d m ld lm,
        o.2,
        z,
        F.plus_zero d ld,
        F.plus_zero c lc,
        F.plus_comm c 0 lc (omega arith),
      ) in
      let other : k ≡ 0 → ⊥ = λ z. ne (same z) in
      gen_without S b ws w gb
      (subst (λ v. Gen S (v ∷ ws) w) (sym left) (solve S ws k w a (F.plus_level c m lc lm) (omega (arith, other)) ww ga))

  -- of an independent list of words no two sums of multiples are equal
  pub all_distinct : (ws : List ℕ) → Ind S ws → ((i : ℕ) → i < length ws → Is S (get_or ws i 0)) → Distinct (all ws)
  all_distinct [] ind legal = rw all_nil (λ i j li lj e. omega arith)
  all_distinct (w ∷ ws) ind legal =
      rw all_more (distinct_each S.s (λ c. map (S.add (S.mul c w)) (all ws))
      (λ c l. distinct_map (S.add (S.mul c w)) (all ws)
      (all_distinct ws (ind_tail S w ws ind) (λ i li. legal (suc i) (omega arith)))
      (λ a b p q. cancel (S.mul c w) a b (mul_word S c w)
      (gen_word S ws a (all_gen ws a p)) (gen_word S ws b (all_gen ws b q))))
      (λ c d x lc ld p q.
      let f = in_map_from (S.add (S.mul c w)) (all ws) x p in
      let g = in_map_from (S.add (S.mul d w)) (all ws) x q in
      elim (cases_eq c d) [
        | inl e ↦ e
        | inr ne ↦ absurd (ind 0 (omega arith)
            (clash ws w c d f.0 g.0 (legal 0 (omega arith)) lc ld (all_gen ws f.0 f.1) (all_gen ws g.0 g.1)
            (sym f.2 ∙ g.2) ne))
      ]))
