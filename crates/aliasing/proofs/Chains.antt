-- Words in chains by the bucket of their least alias: one word more, and the way along a chain.
use Rattle.std.proofs.Common.{◌≡◌, ℕ, ◌+◌, ◌-◌, ◌*◌, ◌^◌, ◌<◌, ◌≤◌, ◌≢◌, List, length, get_or, set, replicate, sym, ap, ◌∙◌, subst, inl, inr, arith, get_or-set_other, get_or-set_same, lit<}
use Rattle.std.proofs.lemmas.List.{length-set, length-replicate, get_or-replicate}
use Rattle.std.proofs.lemmas.Nat.{mod_below}
use Rattle.std.proofs.lemmas.Bool.{cases_eq, cases_lt}
use Rattle.aliasing.specs.Short.{sum_at}
use Rattle.aliasing.specs.Buckets.{bucket_of, LastBefore, Chained, Long}

-- each bucket is one of 1024
pub bucket_below : (r : ℕ) → bucket_of r < 1024
bucket_below r = let h = mod_below (r * 0x9e37_79b9_7f4a_7c15) (2 ^ 64) (lit< tt) in omega arith

-- the bucket of the word at a place
abbrev pub bucket_at : List ℕ → ℕ → ℕ
bucket_at ls i = bucket_of (sum_at ls i)

-- A word, at place k from 0, has met the words of its bucket down to a place, from 1: none of them has its least alias.
pub record Met (ls : List ℕ) (k place : ℕ) : Type 0 where
  pub within : place ≤ k
  pub long : 0 < place → Long ls (place - 1)
  pub there : 0 < place → bucket_at ls (place - 1) ≡ bucket_at ls k
  pub others : (i : ℕ) → place ≤ i → i < k → Long ls i → sum_at ls i ≢ sum_at ls k

-- no words are in chains yet
pub chained_none : (ls : List ℕ) → Chained ls 0 (replicate 1024 0) (replicate 1024 0)
chained_none ls = record {
  buckets = length-replicate {A = ℕ} 1024 0;
  places = length-replicate {A = ℕ} 1024 0;
  lasts = λ b l. subst (LastBefore ls b 0) (sym (get_or-replicate {A = ℕ} 1024 b 0 0 l)) (record {
    within = omega arith;
    long = λ p. absurd (omega arith);
    there = λ p. absurd (omega arith);
    none_between = λ i m k s. absurd (omega arith);
  });
  befores = λ i l s. absurd (omega arith);
}

module _ (ls : List ℕ) (k : ℕ) where
  -- a word that is in another bucket changes nothing
  last_other : (b place : ℕ) → LastBefore ls b k place → bucket_at ls k ≢ b → LastBefore ls b (k + 1) place
  last_other b place h other = record {
    within = let w = h.within in omega arith;
    long = h.long;
    there = h.there;
    none_between = λ i l m s. elim (cases_eq i k) [
      | inl e ↦ subst (λ j. bucket_at ls j ≢ b) (sym e) other
      | inr ne ↦ h.none_between i l (omega (arith, ne)) s
    ];
  }

  -- a word that is in the bucket is its last
  last_here : Long ls k → LastBefore ls (bucket_at ls k) (k + 1) (k + 1)
  last_here long =
      let e : k ≡ k + 1 - 1 = omega arith in
      record {
        within = omega arith;
        long = λ p. subst (Long ls) e long;
        there = λ p. ap (bucket_at ls) (sym e);
        none_between = λ i l m s. absurd (omega arith);
      }

  -- one word more
  pub chained_more : (last before : List ℕ) → Long ls k → k < 1024 → Chained ls k last before →
      Chained ls (k + 1) (set last (bucket_at ls k) (k + 1)) (set before k (get_or last (bucket_at ls k) 0))
  chained_more last before long low h =
      let b = bucket_at ls k in
      let old = get_or last b 0 in
      let lb : b < 1024 = bucket_below (sum_at ls k) in
      let lp = h.places in
      let ll = h.buckets in
      let there : b < length last = omega arith in
      let here : k < length before = omega arith in
      record {
        buckets = length-set last b (k + 1) ∙ h.buckets;
        places = length-set before k old ∙ h.places;
        lasts = λ a la. elim (cases_eq a b) [
          | inl e ↦ rw (e, get_or-set_same last b (k + 1) 0 there) (last_here long)
          | inr ne ↦ rw (get_or-set_other last b a (k + 1) 0 ne) (last_other a (get_or last a 0) (h.lasts a la) (λ o. ne (sym o)))
        ];
        befores = λ i li s. elim (cases_eq i k) [
          | inl e ↦ rw (e, get_or-set_same before k old 0 here) (h.lasts b lb)
          | inr ne ↦ rw (get_or-set_other before k i old 0 ne) (h.befores i (omega (arith, ne)) s)
        ];
      }

  -- no such word stands from there up to a later place: the chains are as long
  pub chained_up : (m : ℕ) (last before : List ℕ) → k ≤ m → ((i : ℕ) → k ≤ i → i < m → Long ls i → ⊥) → Chained ls k last before → Chained ls m last before
  chained_up m last before up none h = record {
    buckets = h.buckets;
    places = h.places;
    lasts = λ b lb.
        let q = h.lasts b lb in
        record {
          within = let w = q.within in omega arith;
          long = q.long;
          there = q.there;
          none_between = λ i l j s. elim (cases_lt i k) [ inl lt ↦ q.none_between i l lt s | inr le ↦ absurd (none i le j s) ];
        };
    befores = λ i li s. elim (cases_lt i k) [ inl lt ↦ h.befores i lt s | inr le ↦ absurd (none i le li s) ];
  }

  -- a word has met none yet
  pub met_first : (last : ℕ) → LastBefore ls (bucket_at ls k) k last → Met ls k last
  met_first last h = record { within = h.within; long = h.long; there = h.there; others = λ i m l s e. h.none_between i m l s (ap bucket_of e) }

  module _ (last before : List ℕ) (h : Chained ls (k + 1) last before) (place : ℕ) (pos : 0 < place) (a : Met ls k place) where
    -- the word before it in the chain
    link : LastBefore ls (bucket_at ls k) (place - 1) (get_or before (place - 1) 0)
    link = rw (a.there pos) at (h.befores (place - 1) (let w = a.within in omega arith) (a.long pos))

    -- stands before it
    pub place_falls : get_or before (place - 1) 0 < place
    place_falls = let w = link.within in omega arith

    -- one word more is met
    pub met_more : sum_at ls (place - 1) ≢ sum_at ls k → Met ls k (get_or before (place - 1) 0)
    met_more apart = record {
      within = let w = a.within in let v = place_falls in omega arith;
      long = link.long;
      there = link.there;
      others = λ i m l s e. elim (cases_lt i (place - 1)) [
        | inl lt ↦ link.none_between i m lt s (ap bucket_of e)
        | inr le ↦ elim (cases_eq i (place - 1)) [
          | inl same ↦ apart (ap (sum_at ls) (sym same) ∙ e)
          | inr ne ↦ a.others i (omega (arith, ne)) l s e
        ]
      ];
    }

-- a word at a place is in the chains, by its bucket
pub chained_met : (ls : List ℕ) (k sum b : ℕ) (last before : List ℕ) → Long ls k → length ls ≤ 33 → sum ≡ sum_at ls k → b ≡ bucket_of sum → Chained ls k last before →
    Chained ls (k + 1) (set last b (k + 1)) (set before k (get_or last b 0))
chained_met ls k sum b last before long few e is h =
    subst (λ a. Chained ls (k + 1) (set last a (k + 1)) (set before k (get_or last a 0))) (sym (is ∙ ap bucket_of e))
    (chained_more ls k last before long (let s = long.0 in omega (arith, s.0, s.1)) h)
