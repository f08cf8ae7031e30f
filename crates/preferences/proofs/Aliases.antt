-- Words of one alias set are equal by least aberration, and by preferences made of others that find them equal.
use Rattle.std.proofs.Common.{◌≡◌, ℕ, suc, Bool, true, List, map, sym, refl, ap, ◌∙◌, subst}
use Rattle.levels.specs.Arithmetic.{Arithmetic, Lawful}
use Rattle.levels.specs.Words.{word_sum}
use Rattle.levels.specs.Space.{Word, VectorSpace}
use Rattle.levels.specs.Generated.{Generates, generated}
use Rattle.levels.specs.Alias.{alias_set}
use Rattle.levels.proofs.Places.{In, in_map, in_map_from}
use Rattle.levels.proofs.Ascending.{ascending_same}
use Rattle.levels.proofs.Multiplicity.{in_generated, in_generated_from}
use Rattle.levels.proofs.Generation.{generates_word, generates_sum}
use Rattle.levels.proofs.Reduced.{space_at, Differ, differ_back}
use Rattle.preferences.specs.Relation.{EqualAliases}
use Rattle.preferences.specs.Built.{length_counts, least_aberration}
use Rattle.preferences.specs.Counts.{no_more_same}
use Rattle.preferences.specs.Built.{no_more}

module _ (A : Arithmetic) (L : Lawful A) (n : ℕ) (V : VectorSpace A n) (ws : List ℕ) where
  -- an alias of u is one of v, where u is
  moved : (u v : ℕ) → Word A n v → Differ A n ws v u → (z : ℕ) → In z (map (word_sum A n u) (generated A n ws)) → In z (map (word_sum A n v) (generated A n ws))
  moved u v wv d z p =
      let q = in_map_from (word_sum A n u) (generated A n ws) z p in
      let h = in_generated_from A L n ws q.0 q.1 in
      let same : z ≡ word_sum A n v (word_sum A n d.0 q.0) =
      q.2 ∙ ap (λ x. word_sum A n x q.0) d.2 ∙ V.sum_assoc v d.0 q.0 wv (generates_word A L n V ws d.0 d.1) (generates_word A L n V ws q.0 h) in
      subst (λ y. In y (map (word_sum A n v) (generated A n ws))) (sym same)
      (in_map (word_sum A n v) (generated A n ws) (word_sum A n d.0 q.0) (in_generated A L n ws (word_sum A n d.0 q.0) (generates_sum A L n V ws d.0 q.0 d.1 h)))

  -- a word and a word that differs from it by a generated word have one alias set
  one_alias_set : (a g : ℕ) → Word A n a → Generates A n ws g → alias_set A n ws a ≡ alias_set A n ws (word_sum A n a g)
  one_alias_set a g wa G =
      let wb = V.sum_word a g wa (generates_word A L n V ws g G) in
      ascending_same (map (word_sum A n a) (generated A n ws)) (map (word_sum A n (word_sum A n a g)) (generated A n ws))
      (moved a (word_sum A n a g) wb (differ_back A L n V ws a (word_sum A n a g) wa (g, G, refl)))
      (moved (word_sum A n a g) a wa (g, G, refl))

-- least aberration finds words of one alias set equal
pub aberration_aliases : (A : Arithmetic) → Lawful A → EqualAliases A (least_aberration A)
aberration_aliases A L n base f a g wa G =
    let same = one_alias_set A L n (space_at A L n a wa) base a g wa G in (
      subst (λ us. least_aberration_of us ≡ true) same (no_more_same (length_counts A (alias_set A n base a) 0 (suc n))),
      subst (λ us. least_aberration_from us ≡ true) same (no_more_same (length_counts A (alias_set A n base a) 0 (suc n))),
    )
  where
    least_aberration_of : List ℕ → Bool
    least_aberration_of us = no_more (length_counts A (alias_set A n base a) 0 (suc n)) (length_counts A us 0 (suc n))

    least_aberration_from : List ℕ → Bool
    least_aberration_from us = no_more (length_counts A us 0 (suc n)) (length_counts A (alias_set A n base a) 0 (suc n))
