-- The theorems of specs/Theorems.antt, collected from the lemmas.
use Rattle.std.proofs.Common.{◌≡◌, ℕ, ◌<◌, false, List, [], ◌∷◌, get_or, sym, subst, inl, inr, arith}
use Rattle.std.proofs.lemmas.Bool.{both_ways}
use Rattle.levels.specs.Arithmetic.{Arithmetic, Lawful}
use Rattle.levels.specs.Words.{legal}
use Rattle.levels.specs.Space.{AllWords}
use Rattle.levels.specs.Generated.{Independent, combinations}
use Rattle.levels.specs.Theorems.{CodesAndDigits, WordsAreAVectorSpace, Lengths, Generation}
use Rattle.levels.proofs.Places.{Distinct}
use Rattle.levels.proofs.Digits.{one_code, digit_place}
use Rattle.levels.proofs.Space.{vector_space, no_words}
use Rattle.levels.proofs.Lengths.{length_digits, length_at_most, length_zero}
use Rattle.levels.proofs.Generation.{combinations_distinct}
use Rattle.levels.proofs.Any.{in_range_or_none, any_trans, any_exchange, any_bound, any_same_length, any_length, any_place}

module _ (A : Arithmetic) (L : Lawful A) where
  pub codes_and_digits : CodesAndDigits A
  codes_and_digits = record {
    code_of = λ n low high ds e t. let c = one_code A L n low high ds e t in (c.0, c.1);
    only_code = λ n low high ds e t. (one_code A L n low high ds e t).2;
    digit_at = digit_place A;
    no_words = no_words A;
  }

  pub words_are_a_vector_space : WordsAreAVectorSpace A
  words_are_a_vector_space = vector_space A L

  pub lengths : Lengths A
  lengths = record { counts = length_digits A; at_most = length_at_most A; zero_alone = length_zero A }

  -- the combinations of an independent list of words stand at different places for every n
  distinct_places : (n : ℕ) (ws : List ℕ) → AllWords A n ws → Independent A n ws → Distinct (combinations A n ws)
  distinct_places n ws words ind = elim (in_range_or_none A n) [
    | inl r ↦ combinations_distinct A L n (vector_space A L n r.0 r.1) ws ind words
    | inr none ↦ alone ws words none
  ]
    where
      alone : (us : List ℕ) → AllWords A n us → ((w : ℕ) → legal A n w ≡ false) → Distinct (combinations A n us)
      alone [] h z i j li lj e = omega arith
      alone (u ∷ us) h z i j li lj e = absurd (both_ways (legal A n u) (z u) (h 0 (omega arith)))

  pub generation : (n : ℕ) → Generation A n
  generation n = let V = vector_space A L n in record {
    transitive = any_trans A L n V;
    exchange = any_exchange A L n V;
    at_most = any_bound A L n V;
    equally_long = λ us vs wu wv iu iv same. any_same_length A L n V us vs iu iv
        (λ i li. (same (get_or us i 0)).0 (any_place A L n V us i (wu i li)))
        (λ i li. (same (get_or vs i 0)).1 (any_place A L n V vs i (wv i li)));
    as_many = any_length A L n V;
    distinct = λ ws words ind i j li lj e. distinct_places n ws words ind i j
        (subst (λ k. i < k) (sym (any_length A L n V ws)) li) (subst (λ k. j < k) (sym (any_length A L n V ws)) lj) e;
  }
