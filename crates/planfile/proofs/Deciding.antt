-- The first 138 bytes of a file decide which plan it holds, or how it is refused.
use Rattle.std.proofs.Common.{◌≡◌, ℕ, ◌+◌, ◌*◌, ◌<◌, ◌≤◌, cond, ◌&&◌, eqb, leb, ltb, List, [], ◌∷◌, length, take, drop, get_or, ◌++◌, Ok, Err, Result, Option, None, Some, IfSome, sym, ap, ◌∙◌, subst, inl, inr, arith}
use Rattle.std.proofs.lemmas.Bool.{cases_Bool, cases_lt, leb-true, lt-ltb, le-ltb, cond-true, cond-false}
use Rattle.std.proofs.lemmas.List.{take_all, take-append-le, append-nil, append_assoc, length-append, length-take-le, length-drop}
use Rattle.std.specs.Io.KnownBytes.{Consumes, IsAtEnd, Keeps, ReadConsumes}
use Rattle.levels.specs.Arithmetic.{Arithmetic}
use Rattle.contents.specs.declared.refusal.Refusal.{Refusal}
use Rattle.contents.specs.declared.refusal.Refusal.TheVariants.{Factors, Limit, Surplus, Cut, Mark, Version, Levels}
use Rattle.contents.specs.Content.{Content}
use Rattle.contents.proofs.Membership.{limit_small}
use Rattle.planfile.specs.File.{number, past_size, read_words, read_file, ReadsAlike}
use Rattle.planfile.proofs.Files.{nine}

-- a file of more than 137 bytes has too many words, or surplus bytes
surplus : {X : Type 0} (A : Arithmetic) (words len : ℕ) (next : Result X Refusal) → A.limit ≤ 16 → 138 ≤ len → past_size A words len next ≡ cond (leb words A.limit) (Err Surplus) (Err Limit)
surplus A words len next small long =
    let end = 9 + 8 * words in
    let sized : Result _ Refusal = cond (ltb len end) (Err Cut) (cond (ltb end len) (Err Surplus) next) in
    elim (cases_Bool (leb words A.limit)) [
      | inl t ↦ let few = leb-true words A.limit t in
          cond-true (leb words A.limit) sized (Err Limit) t
          ∙ cond-false (ltb len end) (Err Cut) (cond (ltb end len) (Err Surplus) next) (le-ltb len end (omega (arith, few)))
          ∙ cond-true (ltb end len) (Err Surplus) next (lt-ltb end len (omega (arith, few)))
          ∙ sym (cond-true (leb words A.limit) (Err Surplus) (Err Limit) t)
      | inr f ↦ cond-false (leb words A.limit) sized (Err Limit) f ∙ sym (cond-false (leb words A.limit) (Err Surplus) (Err Limit) f)
    ]

-- how a file of these nine bytes and 129 more, or further ones, is refused
checks : Arithmetic → ℕ → ℕ → ℕ → ℕ → ℕ → ℕ → ℕ → ℕ → ℕ → Result Content Refusal
checks A b₀ b₁ b₂ b₃ b₄ b₅ b₆ b₇ b₈ =
    cond (eqb b₀ 68 && (eqb b₁ 87 && eqb b₂ 70))
    (cond (eqb (number (b₃ ∷ b₄ ∷ [])) 1)
    (cond (eqb b₅ A.s)
    (cond (leb 1 b₆ && leb b₆ 32) (cond (leb (b₇ + b₈) A.limit) (Err Surplus) (Err Limit)) (Err Factors))
    (Err Levels)) (Err Version)) (Err Mark)

-- whatever those further bytes are
checked : (A : Arithmetic) (b₀ b₁ b₂ b₃ b₄ b₅ b₆ b₇ b₈ : ℕ) (bs : List ℕ) → A.limit ≤ 16 → 129 ≤ length bs → read_file A (b₀ ∷ b₁ ∷ b₂ ∷ b₃ ∷ b₄ ∷ b₅ ∷ b₆ ∷ b₇ ∷ b₈ ∷ bs) ≡ checks A b₀ b₁ b₂ b₃ b₄ b₅ b₆ b₇ b₈
unfolding checks
checked A b₀ b₁ b₂ b₃ b₄ b₅ b₆ b₇ b₈ bs small long =
    let f : List ℕ = b₀ ∷ b₁ ∷ b₂ ∷ b₃ ∷ b₄ ∷ b₅ ∷ b₆ ∷ b₇ ∷ b₈ ∷ bs in
    let rest : Result Content Refusal → Result Content Refusal = λ r.
    cond (eqb b₀ 68 && (eqb b₁ 87 && eqb b₂ 70))
    (cond (eqb (number (b₃ ∷ b₄ ∷ [])) 1)
    (cond (eqb b₅ A.s) (cond (leb 1 b₆ && leb b₆ 32) r (Err Factors)) (Err Levels)) (Err Version)) (Err Mark) in
    let words = read_words A b₆ b₇ b₈ bs in
    cond-false (ltb (length f) 9) (Err Cut) (rest (past_size A (b₇ + b₈) (length f) words)) (le-ltb (length f) 9 (omega (arith, long)))
    ∙ ap rest (surplus A (b₇ + b₈) (length f) words small (omega (arith, long)))

-- the first 138 bytes of an input are read as all of it
pub deciding : (input : List ℕ) → ReadsAlike (take 138 input) input
deciding input A L = elim (cases_lt 138 (length input)) [
  | inl l ↦
      let is = nine input (omega (arith, l)) in
      let b : ℕ → ℕ = λ i. get_or input i 0 in
      let bs : List ℕ = drop 9 input in
      let small = limit_small A L in
      let many : 129 ≤ length bs = omega (arith, l, length-drop 9 input) in
      let first : length (take 129 bs) ≡ 129 = length-take-le 129 bs many in
      ap (λ us. read_file A (take 138 us)) is
      ∙ checked A (b 0) (b 1) (b 2) (b 3) (b 4) (b 5) (b 6) (b 7) (b 8) (take 129 bs) small (omega (arith, first))
      ∙ sym (checked A (b 0) (b 1) (b 2) (b 3) (b 4) (b 5) (b 6) (b 7) (b 8) bs small many)
      ∙ sym (ap (read_file A) is)
  | inr r ↦ ap (read_file A) (take_all 138 input r)
]

-- bytes that an input gave before its end are its first 138, where they are as many
pub first_full : (a b : Option (List ℕ)) (bs : List ℕ) → Consumes a b bs → length bs ≡ 138 → IfSome a (λ input. bs ≡ take 138 input)
first_full None b bs h l = tt
first_full (Some x) None bs h l = absurd h
first_full (Some x) (Some y) bs h l =
    sym (ap (take 138) h ∙ take-append-le 138 bs y (omega (arith, l)) ∙ take_all 138 bs (omega (arith, l)))

-- the same, where they are fewer and the input is at its end
ended : (a b : Option (List ℕ)) (bs : List ℕ) → Consumes a b bs → IsAtEnd b → length bs ≤ 138 → IfSome a (λ input. bs ≡ take 138 input)
ended None b bs h e l = tt
ended (Some x) None bs h e l = absurd h
ended (Some x) (Some y) bs h e l =
    let all : x ≡ bs = h ∙ ap (λ us. bs ++ us) e ∙ append-nil bs in
    sym (ap (take 138) all ∙ take_all 138 bs l)

-- the same of an input that may be known
pub first_decide : (a : Option (List ℕ)) (bs : List ℕ) → IfSome a (λ input. bs ≡ take 138 input) → IfSome a (ReadsAlike bs)
first_decide None bs h = tt
first_decide (Some x) bs h = subst (λ us. ReadsAlike us x) (sym h) (deciding x)

-- bytes are taken one after the other
joined : (a b c : Option (List ℕ)) (bs more : List ℕ) → Consumes a b bs → Consumes b c more → Consumes a c (bs ++ more)
joined None b c bs more p q = tt
joined (Some x) None c bs more p q = absurd p
joined (Some x) (Some y) None bs more p q = absurd q
joined (Some x) (Some y) (Some z) bs more p q = p ∙ ap (λ us. bs ++ us) q ∙ sym (append_assoc bs more z)

-- known bytes that stay are taken as before
same : (a b c : Option (List ℕ)) (bs : List ℕ) → Consumes a b bs → Keeps b c → Consumes a c bs
same None b c bs h k = tt
same (Some x) None c bs h k = absurd h
same (Some x) (Some y) None bs h k = absurd k
same (Some x) (Some y) (Some z) bs h k = h ∙ ap (λ us. bs ++ us) (sym k)

-- A read into a buffer for which there is room, after the bytes bs.
module _ {E : Type 0} (a b c : Option (List ℕ)) (r : Result ℕ E) (bs buf : List ℕ) (before : Consumes a b bs) (read : ReadConsumes b c r buf) where
  -- it gives nothing, and the input is at its end
  pub first_ended : (n : ℕ) → r ≡ Ok n → n ≡ 0 → 0 < length buf → length bs ≤ 138 → IfSome a (λ input. bs ≡ take 138 input)
  first_ended n is none some few =
      let taken = subst (λ v. ReadConsumes b c v buf) is read in
      let all = joined a b c bs [] before (subst (λ k. Consumes b c (take k buf)) none taken.0) in
      ended a c bs (subst (Consumes a c) (append-nil bs) all) (taken.1 none some) few

  -- it gives bytes at the front of the buffer
  pub first_more : (n : ℕ) (rest now : List ℕ) → r ≡ Ok n → n ≤ length buf → length bs + length buf ≤ 138 → now ≡ take 138 (bs ++ take n (buf ++ rest)) → Consumes a c now
  first_more n rest now is within room all =
      let more : List ℕ = take n buf in
      let taken = subst (λ v. ReadConsumes b c v buf) is read in
      let fits : length (bs ++ more) ≤ 138 = omega (arith, room, within, length-append bs more, length-take-le n buf within) in
      let gives : now ≡ bs ++ more = all ∙ ap (λ us. take 138 (bs ++ us)) (take-append-le n buf rest within) ∙ take_all 138 (bs ++ more) fits in
      subst (Consumes a c) (sym gives) (joined a b c bs more before taken.0)

  -- it fails
  pub first_same : (e : E) → r ≡ Err e → Consumes a c bs
  first_same e is = same a b c bs before (subst (λ v. ReadConsumes b c v buf) is read)
