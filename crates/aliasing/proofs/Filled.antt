-- A list that is written over memory, one number after the other.
use Rattle.std.proofs.Common.{◌≡◌, ℕ, zero, suc, ◌+◌, ◌-◌, ◌<◌, ◌≤◌, List, [], ◌∷◌, ◌++◌, map, length, get_or, take, drop, set, min, sym, refl, ap, ap₂, ◌∙◌, inl, inr, le_of_suc-le-suc, not-suc-le-zero, add-one, arith, length-append, length-take, append_assoc}
use Rattle.std.specs.List.{copy_within}
use Rattle.std.proofs.lemmas.Bool.{cases_lt}
use Rattle.std.proofs.lemmas.List.{take_min, drop_min, get_or-map, length-map, take_all, take_at, drop_at, take-append-drop, take-map, take-take}
use Rattle.aliasing.specs.Filled.{filled}

-- memory keeps its length
pub filled_length : (xs ys : List ℕ) → length (filled xs ys) ≡ length ys
filled_length [] ys = refl
filled_length (x ∷ xs) [] = refl
filled_length (x ∷ xs) (y ∷ ys) = ap suc (filled_length xs ys)

-- a front of the list that memory has room for
pub filled_front : (xs ys : List ℕ) (k : ℕ) → k ≤ length xs → k ≤ length ys → take k (filled xs ys) ≡ take k xs
filled_front xs ys zero h l = refl
filled_front [] ys (suc k) h l = absurd (not-suc-le-zero h)
filled_front (x ∷ xs) [] (suc k) h l = absurd (not-suc-le-zero l)
filled_front (x ∷ xs) (y ∷ ys) (suc k) h l = ap (λ zs. x ∷ zs) (filled_front xs ys k (le_of_suc-le-suc h) (le_of_suc-le-suc l))

-- the front of memory over itself
pub filled_own : (k : ℕ) (ys : List ℕ) → filled (take k ys) ys ≡ ys
filled_own zero ys = refl
filled_own (suc k) [] = refl
filled_own (suc k) (y ∷ ys) = ap (λ zs. y ∷ zs) (filled_own k ys)

-- a longer list over a shorter one
pub filled_over : (xs zs ys : List ℕ) → filled (xs ++ zs) (filled xs ys) ≡ filled (xs ++ zs) ys
filled_over [] zs ys = refl
filled_over (x ∷ xs) zs [] = refl
filled_over (x ∷ xs) zs (y ∷ ys) = ap (λ l. x ∷ l) (filled_over xs zs ys)

-- where memory is full nothing more is written
pub filled_beyond : (xs zs ys : List ℕ) → length ys ≤ length xs → filled (xs ++ zs) ys ≡ filled xs ys
filled_beyond [] [] [] h = refl
filled_beyond [] (z ∷ zs) [] h = refl
filled_beyond [] zs (y ∷ ys) h = absurd (not-suc-le-zero h)
filled_beyond (x ∷ xs) zs [] h = refl
filled_beyond (x ∷ xs) zs (y ∷ ys) h = ap (λ l. x ∷ l) (filled_beyond xs zs ys (le_of_suc-le-suc h))

-- a list over memory: what there is room for, and what memory held beyond the list
filled_parts : (xs ys : List ℕ) → take (length ys) xs ++ drop (length xs) ys ≡ filled xs ys
filled_parts [] [] = refl
filled_parts [] (y ∷ ys) = refl
filled_parts (x ∷ xs) [] = refl
filled_parts (x ∷ xs) (y ∷ ys) = ap (λ zs. x ∷ zs) (filled_parts xs ys)

-- the same by how many are written
pub filled_written : (xs ys : List ℕ) (k : ℕ) → k ≡ min (length ys) (length xs) → take k xs ++ drop k ys ≡ filled xs ys
filled_written xs ys k e =
    let turned : k ≡ min (length xs) (length ys) = omega arith in
    ap₂ (λ a b. a ++ b) (ap (λ j. take j xs) e ∙ take_min (length ys) xs) (ap (λ j. drop j ys) turned ∙ drop_min (length xs) ys)
    ∙ filled_parts xs ys

-- one number more
pub filled_more : (xs ys : List ℕ) (i v : ℕ) → v ≡ get_or xs i 0 → i < length xs → i < length ys → set (filled (take i xs) ys) i v ≡ filled (take (i + 1) xs) ys
filled_more xs ys i v e h k = rw (e, add-one) (next xs ys i h k)
  where
    next : (xs ys : List ℕ) (i : ℕ) → i < length xs → i < length ys → set (filled (take i xs) ys) i (get_or xs i 0) ≡ filled (take (suc i) xs) ys
    next [] ys i h k = absurd (not-suc-le-zero h)
    next (x ∷ xs) [] i h k = absurd (not-suc-le-zero k)
    next (x ∷ xs) (y ∷ ys) zero h k = refl
    next (x ∷ xs) (y ∷ ys) (suc i) h k = ap (λ l. x ∷ l) (next xs ys i (le_of_suc-le-suc h) (le_of_suc-le-suc k))

-- no memory takes nothing
pub filled_none : (xs ys : List ℕ) → length ys ≡ 0 → ys ≡ filled xs ys
filled_none xs ys e = sym (filled_beyond [] xs ys (omega arith))

-- one number alone
pub filled_one : (v : ℕ) (ys : List ℕ) → (length ys ≡ 0 → ⊥) → set ys 0 v ≡ filled (v ∷ []) ys
filled_one v [] d = absurd (d refl)
filled_one v (y ∷ ys) d = refl

-- a place that is not yet written
pub filled_behind : (xs ys : List ℕ) (i : ℕ) → get_or (filled (take i xs) ys) i 0 ≡ get_or ys i 0
filled_behind xs ys zero = refl
filled_behind [] ys (suc i) = refl
filled_behind (x ∷ xs) [] (suc i) = refl
filled_behind (x ∷ xs) (y ∷ ys) (suc i) = filled_behind xs ys i

-- what a function makes of each number of a list, in its place
module _ (f : ℕ → ℕ) where
  -- one more
  pub made_more : (ys now : List ℕ) (i v : ℕ) → now ≡ filled (take i (map f ys)) ys → i < length ys → v ≡ f (get_or now i 0) → set now i v ≡ filled (take (i + 1) (map f ys)) ys
  made_more ys now i v e h is =
      let here : get_or now i 0 ≡ get_or ys i 0 = ap (λ zs. get_or zs i 0) e ∙ filled_behind (map f ys) ys i in
      ap (λ zs. set zs i v) e
      ∙ filled_more (map f ys) ys i v (is ∙ ap f here ∙ sym (get_or-map f ys i 0 0 h)) (omega (arith, length-map ys f)) h

  -- all of them
  pub made_all : (ys : List ℕ) (i : ℕ) → length ys ≤ i → filled (take i (map f ys)) ys ≡ map f ys
  made_all ys i h = ap (λ zs. filled zs ys) (take_all i (map f ys) (omega (arith, length-map ys f))) ∙ over ys
    where
      over : (ys : List ℕ) → filled (map f ys) ys ≡ map f ys
      over [] = refl
      over (y ∷ ys) = ap (λ zs. f y ∷ zs) (over ys)

-- the numbers so far, then what a function makes of the first of them: these are put behind, and the function made of each in its place
pub appended : (f : ℕ → ℕ) (ys : List ℕ) (front len more : ℕ) (copied made : List ℕ) → front ≤ len → len ≤ length ys → more ≡ min front (length ys - len) →
    copied ≡ copy_within ys 0 more len → made ≡ map f (take (len + more - len) (drop len copied)) →
    take len copied ++ (made ++ drop (len + more - len) (drop len copied)) ≡ filled (take len ys ++ map f (take front ys)) ys
appended f ys front len more copied made below room few is all =
    let A = take len ys in
    let B = take more ys in
    let D = drop (len + more) ys in
    let M = map f (take front ys) in
    let long : length A ≡ len = omega (arith, length-take len ys) in
    let same : len + more - len ≡ more = omega arith in
    let whole : more - 0 ≡ more = omega arith in
    let parts : copied ≡ A ++ (B ++ D) = is ∙ ap (λ k. take len ys ++ take k ys ++ drop (len + k) ys) whole ∙ append_assoc A B D in
    let before : take len copied ≡ A = ap (λ l. take len l) parts ∙ take_at A (B ++ D) len long in
    let from : drop len copied ≡ B ++ D = ap (λ l. drop len l) parts ∙ drop_at A (B ++ D) len long in
    let size : length B ≡ more = omega (arith, length-take more ys) in
    let part : take (len + more - len) (drop len copied) ≡ B = ap₂ (λ n l. take n l) same from ∙ take_at B D more size in
    let rest : drop (len + more - len) (drop len copied) ≡ D = ap₂ (λ n l. drop n l) same from ∙ drop_at B D more size in
    let first : take more M ≡ map f B = take-map f more (take front ys) ∙ ap (λ l. map f l) (take-take more front ys (omega arith)) in
    let written : take (len + more) (A ++ M) ≡ A ++ map f B =
    ap (λ l. take (len + more) (A ++ l)) (sym (take-append-drop more M))
    ∙ ap (λ l. take (len + more) l) (sym (append_assoc A (take more M) (drop more M)))
    ∙ take_at (A ++ take more M) (drop more M) (len + more) (omega (arith, length-append A (take more M), length-take more M, length-map (take front ys) f, length-take front ys))
    ∙ ap (λ l. A ++ l) first in
    ap₂ (λ p q. p ++ q) before (ap₂ (λ p q. p ++ q) (all ∙ ap (λ l. map f l) part) rest)
    ∙ sym (append_assoc A (map f B) D)
    ∙ ap (λ l. l ++ D) (sym written)
    ∙ filled_written (A ++ M) ys (len + more) (omega (arith, length-append A M, length-map (take front ys) f, length-take front ys))

-- from a list over memory to a longer one: what a function makes of a front of it stands behind
pub chained : (f : ℕ → ℕ) (xs ys : List ℕ) (front len : ℕ) → front ≤ length xs → front ≤ length ys → len ≡ min (length xs) (length ys) →
    filled (take len (filled xs ys) ++ map f (take front (filled xs ys))) (filled xs ys) ≡ filled (xs ++ map f (take front xs)) ys
chained f xs ys front len h k e =
    let M = filled xs ys in
    let long = filled_length xs ys in
    ap (λ l. filled (take len M ++ map f l) M) (filled_front xs ys front h k)
    ∙ elim (cases_lt (length ys) (length xs)) [
      | inl l ↦
          ap (λ l. filled (l ++ map f (take front xs)) M) (take_all len M (omega arith))
          ∙ filled_beyond M (map f (take front xs)) M (omega arith)
          ∙ ap (λ l. filled l M) (sym (take_all (length M) M (omega arith)))
          ∙ filled_own (length M) M
          ∙ sym (filled_beyond xs (map f (take front xs)) ys (omega arith))
      | inr g ↦
          ap (λ l. filled (l ++ map f (take front xs)) M) (filled_front xs ys len (omega arith) (omega arith) ∙ take_all len xs (omega arith))
          ∙ filled_over xs (map f (take front xs)) ys
    ]
