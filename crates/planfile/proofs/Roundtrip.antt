-- A plan that is kept is read back from its file, and a file that was read is the file of what was read, which is kept.
use Rattle.std.proofs.Common.{◌≡◌, ℕ, zero, suc, ◌+◌, ◌*◌, ◌^◌, ◌<◌, ◌≤◌, true, cond, ltb, List, [], ◌∷◌, ◌++◌, length, get_or, take, drop, Ok, Err, Result, sym, refl, ap, ◌∙◌, subst, arith}
use Rattle.std.proofs.lemmas.List.{append-nil, append_assoc, take_at, take_all, drop_at, get_or_at, get_or-take, get_or-drop, length-append, length-drop, length-take-le}
use Rattle.std.proofs.lemmas.Bool.{cond-true, cond-false, lt-ltb}
use Rattle.levels.specs.Arithmetic.{Arithmetic, Lawful}
use Rattle.levels.specs.Words.{legal}
use Rattle.levels.specs.Space.{Word}
use Rattle.levels.specs.Generated.{Generates, generated, holds}
use Rattle.levels.proofs.Generation.{independent_before, independent_left}
use Rattle.levels.proofs.Space.{vector_space}
use Rattle.contents.specs.declared.refusal.Refusal.{Refusal}
use Rattle.contents.specs.declared.refusal.Refusal.TheVariants.{Illegal, Generated, Limit}
use Rattle.contents.specs.declared.side.Side.{Side}
use Rattle.contents.specs.declared.side.Side.TheVariants.{Defining, Block}
use Rattle.contents.specs.Content.{Content, Kept, blank, both, side_of, with_side, admitted, admitted_all}
use Rattle.planfile.specs.File.{number, bytes, words_in, word_bytes, file_of, read_words, read_file}
use Rattle.planfile.proofs.Coding.{bytes_number, length_words_in, length_word_bytes, take_parts, words_back}
use Rattle.planfile.proofs.Files.{read_ok, read_yes, read_words_ok, nine, version_bytes}
use Rattle.contents.proofs.Keeps.{Sound, sound, each_left, each_right, blank_kept, admitted_all_kept}
use Rattle.contents.proofs.Membership.{not_held, word_fits}
use Rattle.contents.proofs.Outcomes.{same_ok, admitted_ok, admitted_all_ok, all_onward}

-- another list on one side leaves the factors
side_factors : (side : Side) (ws : List ℕ) (p : Content) → (with_side side ws p).factors ≡ p.factors
side_factors Defining ws p = refl
side_factors Block ws p = refl

-- no word more on one side
side_kept : (side : Side) (p : Content) → with_side side (side_of side p ++ []) p ≡ p
side_kept Defining p = ap (λ us. with_side Defining us p) (append-nil p.defining)
side_kept Block p = ap (λ us. with_side Block us p) (append-nil p.block)

-- one word more, and then others
side_again : (side : Side) (w : ℕ) (ws : List ℕ) (p : Content) →
    let q = with_side side (side_of side p ++ w ∷ []) p in with_side side (side_of side q ++ ws) q ≡ with_side side (side_of side p ++ w ∷ ws) p
side_again Defining w ws p = ap (λ us. with_side Defining us p) (append_assoc p.defining (w ∷ []) ws)
side_again Block w ws p = ap (λ us. with_side Block us p) (append_assoc p.block (w ∷ []) ws)

-- a content by its parts
abbrev of : ℕ → List ℕ → List ℕ → Content
of n ds bs = record { factors = n; defining = ds; block = bs }

module _ (A : Arithmetic) (L : Lawful A) where
  -- the next word of sound words is admitted
  next_admitted : (side : Side) (w : ℕ) (p : Content) (rest : List ℕ) → Sound A p.factors (both p ++ w ∷ rest) → admitted A side w p ≡ Ok (with_side side (side_of side p ++ w ∷ []) p)
  next_admitted side w p rest s =
      let n = p.factors in
      let i = length (both p) in
      let here : get_or (both p ++ w ∷ rest) i 0 ≡ w = get_or_at (both p) w rest 0 i refl in
      let within : i < length (both p ++ w ∷ rest) = omega (arith, length-append (both p) (w ∷ rest)) in
      let lawful : legal A n w ≡ true = subst (λ v. legal A n v ≡ true) here (s.words i within) in
      let before : Generates A n (both p) w → ⊥ = λ g.
      independent_before A L n (vector_space A L n s.low s.high) (both p ++ w ∷ rest) s.independent i within
      (subst (λ v. Generates A n (take i (both p ++ w ∷ rest)) v) (sym here)
      (subst (λ us. Generates A n us w) (sym (take_at (both p) (w ∷ rest) i refl)) g)) in
      let known = holds (generated A n (both p)) w in
      let more : Result Content Refusal = Ok (with_side side (side_of side p ++ w ∷ []) p) in
      let full : Result Content Refusal = cond (ltb i A.limit) more (Err Limit) in
      cond-true (legal A n w) (cond known (Err Generated) full) (Err Illegal) lawful
      ∙ cond-false known (Err Generated) full (not_held A L n (both p) w before)
      ∙ cond-true (ltb i A.limit) more (Err Limit) (lt-ltb i A.limit (omega (arith, s.few)))

  -- sound words are admitted to one list, one after the other, where no others stand behind it
  all_admitted : (side : Side) (ws : List ℕ) (p : Content) → ((us : List ℕ) → both (with_side side (side_of side p ++ us) p) ≡ both p ++ us) → Sound A p.factors (both p ++ ws)
      → admitted_all A side ws p ≡ Ok (with_side side (side_of side p ++ ws) p)
  all_admitted side [] p behind s = ap Ok (sym (side_kept side p))
  all_admitted side (w ∷ ws) p behind s =
      let q = with_side side (side_of side p ++ w ∷ []) p in
      let whole : (us : List ℕ) → both q ++ us ≡ both p ++ w ∷ us = λ us. ap (λ zs. zs ++ us) (behind (w ∷ [])) ∙ append_assoc (both p) (w ∷ []) us in
      let behind' : (us : List ℕ) → both (with_side side (side_of side q ++ us) q) ≡ both q ++ us = λ us. ap both (side_again side w us p) ∙ behind (w ∷ us) ∙ sym (whole us) in
      let s' : Sound A q.factors (both q ++ ws) = subst (λ n. Sound A n (both q ++ ws)) (sym (side_factors side (side_of side p ++ w ∷ []) p)) (subst (Sound A p.factors) (sym (whole ws)) s) in
      all_onward A side w ws p q (next_admitted side w p ws s) ∙ all_admitted side ws q behind' s' ∙ ap Ok (side_again side w ws p)

  -- of sound words in two lists, those of the first are sound
  sound_left : (n : ℕ) (ds bs : List ℕ) → Sound A n (ds ++ bs) → Sound A n ds
  sound_left n ds bs s = record {
    low = s.low;
    high = s.high;
    few = omega (arith, s.few, length-append ds bs);
    words = each_left (Word A n) ds bs s.words;
    independent = independent_left A L n (vector_space A L n s.low s.high) ds bs s.independent;
  }

  -- the words of a plan that is kept are read back from their bytes
  pub words_read : (p : Content) → Kept A p → read_words A p.factors (length p.defining) (length p.block) (word_bytes p.defining ++ word_bytes p.block) ≡ Ok p
  words_read p k =
      let n = p.factors in
      let ds = p.defining in
      let bs = p.block in
      let s = sound A p k in
      let fits-d : (i : ℕ) → i < length ds → get_or ds i 0 < 2 ^ 64 = λ i l. word_fits A L n (get_or ds i 0) (each_left (Word A n) ds bs s.words i l) in
      let fits-b : (i : ℕ) → i < length bs → get_or bs i 0 < 2 ^ 64 = λ i l. word_fits A L n (get_or bs i 0) (each_right (Word A n) ds bs s.words i l) in
      let rest : List ℕ = word_bytes ds ++ word_bytes bs in
      let read-d : words_in (length ds) rest ≡ ds = words_back ds (word_bytes bs) fits-d in
      let read-b : words_in (length bs) (drop (8 * length ds) rest) ≡ bs =
      ap (words_in (length bs)) (drop_at (word_bytes ds) (word_bytes bs) (8 * length ds) (length_word_bytes ds) ∙ sym (append-nil (word_bytes bs)))
      ∙ words_back bs [] fits-b in
      let first : admitted_all A Defining (words_in (length ds) rest) (blank n) ≡ Ok (of n ds []) =
      ap (λ ws. admitted_all A Defining ws (blank n)) read-d ∙ all_admitted Defining ds (blank n) append-nil (sound_left n ds bs s) in
      let second : admitted_all A Block (words_in (length bs) (drop (8 * length ds) rest)) (of n ds []) ≡ Ok (of n ds bs) =
      ap (λ ws. admitted_all A Block ws (of n ds [])) read-b
      ∙ all_admitted Block bs (of n ds []) (λ us. ap (λ zs. zs ++ us) (sym (append-nil ds))) (subst (λ zs. Sound A n (zs ++ bs)) (sym (append-nil ds)) s) in
      ap (λ (m : Result Content Refusal).
      let out : Result Content Refusal = elim m [ Ok q ↦ admitted_all A Block (words_in (length bs) (drop (8 * length ds) rest)) q | Err e ↦ Err e ] in out) first
      ∙ second

  -- a plan that is kept is read back from its file
  pub file_back : (p : Content) → Kept A p → read_file A (file_of A p) ≡ Ok p
  file_back p k =
      let f : List ℕ = file_of A p in
      let long : length f ≡ 9 + 8 * (length p.defining + length p.block) =
      omega (arith, length-append (word_bytes p.defining) (word_bytes p.block), length_word_bytes p.defining, length_word_bytes p.block) in
      read_yes A f p record {
        kind = record { long = omega arith; byte_0 = refl; byte_1 = refl; byte_2 = refl; version = refl; levels = refl };
        size = record { low = k.low; high = k.high; few = omega (arith, k.few, length-append p.defining p.block); exact = long };
        words = words_read p k;
      }

  -- a file that was read holds a plan that is kept
  pub read_file_kept : (f : List ℕ) (p : Content) → read_file A f ≡ Ok p → Kept A p
  read_file_kept f p h =
      let r = read_ok A f p h in
      let n = get_or f 6 0 in
      let w = read_words_ok A n (get_or f 7 0) (get_or f 8 0) (drop 9 f) p r.words in
      let first : Kept A w.0 = admitted_all_kept A L Defining (words_in (get_or f 7 0) (drop 9 f)) (blank n) w.0 (blank_kept A n r.size.low r.size.high) w.1 in
      admitted_all_kept A L Block (words_in (get_or f 8 0) (drop (8 * get_or f 7 0) (drop 9 f))) w.0 p first w.2

-- words that were admitted to one list stand behind those before them
added : (A : Arithmetic) (side : Side) (ws : List ℕ) (p q : Content) → admitted_all A side ws p ≡ Ok q → q ≡ with_side side (side_of side p ++ ws) p
added A side [] p q h = sym (same_ok p q h) ∙ sym (side_kept side p)
added A side (w ∷ ws) p q h =
    let r = admitted_all_ok A side w ws p q h in
    let e = (admitted_ok A side w p r.0 r.1).result in
    added A side ws r.0 q r.2 ∙ ap (λ v. with_side side (side_of side v ++ ws) v) e ∙ side_again side w ws p

-- what words were read from is their bytes
bytes_back : (k : ℕ) (bs : List ℕ) → 8 * k ≤ length bs → ((i : ℕ) → get_or bs i 0 < 256) → word_bytes (words_in k bs) ≡ take (8 * k) bs
bytes_back zero bs l fits = refl
bytes_back (suc k) bs l fits =
    let eight : length (take 8 bs) ≡ 8 = length-take-le 8 bs (omega arith) in
    let first : bytes 8 (number (take 8 bs)) ≡ take 8 bs =
    ap (λ m. bytes m (number (take 8 bs))) (sym eight)
    ∙ bytes_number (take 8 bs) (λ i m. subst (λ v. v < 256) (sym (get_or-take 8 bs i 0 (omega arith))) (fits i)) in
    let others : word_bytes (words_in k (drop 8 bs)) ≡ take (8 * k) (drop 8 bs) =
    bytes_back k (drop 8 bs) (omega (arith, length-drop 8 bs)) (λ i. subst (λ v. v < 256) (sym (get_or-drop 8 bs i 0)) (fits (8 + i))) in
    let next : 8 + 8 * k ≡ 8 * suc k = omega arith in
    ap (λ us. us ++ word_bytes (words_in k (drop 8 bs))) first ∙ ap (λ us. take 8 bs ++ us) others
    ∙ sym (take_parts 8 (8 * k) bs) ∙ ap (λ m. take m bs) next

-- a file of bytes that was read is the file of what was read
pub read_back : (A : Arithmetic) (f : List ℕ) (p : Content) → ((i : ℕ) → get_or f i 0 < 256) → read_file A f ≡ Ok p → file_of A p ≡ f
read_back A f p fits h =
    let r = read_ok A f p h in
    let k = r.kind in
    let n = get_or f 6 0 in
    let d = get_or f 7 0 in
    let b = get_or f 8 0 in
    let rest : List ℕ = drop 9 f in
    let w = read_words_ok A n d b rest p r.words in
    let ds : List ℕ = words_in d rest in
    let bs : List ℕ = words_in b (drop (8 * d) rest) in
    let made : p ≡ of n ds bs =
    added A Block bs w.0 p w.2 ∙ ap (λ v. with_side Block (v.block ++ bs) v) (added A Defining ds (blank n) w.0 w.1) in
    let long : length rest ≡ 8 * d + 8 * b = omega (arith, length-drop 9 f, r.size.exact) in
    let small : (i : ℕ) → get_or rest i 0 < 256 = λ i. subst (λ v. v < 256) (sym (get_or-drop 9 f i 0)) (fits (9 + i)) in
    let bytes-d : word_bytes ds ≡ take (8 * d) rest = bytes_back d rest (omega arith) small in
    let bytes-b : word_bytes bs ≡ take (8 * b) (drop (8 * d) rest) =
    bytes_back b (drop (8 * d) rest) (omega (arith, length-drop (8 * d) rest)) (λ i. subst (λ v. v < 256) (sym (get_or-drop (8 * d) rest i 0)) (small (8 * d + i))) in
    let words : word_bytes ds ++ word_bytes bs ≡ rest =
    ap (λ us. us ++ word_bytes bs) bytes-d ∙ ap (λ us. take (8 * d) rest ++ us) bytes-b ∙ sym (take_parts (8 * d) (8 * b) rest)
    ∙ take_all (8 * d + 8 * b) rest (omega arith) in
    let version = version_bytes f k.long in
    let three : 1 ≡ get_or f 3 0 = omega (arith, k.version) in
    let four : 0 ≡ get_or f 4 0 = omega (arith, k.version) in
    let count-d : length ds ≡ d = length_words_in d rest in
    let count-b : length bs ≡ b = length_words_in b (drop (8 * d) rest) in
    let whole = nine f k.long in
    ap (file_of A) made ∙ cc (k.byte_0, k.byte_1, k.byte_2, k.levels)
