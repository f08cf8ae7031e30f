-- What a file says, check by check, and how it is read.
use Rattle.std.proofs.Common.{◌≡◌, ℕ, ◌+◌, ◌*◌, ◌/◌, ◌<◌, ◌≤◌, cond, ◌&&◌, eqb, ltb, leb, List, [], ◌∷◌, length, get_or, take, drop, map, Ok, Err, Result, sym, refl, ap, ap₂, ◌∙◌, arith}
use Rattle.std.proofs.lemmas.List.{at_drop_more, drop_more, length-drop}
use Rattle.std.proofs.lemmas.Bool.{and_parts, and_from, leb-true, ltb-false, eqb-true, eq-eqb, le-leb, le-ltb, cond-true, cond-false}
use Rattle.levels.specs.Arithmetic.{Arithmetic}
use Rattle.contents.specs.declared.refusal.Refusal.{Refusal}
use Rattle.contents.specs.declared.refusal.Refusal.TheVariants.{Factors, Limit, Cut, Mark, Version, Levels, Surplus}
use Rattle.contents.specs.declared.side.Side.{Side}
use Rattle.contents.specs.declared.side.Side.TheVariants.{Defining, Block}
use Rattle.contents.specs.Content.{Content, blank, started, admitted_all}
use Rattle.planfile.specs.declared.reading.Head.{Head}
use Rattle.planfile.specs.File.{number, past_head, past_size, words_in, read_words, read_file}
use Rattle.planfile.specs.Head.{head_of}
use Rattle.std.specs.Int.{from_le_bytes, w64}
use Rattle.std.specs.Simd.{first_chunks}
use Rattle.planfile.proofs.Coding.{number_8, words_front, words_behind}
use Rattle.contents.proofs.Outcomes.{and_then, then_ok, passed, failed, same_ok, started_ok}

-- what the checks of a head say
pub record Kind (A : Arithmetic) (f : List ℕ) : Type 0 where
  pub long : 9 ≤ length f
  pub byte_0 : get_or f 0 0 ≡ 68
  pub byte_1 : get_or f 1 0 ≡ 87
  pub byte_2 : get_or f 2 0 ≡ 70
  pub version : number (take 2 (drop 3 f)) ≡ 1
  pub levels : get_or f 5 0 ≡ A.s

kind_ok : {T : Type 0} (A : Arithmetic) (f : List ℕ) (r : Result T Refusal) (x : T) → past_head A f r ≡ Ok x → Kind A f × (r ≡ Ok x)
kind_ok A f r x h =
    let same = eqb (get_or f 5 0) A.s in
    let first = eqb (number (take 2 (drop 3 f))) 1 in
    let marked = eqb (get_or f 0 0) 68 && (eqb (get_or f 1 0) 87 && eqb (get_or f 2 0) 70) in
    let a = failed (ltb (length f) 9) (cond marked (cond first (cond same r (Err Levels)) (Err Version)) (Err Mark)) Cut x h in
    let b = passed marked (cond first (cond same r (Err Levels)) (Err Version)) Mark x a.1 in
    let d = passed first (cond same r (Err Levels)) Version x b.1 in
    let e = passed same r Levels x d.1 in
    let m = and_parts (eqb (get_or f 0 0) 68) (eqb (get_or f 1 0) 87 && eqb (get_or f 2 0) 70) b.0 in
    let k = and_parts (eqb (get_or f 1 0) 87) (eqb (get_or f 2 0) 70) m.1 in (
      record {
        long = ltb-false (length f) 9 a.0;
        byte_0 = eqb-true (get_or f 0 0) 68 m.0;
        byte_1 = eqb-true (get_or f 1 0) 87 k.0;
        byte_2 = eqb-true (get_or f 2 0) 70 k.1;
        version = eqb-true (number (take 2 (drop 3 f))) 1 d.0;
        levels = eqb-true (get_or f 5 0) A.s e.0;
      },
      e.1,
    )

kind_yes : {T : Type 0} (A : Arithmetic) (f : List ℕ) (r : Result T Refusal) → Kind A f → past_head A f r ≡ r
kind_yes A f r k =
    let same = eqb (get_or f 5 0) A.s in
    let first = eqb (number (take 2 (drop 3 f))) 1 in
    let marked = eqb (get_or f 0 0) 68 && (eqb (get_or f 1 0) 87 && eqb (get_or f 2 0) 70) in
    cond-false (ltb (length f) 9) (Err Cut) (cond marked (cond first (cond same r (Err Levels)) (Err Version)) (Err Mark)) (le-ltb (length f) 9 k.long)
    ∙ cond-true marked (cond first (cond same r (Err Levels)) (Err Version)) (Err Mark)
    (and_from (eqb (get_or f 0 0) 68) (eqb (get_or f 1 0) 87 && eqb (get_or f 2 0) 70) (eq-eqb (get_or f 0 0) 68 k.byte_0)
    (and_from (eqb (get_or f 1 0) 87) (eqb (get_or f 2 0) 70) (eq-eqb (get_or f 1 0) 87 k.byte_1) (eq-eqb (get_or f 2 0) 70 k.byte_2)))
    ∙ cond-true first (cond same r (Err Levels)) (Err Version) (eq-eqb (number (take 2 (drop 3 f))) 1 k.version)
    ∙ cond-true same r (Err Levels) (eq-eqb (get_or f 5 0) A.s k.levels)

-- what the checks of a number of words say
size_ok : {T : Type 0} (A : Arithmetic) (words len : ℕ) (r : Result T Refusal) (x : T) → past_size A words len r ≡ Ok x → (words ≤ A.limit) × (len ≡ 9 + 8 * words) × (r ≡ Ok x)
size_ok A words len r x h =
    let cut = ltb len (9 + 8 * words) in
    let more = ltb (9 + 8 * words) len in
    let b = passed (leb words A.limit) (cond cut (Err Cut) (cond more (Err Surplus) r)) Limit x h in
    let d = failed cut (cond more (Err Surplus) r) Cut x b.1 in
    let e = failed more r Surplus x d.1 in
    (leb-true words A.limit b.0, omega (arith, ltb-false len (9 + 8 * words) d.0, ltb-false (9 + 8 * words) len e.0), e.1)

size_yes : {T : Type 0} (A : Arithmetic) (words len : ℕ) (r : Result T Refusal) → words ≤ A.limit → len ≡ 9 + 8 * words → past_size A words len r ≡ r
size_yes A words len r few exact =
    let cut = ltb len (9 + 8 * words) in
    let more = ltb (9 + 8 * words) len in
    cond-true (leb words A.limit) (cond cut (Err Cut) (cond more (Err Surplus) r)) (Err Limit) (le-leb words A.limit few)
    ∙ cond-false cut (Err Cut) (cond more (Err Surplus) r) (le-ltb len (9 + 8 * words) (omega arith))
    ∙ cond-false more (Err Surplus) r (le-ltb (9 + 8 * words) len (omega arith))

-- what the further checks say
pub record Size (A : Arithmetic) (f : List ℕ) : Type 0 where
  pub low : 1 ≤ get_or f 6 0
  pub high : get_or f 6 0 ≤ 32
  pub few : get_or f 7 0 + get_or f 8 0 ≤ A.limit
  pub exact : length f ≡ 9 + 8 * (get_or f 7 0 + get_or f 8 0)

-- the words of a file, past its head
abbrev pub words_of : Arithmetic → List ℕ → Result Content Refusal
words_of A f = read_words A (get_or f 6 0) (get_or f 7 0) (get_or f 8 0) (drop 9 f)

-- a file whose checks pass is read by its words
read_checked : (A : Arithmetic) (f : List ℕ) → Kind A f → Size A f → read_file A f ≡ words_of A f
read_checked A f kind size =
    let n = get_or f 6 0 in
    let words = get_or f 7 0 + get_or f 8 0 in
    let sized : Result Content Refusal = past_size A words (length f) (words_of A f) in
    kind_yes A f (cond (leb 1 n && leb n 32) sized (Err Factors)) kind
    ∙ cond-true (leb 1 n && leb n 32) sized (Err Factors) (and_from (leb 1 n) (leb n 32) (le-leb 1 n size.low) (le-leb n 32 size.high))
    ∙ size_yes A words (length f) (words_of A f) size.few size.exact

-- what is known of a file that was read
pub record Read (A : Arithmetic) (f : List ℕ) (p : Content) : Type 0 where
  pub kind : Kind A f
  pub size : Size A f
  pub words : words_of A f ≡ Ok p

pub read_ok : (A : Arithmetic) (f : List ℕ) (p : Content) → read_file A f ≡ Ok p → Read A f p
read_ok A f p h =
    let n = get_or f 6 0 in
    let words = get_or f 7 0 + get_or f 8 0 in
    let sized : Result Content Refusal = past_size A words (length f) (words_of A f) in
    let k = kind_ok A f (cond (leb 1 n && leb n 32) sized (Err Factors)) p h in
    let r = passed (leb 1 n && leb n 32) sized Factors p k.1 in
    let range = and_parts (leb 1 n) (leb n 32) r.0 in
    let s = size_ok A words (length f) (words_of A f) p r.1 in
    record {
      kind = k.0;
      size = record { low = leb-true 1 n range.0; high = leb-true n 32 range.1; few = s.0; exact = s.1 };
      words = s.2;
    }

pub read_yes : (A : Arithmetic) (f : List ℕ) (p : Content) → Read A f p → read_file A f ≡ Ok p
read_yes A f p r = read_checked A f r.kind r.size ∙ r.words

-- a file is read by the chunks of 8 bytes behind its head: those of the defining list, and the others
pub read_chunks : (A : Arithmetic) (f rest : List ℕ) (chunks front back : List (List ℕ)) (h : Head) (k : ℕ) (p : Content) → rest ≡ drop 9 f → chunks ≡ first_chunks 8 (length rest / 8) rest → k ≡ h.defining → front ≡ take k chunks → back ≡ drop k chunks → past_head A f (Ok (head_of f)) ≡ Ok h → started h.factors ≡ Ok p → past_size A (h.defining + h.block) (length f) (Ok (tt {0})) ≡ Ok tt → read_file A f ≡ and_then (admitted_all A Defining (map number front) p) (admitted_all A Block (map number back))
read_chunks A f rest chunks front back h k p behind cut at fronts backs head starts sized =
    let d = h.defining in
    let b = h.block in
    let bs : List ℕ = drop 9 f in
    let kind = kind_ok A f (Ok (head_of f)) h head in
    let says : head_of f ≡ h = same_ok (head_of f) h kind.1 in
    let s = started_ok h.factors p starts in
    let size = size_ok A (d + b) (length f) (Ok tt) tt sized in
    let factors : get_or f 6 0 ≡ h.factors = ap (λ (v : Head). v.factors) says in
    let defining : get_or f 7 0 ≡ d = ap (λ (v : Head). v.defining) says in
    let block : get_or f 8 0 ≡ b = ap (λ (v : Head). v.block) says in
    let checked = read_checked A f kind.0 record { low = omega (arith, s.low); high = omega (arith, s.high); few = omega (arith, size.0); exact = omega (arith, size.1) } in
    let many : length rest / 8 ≡ d + b = omega (arith, ap length behind, length-drop 9 f, size.1) in
    let all : chunks ≡ first_chunks 8 (d + b) bs = cut ∙ ap₂ (first_chunks 8) many behind in
    let first : map number front ≡ words_in d bs = ap (map number) (fronts ∙ ap₂ take at all) ∙ words_front d (d + b) bs (omega arith) in
    let others : map number back ≡ words_in b (drop (8 * d) bs) = ap (map number) (backs ∙ ap₂ drop at all) ∙ words_behind d b (d + b) bs refl in
    checked ∙ ap (λ (v : Head). read_words A v.factors v.defining v.block bs) says
    ∙ cc (s.result, first, others)

-- of the words that are left, the next is admitted before the others
pub next_word : (A : Arithmetic) (side : Side) (chunks : List (List ℕ)) (i w : ℕ) (p : Content) → i < length chunks → length (get_or chunks i []) ≡ 8 → w ≡ from_le_bytes w64 (get_or chunks i []) → admitted_all A side (map number (drop i chunks)) p ≡ admitted_all A side (w ∷ map number (drop (i + 1) chunks)) p
next_word A side chunks i w p l eight is =
    at_drop_more (λ us. admitted_all A side (map number us) p) chunks i [] l
    ∙ ap (λ v. admitted_all A side (v ∷ map number (drop (i + 1) chunks)) p) (sym (is ∙ number_8 (get_or chunks i []) eight))

-- the words of a file that was read, first those of the defining list
pub read_words_ok : (A : Arithmetic) (n d b : ℕ) (bs : List ℕ) (q : Content) → read_words A n d b bs ≡ Ok q → (p : Content) × (admitted_all A Defining (words_in d bs) (blank n) ≡ Ok p) × (admitted_all A Block (words_in b (drop (8 * d) bs)) p ≡ Ok q)
read_words_ok A n d b bs q h = then_ok (admitted_all A Defining (words_in d bs) (blank n)) (admitted_all A Block (words_in b (drop (8 * d) bs))) q h

-- a file begins with its nine bytes
pub nine : (f : List ℕ) → 9 ≤ length f → f ≡ get_or f 0 0 ∷ get_or f 1 0 ∷ get_or f 2 0 ∷ get_or f 3 0 ∷ get_or f 4 0 ∷ get_or f 5 0 ∷ get_or f 6 0 ∷ get_or f 7 0 ∷ get_or f 8 0 ∷ drop 9 f
nine f l =
    drop_more f 0 0 (omega arith)
    ∙ ap (λ us. get_or f 0 0 ∷ us) (drop_more f 1 0 (omega arith)
    ∙ ap (λ us. get_or f 1 0 ∷ us) (drop_more f 2 0 (omega arith)
    ∙ ap (λ us. get_or f 2 0 ∷ us) (drop_more f 3 0 (omega arith)
    ∙ ap (λ us. get_or f 3 0 ∷ us) (drop_more f 4 0 (omega arith)
    ∙ ap (λ us. get_or f 4 0 ∷ us) (drop_more f 5 0 (omega arith)
    ∙ ap (λ us. get_or f 5 0 ∷ us) (drop_more f 6 0 (omega arith)
    ∙ ap (λ us. get_or f 6 0 ∷ us) (drop_more f 7 0 (omega arith)
    ∙ ap (λ us. get_or f 7 0 ∷ us) (drop_more f 8 0 (omega arith)))))))))

-- the version in its two bytes
pub version_bytes : (f : List ℕ) → 9 ≤ length f → number (take 2 (drop 3 f)) ≡ get_or f 3 0 + 256 * get_or f 4 0
version_bytes f l =
    let e : drop 3 f ≡ get_or f 3 0 ∷ get_or f 4 0 ∷ drop 5 f =
    drop_more f 3 0 (omega arith) ∙ ap (λ us. get_or f 3 0 ∷ us) (drop_more f 4 0 (omega arith)) in
    ap (λ us. number (take 2 us)) e ∙ omega arith
