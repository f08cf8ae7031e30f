-- Numbers and words in bytes, and back.
use Rattle.std.proofs.Common.{◌≡◌, ℕ, zero, suc, ◌+◌, ◌*◌, ◌/◌, ◌%◌, ◌^◌, ◌<◌, ◌≤◌, List, [], ◌∷◌, ◌++◌, length, get_or, take, drop, map, sym, refl, ap, ◌∙◌, pow-suc, arith, shr-shr}
use native.Mathlib.Nat.{pow-zero}
use Rattle.std.proofs.lemmas.List.{append-nil, append_assoc, take-append-drop, take-take, take_more, drop-take, drop-drop, length-append}
use Rattle.std.proofs.lemmas.Slice.Eq.{text_from_reads}
use Rattle.std.specs.Int.{from_le_bytes, w64}
use Rattle.std.specs.Simd.{first_chunks}
use Rattle.planfile.specs.File.{number, bytes, words_in, word_bytes}

-- the eight bytes of a number
pub eight_bytes : (w : ℕ) → bytes 8 w ≡ w % 256 ∷ w / 256 % 256 ∷ w / 65536 % 256 ∷ w / 16777216 % 256 ∷ w / 4294967296 % 256 ∷ w / 1099511627776 % 256 ∷ w / 281474976710656 % 256 ∷ w / 72057594037927936 % 256 ∷ []
eight_bytes w =
    let two : w / 256 / 256 ≡ w / 65536 = shr-shr w 8 8 in
    let three : w / 65536 / 256 ≡ w / 16777216 = shr-shr w 16 8 in
    let four : w / 16777216 / 256 ≡ w / 4294967296 = shr-shr w 24 8 in
    let five : w / 4294967296 / 256 ≡ w / 1099511627776 = shr-shr w 32 8 in
    let six : w / 1099511627776 / 256 ≡ w / 281474976710656 = shr-shr w 40 8 in
    let seven : w / 281474976710656 / 256 ≡ w / 72057594037927936 = shr-shr w 48 8 in
    rw (two, three, four, five, six, seven)

-- so many bytes
pub length_bytes : (k x : ℕ) → length (bytes k x) ≡ k
length_bytes zero x = refl
length_bytes (suc k) x = ap suc (length_bytes k (x / 256))

-- a number that fits so many bytes is spelt by them
pub number_bytes : (k x : ℕ) → x < 256 ^ k → number (bytes k x) ≡ x
number_bytes zero x h = omega (arith, pow-zero 256)
number_bytes (suc k) x h =
    let small : x / 256 < 256 ^ k = omega (arith, pow-suc 256 k) in
    ap (λ v. x % 256 + 256 * v) (number_bytes k (x / 256) small) ∙ omega arith

-- bytes are those of the number that they spell
pub bytes_number : (bs : List ℕ) → ((i : ℕ) → i < length bs → get_or bs i 0 < 256) → bytes (length bs) (number bs) ≡ bs
bytes_number [] h = refl
bytes_number (b ∷ bs) h =
    let small : b < 256 = h 0 (omega arith) in
    let low : (b + 256 * number bs) % 256 ≡ b = omega arith in
    let rest : (b + 256 * number bs) / 256 ≡ number bs = omega arith in
    rw (low, rest) (ap (λ us. b ∷ us) (bytes_number bs (λ i l. h (suc i) (omega arith))))

-- the bytes of words in a row
pub word_bytes_append : (us vs : List ℕ) → word_bytes (us ++ vs) ≡ word_bytes us ++ word_bytes vs
word_bytes_append [] vs = refl
word_bytes_append (u ∷ us) vs =
    ap (λ zs. bytes 8 u ++ zs) (word_bytes_append us vs) ∙ sym (append_assoc (bytes 8 u) (word_bytes us) (word_bytes vs))

-- eight bytes for each word
pub length_word_bytes : (ws : List ℕ) → length (word_bytes ws) ≡ 8 * length ws
length_word_bytes [] = refl
length_word_bytes (w ∷ ws) = omega (arith, length-append (bytes 8 w) (word_bytes ws), length_bytes 8 w, length_word_bytes ws)

-- the words of a front, one more
pub word_bytes_more : (ws : List ℕ) (i : ℕ) → i < length ws → word_bytes (take (i + 1) ws) ≡ word_bytes (take i ws) ++ bytes 8 (get_or ws i 0)
word_bytes_more ws i l =
    ap word_bytes (take_more ws i 0 l) ∙ word_bytes_append (take i ws) (get_or ws i 0 ∷ [])
    ∙ ap (λ zs. word_bytes (take i ws) ++ zs) (append-nil (bytes 8 (get_or ws i 0)))

-- a front in two parts
pub take_parts : (a b : ℕ) (xs : List ℕ) → take (a + b) xs ≡ take a xs ++ take b (drop a xs)
take_parts a b xs =
    sym (take-append-drop a (take (a + b) xs))
    ∙ ap (λ zs. zs ++ drop a (take (a + b) xs)) (take-take a (a + b) xs (omega arith))
    ∙ ap (λ zs. take a xs ++ zs) (drop-take a b xs)

-- so many words
pub length_words_in : (k : ℕ) (bs : List ℕ) → length (words_in k bs) ≡ k
length_words_in zero bs = refl
length_words_in (suc k) bs = ap suc (length_words_in k (drop 8 bs))

-- words that fit 64 bits are read back
pub words_back : (ws rest : List ℕ) → ((i : ℕ) → i < length ws → get_or ws i 0 < 2 ^ 64) → words_in (length ws) (word_bytes ws ++ rest) ≡ ws
words_back [] rest h = refl
words_back (w ∷ ws) rest h =
    let fits : w < 256 ^ 8 = h 0 (omega arith) in
    let first : number (bytes 8 w) ≡ w = number_bytes 8 w fits in
    ap (λ us. number (bytes 8 w) ∷ us) (words_back ws rest (λ i l. h (suc i) (omega arith))) ∙ ap (λ v. v ∷ ws) first

-- eight bytes spell a number of 64 bits
pub number_8 : (bs : List ℕ) → length bs ≡ 8 → from_le_bytes w64 bs ≡ number bs
number_8 bs l =
    let each : bs ≡ get_or bs 0 0 ∷ get_or bs 1 0 ∷ get_or bs 2 0 ∷ get_or bs 3 0 ∷ get_or bs 4 0 ∷ get_or bs 5 0 ∷ get_or bs 6 0 ∷ get_or bs 7 0 ∷ [] =
    text_from_reads bs (get_or bs 0 0 ∷ get_or bs 1 0 ∷ get_or bs 2 0 ∷ get_or bs 3 0 ∷ get_or bs 4 0 ∷ get_or bs 5 0 ∷ get_or bs 6 0 ∷ get_or bs 7 0 ∷ []) l
    (refl, (refl, (refl, (refl, (refl, (refl, (refl, (refl, tt)))))))) in
    sym (ap number each ∙ omega arith)

-- the words of chunks of 8 bytes
pub words_all : (k : ℕ) (bs : List ℕ) → map number (first_chunks 8 k bs) ≡ words_in k bs
words_all zero bs = refl
words_all (suc k) bs = ap (λ ws. number (take 8 bs) ∷ ws) (words_all k (drop 8 bs))

-- those of the first of them
pub words_front : (d k : ℕ) (bs : List ℕ) → d ≤ k → map number (take d (first_chunks 8 k bs)) ≡ words_in d bs
words_front zero k bs l = refl
words_front (suc d) zero bs l = absurd (omega arith)
words_front (suc d) (suc k) bs l = ap (λ ws. number (take 8 bs) ∷ ws) (words_front d k (drop 8 bs) (omega arith))

-- and those of the others
pub words_behind : (d b k : ℕ) (bs : List ℕ) → d + b ≡ k → map number (drop d (first_chunks 8 k bs)) ≡ words_in b (drop (8 * d) bs)
words_behind zero b k bs e = words_all k bs ∙ ap (λ m. words_in m bs) (omega arith)
words_behind (suc d) b zero bs e = absurd (omega arith)
words_behind (suc d) b (suc k) bs e =
    let next : 8 + 8 * d ≡ 8 * suc d = omega arith in
    words_behind d b k (drop 8 bs) (omega arith) ∙ ap (words_in b) (drop-drop (8 * d) 8 bs ∙ ap (λ m. drop m bs) next)
