-- The parity of the letters of a word that are at level 1 in a run, by bits.
use Rattle.std.proofs.Common.{◌≡◌, ℕ, zero, suc, ◌+◌, ◌*◌, ◌/◌, ◌%◌, ◌^◌, ◌<◌, cond, not, ◌&&◌, eqb, List, [], ◌∷◌, length, get_or, drop, sym, refl, ap, ◌∙◌, ap₂, mul_assoc, mul_comm, add-mul, pow-suc, add-one, arith}
use lib.Bits.{bit_and, bit_xor, and_shr, and_mod, xor_shr, xor_mod, and_zero_l, and_zero_r, and_self}
use lib.Count.{ones, ones_in, ones_step, ones_cat}
use Rattle.std.proofs.lemmas.Nat.{pow_pos, shr_split, shr_high, mod_low, mod_below}
use Rattle.std.proofs.lemmas.List.{at_drop_more}
use Rattle.levels.specs.Computed.{all₂, all₃}
use Rattle.aliasing.specs.Runs.{letters_at_one, all_even, block_number}
use Rattle.aliasing.specs.Table.{odd, evens, block_bits}

-- the common letters at factor 1 and those beyond it
ones_and : (x w : ℕ) → ones (bit_and x w) ≡ bit_and (x % 2) (w % 2) + ones (bit_and (x / 2) (w / 2))
ones_and x w = ones_step (bit_and x w) ∙ ap₂ (λ a b. a + ones b) (and_mod x w 1) (and_shr x w 1)

-- no letter is at level 1 in run 0
pub odd_none : (w : ℕ) → odd 0 w ≡ 0
unfolding ones ones_in
odd_none w = rw (and_zero_l w)

-- code 0 has no letter
pub odd_blank : (x : ℕ) → odd x 0 ≡ 0
unfolding ones ones_in
odd_blank x = rw (and_zero_r x)

-- letters at level 1 are bits that both codes have
pub letters_ones : (n x w : ℕ) → x < 2 ^ n → letters_at_one n x w ≡ ones (bit_and x w)
unfolding ones ones_in
letters_ones zero x w l = let z : x ≡ 0 = omega arith in rw (z, and_zero_l w)
letters_ones (suc n) x w l =
    let ih = letters_ones n (x / 2) (w / 2) (omega (arith, pow-suc 2 n)) in
    let digit = all₂ 2 (λ a b. cond (eqb a 1 && not (eqb b 0)) 1 0) bit_and refl (x % 2) (w % 2) (omega arith) (omega arith) in
    ap₂ (λ a b. a + b) digit ih ∙ sym (ones_and x w)

-- the parity of a sum is that of the sum of the parities
mod_plus : (a b : ℕ) → (a + b) % 2 ≡ (a % 2 + b % 2) % 2
mod_plus a b = omega arith

-- the parity of a sum, from those of its parts
join : (a b c d e f : ℕ) → a % 2 ≡ (b + c) % 2 → d % 2 ≡ (e % 2 + f % 2) % 2 → (a + d) % 2 ≡ ((b + e) % 2 + (c + f) % 2) % 2
join a b c d e f p q =
    let q' = q ∙ sym (mod_plus e f) in
    let swap : b + c + (e + f) ≡ b + e + (c + f) = omega arith in
    mod_plus a d ∙ ap₂ (λ x y. (x + y) % 2) p q' ∙ sym (mod_plus (b + c) (e + f)) ∙ ap (λ k. k % 2) swap ∙ mod_plus (b + e) (c + f)

-- the parity of a sum of words is the sum of the parities
pub odd_sum : (n x a b : ℕ) → x < 2 ^ n → odd x (bit_xor a b) ≡ (odd x a + odd x b) % 2
odd_sum zero x a b l =
    let z : x ≡ 0 = omega arith in rw z (omega (arith, odd_none (bit_xor a b), odd_none a, odd_none b))
odd_sum (suc n) x a b l =
    let ih = odd_sum n (x / 2) (a / 2) (b / 2) (omega (arith, pow-suc 2 n)) in
    let digit = all₃ 2 (λ d e f. bit_and d (bit_xor e f) % 2) (λ d e f. (bit_and d e + bit_and d f) % 2) refl (x % 2) (a % 2) (b % 2) (omega arith) (omega arith) (omega arith) in
    let low = ap (λ e. bit_and (x % 2) e) (xor_mod a b 1) in
    let high = ap (λ e. ones (bit_and (x / 2) e)) (xor_shr a b 1) in
    ap (λ k. k % 2) (ones_and x (bit_xor a b) ∙ ap₂ (λ c d. c + d) low high)
    ∙ join (bit_and (x % 2) (bit_xor (a % 2) (b % 2))) (bit_and (x % 2) (a % 2)) (bit_and (x % 2) (b % 2))
    (ones (bit_and (x / 2) (bit_xor (a / 2) (b / 2)))) (ones (bit_and (x / 2) (a / 2))) (ones (bit_and (x / 2) (b / 2))) digit ih
    ∙ sym (ap₂ (λ c d. (c % 2 + d % 2) % 2) (ones_and x a) (ones_and x b))

-- the common letters below a place and those from it on
pub ones_block : (k x t : ℕ) → ones (bit_and x t) ≡ ones (bit_and (x / 2 ^ k) (t / 2 ^ k)) + ones (bit_and (x % 2 ^ k) (t % 2 ^ k))
ones_block k x t =
    ap ones (sym (shr_split (bit_and x t) k))
    ∙ ones_cat k (bit_and x t / 2 ^ k) (bit_and x t % 2 ^ k) (mod_below (bit_and x t) (2 ^ k) (pow_pos k))
    ∙ ap₂ (λ a b. ones a + ones b) (and_shr x t k) (and_mod x t k)

-- a single letter
ones_power : (k : ℕ) → ones (2 ^ k) ≡ 1
unfolding ones ones_in
ones_power k = let e : 2 ^ k ≡ 1 * 2 ^ k + 0 = omega arith in ap ones e ∙ ones_cat k 1 0 (pow_pos k)

-- the common letters of a word and a run that is whole from a place on, with one letter more just below that place
ones_more : (k x t : ℕ) → x % 2 ^ suc k ≡ 0 → ones (bit_and (x + 2 ^ k) t) ≡ ones (bit_and x t) + ones (bit_and (2 ^ k) (t % 2 ^ suc k))
unfolding ones ones_in
ones_more k x t z =
    let K = suc k in
    let half : 2 ^ k < 2 ^ K = omega (arith, pow-suc 2 k, pow_pos k) in
    let whole : x / 2 ^ K * 2 ^ K + 2 ^ k ≡ x + 2 ^ k = omega (arith, shr_split x K) in
    let high : (x + 2 ^ k) / 2 ^ K ≡ x / 2 ^ K = ap (λ y. y / 2 ^ K) (sym whole) ∙ shr_high (x / 2 ^ K) K (2 ^ k) half in
    let low : (x + 2 ^ k) % 2 ^ K ≡ 2 ^ k = ap (λ y. y % 2 ^ K) (sym whole) ∙ mod_low (x / 2 ^ K) K (2 ^ k) half in
    let blank : ones (bit_and (x % 2 ^ K) (t % 2 ^ K)) ≡ 0 = ap (λ r. ones (bit_and r (t % 2 ^ K))) z ∙ ap ones (and_zero_l (t % 2 ^ K)) in
    let more = ones_block K (x + 2 ^ k) t ∙ ap₂ (λ a b. ones (bit_and a (t / 2 ^ K)) + ones (bit_and b (t % 2 ^ K))) high low in
    omega (arith, more, ones_block K x t, blank)

-- a letter that is not in a word leaves its parity
pub odd_same : (k x t : ℕ) → x % 2 ^ suc k ≡ 0 → t % 2 ^ suc k ≡ 0 → odd (x + 2 ^ k) t ≡ odd x t
unfolding ones ones_in
odd_same k x t z e =
    let none : ones (bit_and (2 ^ k) (t % 2 ^ suc k)) ≡ 0 = ap (λ r. ones (bit_and (2 ^ k) r)) e ∙ ap ones (and_zero_r (2 ^ k)) in
    omega (arith, ones_more k x t z, none)

-- the lowest letter of a word turns its parity
pub odd_turned : (k x t : ℕ) → x % 2 ^ suc k ≡ 0 → t % 2 ^ suc k ≡ 2 ^ k → odd (x + 2 ^ k) t ≡ (odd x t + 1) % 2
odd_turned k x t z e =
    let one : ones (bit_and (2 ^ k) (t % 2 ^ suc k)) ≡ 1 = ap (λ r. ones (bit_and (2 ^ k) r)) e ∙ ap ones (and_self (2 ^ k)) ∙ ones_power k in
    omega (arith, ones_more k x t z, one)

-- all words are even by letters exactly if they are by bits
pub all_even_bits : (n : ℕ) (ws : List ℕ) (x : ℕ) → x < 2 ^ n → all_even n ws x ≡ evens ws x
all_even_bits n [] x l = refl
all_even_bits n (w ∷ ws) x l = ap₂ (λ c b. eqb (c % 2) 0 && b) (letters_ones n x w l) (all_even_bits n ws x l)

-- the block number by letters is the one by bits
pub block_number_bits : (n x : ℕ) (ws : List ℕ) → x < 2 ^ n → block_number n x ws ≡ block_bits x ws
block_number_bits n x [] l = refl
block_number_bits n x (w ∷ ws) l = ap₂ (λ c b. c % 2 + 2 * b) (letters_ones n x w l) (block_number_bits n x ws l)

-- one binary digit of a block number more
pub block_more : (number o rest i all : ℕ) → number + (o + 2 * rest) * 2 ^ i ≡ all → number + o * 2 ^ i + rest * 2 ^ (i + 1) ≡ all
block_more number o rest i all h =
    let power : 2 ^ (i + 1) ≡ 2 ^ i * 2 = ap (λ k. 2 ^ k) (add-one i) ∙ pow-suc 2 i in
    let high : 2 * rest * 2 ^ i ≡ rest * 2 ^ (i + 1) =
    ap (λ k. k * 2 ^ i) (mul_comm 2 rest) ∙ mul_assoc rest 2 (2 ^ i) ∙ ap (λ k. rest * k) (mul_comm 2 (2 ^ i) ∙ sym power) in
    omega (arith, h, add-mul o (2 * rest) (2 ^ i), high)

-- one word of a list more
pub block_next : (x : ℕ) (ws : List ℕ) (i number number' all : ℕ) → i < length ws → number' ≡ number + odd x (get_or ws i 0) * 2 ^ i →
    number + block_bits x (drop i ws) * 2 ^ i ≡ all → number' + block_bits x (drop (i + 1) ws) * 2 ^ (i + 1) ≡ all
block_next x ws i number number' all l e h =
    let step : block_bits x (drop i ws) ≡ odd x (get_or ws i 0) + 2 * block_bits x (drop (i + 1) ws) = at_drop_more (block_bits x) ws i 0 l in
    ap (λ k. k + block_bits x (drop (i + 1) ws) * 2 ^ (i + 1)) e
    ∙ block_more number (odd x (get_or ws i 0)) (block_bits x (drop (i + 1) ws)) i all (ap (λ k. number + k * 2 ^ i) (sym step) ∙ h)
