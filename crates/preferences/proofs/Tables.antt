-- Costs are added up part by part, by tables of sums.
use Rattle.std.proofs.Common.{◌≡◌, ℕ, zero, suc, ◌+◌, ◌-◌, ◌*◌, ◌/◌, ◌%◌, ◌^◌, ◌<◌, ◌≤◌, eqb, ◌⊎◌, List, [], ◌∷◌, length, get_or, set, drop, replicate, sym, refl, ap, ap₂, ◌∙◌, ◌≢◌, subst, inl, inr, add_comm, pow-suc, zero-add, mul-zero, mul-suc, div-one, arith, get_or-set_other, get_or-set_same}
use Rattle.std.proofs.lemmas.Bool.{cases_Bool, cases_lt, cases_eq, cond-true, cond-false}
use Rattle.std.proofs.Math.Nat.{zero-mod, zero-div, div-eq_of_lt, pow-le-pow_right}
use Rattle.std.proofs.Math.Pow.{mod-mod-pow}
use Rattle.std.specs.Prelude.{bit_and}
use Rattle.std.proofs.lemmas.Nat.{and_mask, pow_pos, shr-shr, shr_high, mod_low, mod_below, mod-pow-add}
use Rattle.std.proofs.lemmas.List.{drop-drop, drop_all, get_or-drop, get_or-replicate, get_or_past, length-set, length-drop, length-replicate}
use Rattle.levels.specs.Arithmetic.{Arithmetic, Lawful, two}
use Rattle.levels.specs.Words.{digits, legal}
use Rattle.levels.specs.Space.{Word}
use Rattle.levels.proofs.Digits.{word_legal}
use Rattle.preferences.specs.Built.{cost, cost_score}
use Rattle.preferences.specs.Sums.{AreSums}
use Rattle.preferences.proofs.Points.{no_costs, cost_most}

module _ (A : Arithmetic) where
  -- a digit takes one bit or two
  pub few_bits : Lawful A → (A.bits ≡ 1) ⊎ (A.bits ≡ 2)
  few_bits lawful = elim (cases_Bool (eqb A.s 2)) [
    | inl t ↦ inl (lawful.width ∙ cond-true (eqb A.s 2) 1 2 t)
    | inr f ↦ inr (lawful.width ∙ cond-false (eqb A.s 2) 1 2 f)
  ]

  -- code 0 costs nothing
  pub cost_none : (costs : List ℕ) (m : ℕ) → cost costs (digits A m 0) ≡ 0
  cost_none costs zero = refl
  cost_none [] (suc m) = refl
  cost_none (c ∷ costs) (suc m) =
      let low : 0 % 2 ^ A.bits ≡ 0 = zero-mod (2 ^ A.bits) in
      let rest : 0 / 2 ^ A.bits ≡ 0 = zero-div (2 ^ A.bits) in
      rw (low, rest) (zero-add (cost costs (digits A m 0)) ∙ cost_none costs m)

  -- one digit more
  bits_more : (j : ℕ) → A.bits * suc j ≡ A.bits * j + A.bits
  bits_more j = rw mul-suc refl

  -- the lowest digits are those of the lowest bits
  pub low_digits : (j w : ℕ) → digits A j (w % 2 ^ (A.bits * j)) ≡ digits A j w
  low_digits zero w = refl
  low_digits (suc j) w =
      let e : A.bits * suc j ≡ A.bits * j + A.bits = bits_more j in
      let first : w % 2 ^ (A.bits * suc j) % 2 ^ A.bits ≡ w % 2 ^ A.bits = ap (λ k. w % 2 ^ k % 2 ^ A.bits) e ∙ mod-mod-pow w (A.bits * j) A.bits in
      let rest : w % 2 ^ (A.bits * suc j) / 2 ^ A.bits ≡ w / 2 ^ A.bits % 2 ^ (A.bits * j) =
      ap (λ k. w % 2 ^ k / 2 ^ A.bits) e ∙ ap (λ x. x / 2 ^ A.bits) (mod-pow-add w (A.bits * j) A.bits)
      ∙ shr_high (w / 2 ^ A.bits % 2 ^ (A.bits * j)) A.bits (w % 2 ^ A.bits) (mod_below w (2 ^ A.bits) (pow_pos A.bits)) in
      rw (first, rest) (ap (λ ds. w % 2 ^ A.bits ∷ ds) (low_digits j (w / 2 ^ A.bits)))

  -- what the lowest digits cost, and what the others do
  pub cost_split : (costs : List ℕ) (j m w : ℕ) → cost costs (digits A (j + m) w) ≡ cost costs (digits A j w) + cost (drop j costs) (digits A m (w / 2 ^ (A.bits * j)))
  cost_split costs zero m w = rw (mul-zero, div-one, zero-add m) (sym (zero-add (cost costs (digits A m w))))
  cost_split [] (suc j) m w = rw (no_costs (digits A (suc j + m) w), no_costs (digits A (suc j) w), no_costs (digits A m (w / 2 ^ (A.bits * suc j)))) refl
  cost_split (c ∷ costs) (suc j) m w =
      let more = cost_split costs j m (w / 2 ^ A.bits) in
      let e : suc j + m ≡ suc (j + m) = omega arith in
      let below : w / 2 ^ A.bits / 2 ^ (A.bits * j) ≡ w / 2 ^ (A.bits * suc j) =
      shr-shr w A.bits (A.bits * j) ∙ ap (λ k. w / 2 ^ k) (sym (bits_more j ∙ add_comm (A.bits * j) A.bits)) in
      let last = ap (λ v. cost (drop j costs) (digits A m v)) below in
      ap (λ k. cost (c ∷ costs) (digits A k w)) e ∙ omega (arith, more, last)

  -- a word of n factors costs what its 32 digits do
  pub cost_word : (costs : List ℕ) (n w : ℕ) → Word A n w → cost costs (digits A n w) ≡ cost costs (digits A 32 w)
  cost_word costs n w word =
      let legal = word_legal A n w word in
      let high = legal.high in
      let below : w < 2 ^ (A.bits * n) = legal.below in
      let split = cost_split costs n (32 - n) w in
      let e : n + (32 - n) ≡ 32 = omega arith in
      let none : w / 2 ^ (A.bits * n) ≡ 0 = div-eq_of_lt below in
      let rest = ap (λ v. cost (drop n costs) (digits A (32 - n) v)) none ∙ cost_none (drop n costs) (32 - n) in
      let all = ap (λ k. cost costs (digits A k w)) e in
      omega (arith, split, rest, all)

-- the score of a word
pub score_word : (A : Arithmetic) (costs : List ℕ) (n w : ℕ) → Word A n w → cost_score A costs n w ≡ cost costs (digits A 32 w)
score_word A costs n w word = cond-true (legal A n w) (cost costs (digits A n w)) 0 word ∙ cost_word A costs n w word

-- digits depend on their width alone
pub same_digits : (A B : Arithmetic) → A.bits ≡ B.bits → (n w : ℕ) → digits A n w ≡ digits B n w
same_digits A B e zero w = refl
same_digits A B e (suc n) w =
    ap (λ b. w % 2 ^ b ∷ digits A n (w / 2 ^ b)) e ∙ ap (λ ds. w % 2 ^ B.bits ∷ ds) (same_digits A B e n (w / 2 ^ B.bits))

-- the cost of one factor
cost_one : (costs : List ℕ) (m : ℕ) → cost costs (digits two (suc m) 1) ≡ get_or costs 0 0
cost_one [] m = refl
cost_one (c ∷ costs) m = omega (arith, cost_none two costs m)

-- a bit above the others costs what its factor does
cost_more : (costs : List ℕ) (j m low : ℕ) → low < 2 ^ j → cost costs (digits two (j + suc m) (2 ^ j + low)) ≡ cost costs (digits two (j + suc m) low) + get_or costs j 0
cost_more costs j m low l =
    let e : 2 ^ (1 * j) ≡ 2 ^ j = ap (λ k. 2 ^ k) (omega arith) in
    let with_bit = cost_split two costs j (suc m) (2 ^ j + low) in
    let without = cost_split two costs j (suc m) low in
    let turned : 2 ^ j + low ≡ 1 * 2 ^ j + low = omega arith in
    let high : (2 ^ j + low) / 2 ^ (1 * j) ≡ 1 = ap (λ k. (2 ^ j + low) / k) e ∙ ap (λ x. x / 2 ^ j) turned ∙ shr_high 1 j low l in
    let rest : (2 ^ j + low) % 2 ^ (1 * j) ≡ low = ap (λ k. (2 ^ j + low) % k) e ∙ ap (λ x. x % 2 ^ j) turned ∙ mod_low 1 j low l in
    let none : low / 2 ^ (1 * j) ≡ 0 = ap (λ k. low / k) e ∙ div-eq_of_lt l in
    let same : j + 0 ≡ j = omega arith in
    let a = ap (λ x. cost (drop j costs) (digits two (suc m) x)) high ∙ cost_one (drop j costs) m ∙ get_or-drop j costs 0 0 ∙ ap (λ i. get_or costs i 0) same in
    let b = ap (λ x. cost (drop j costs) (digits two (suc m) x)) none ∙ cost_none two (drop j costs) (suc m) in
    let c = ap (λ ds. cost costs ds) (sym (low_digits two j (2 ^ j + low)) ∙ ap (λ x. digits two j x) rest) in
    omega (arith, with_bit, without, a, b, c)

-- the sums below a place stand, and zeros from it on
pub record SumsUpto (end : ℕ) (costs sums : List ℕ) : Type 0 where
  pub size : length sums ≡ 384
  pub stand : (k y : ℕ) → y < 64 → 64 * k + y < end → get_or sums (64 * k + y) 0 ≡ cost (drop (6 * k) costs) (digits two 6 y)
  pub zeros : (i : ℕ) → end ≤ i → get_or sums i 0 ≡ 0

-- at the start none stand
pub sums_start : (costs : List ℕ) → SumsUpto 0 costs (replicate 384 0)
sums_start costs = record {
  size = length-replicate {A = ℕ} 384 0;
  stand = λ k y l below. absurd (omega arith);
  zeros = λ i l. elim (cases_lt i 384) [
    | inl within ↦ get_or-replicate 384 i 0 0 within
    | inr past ↦ get_or_past (replicate 384 0) i 0 (omega (arith, length-replicate {A = ℕ} 384 0))
  ];
}

-- the bits of a part are few
pub few_values : (j : ℕ) → j < 6 → 2 ^ j + 2 ^ j ≤ 64
few_values j l =
    let two_pos : 0 < 2 = omega arith in
    let more : suc j ≤ 6 = omega arith in
    let most : 2 ^ suc j ≤ 2 ^ 6 = pow-le-pow_right two_pos more in
    omega (arith, pow-suc 2 j, most)

-- a sum is at most what 32 factors cost
pub sum_most : (costs : List ℕ) (k y : ℕ) → length costs ≡ 32 → ((i : ℕ) → get_or costs i 0 < 65536) → cost (drop (6 * k) costs) (digits two 6 y) ≤ 2097120
sum_most costs k y size small =
    let most = cost_most (drop (6 * k) costs) (digits two 6 y) (λ i. subst (λ x. x < 65536) (sym (get_or-drop (6 * k) costs i 0)) (small (6 * k + i))) in
    omega (arith, most, length-drop (6 * k) costs)

-- one sum more: that without the highest bit, and the cost of its factor
pub sums_next : (k j rest x : ℕ) (costs sums : List ℕ) → k < 6 → j < 6 → rest < 2 ^ j → x ≡ get_or sums (64 * k + rest) 0 + get_or costs (6 * k + j) 0 →
    SumsUpto (64 * k + 2 ^ j + rest) costs sums → SumsUpto (64 * k + 2 ^ j + (rest + 1)) costs (set sums (64 * k + 2 ^ j + rest) x)
sums_next k j rest x costs sums lk lj l e upto =
    let end = 64 * k + 2 ^ j + rest in
    let few = few_values j lj in
    let size : length sums ≡ 384 = upto.size in
    let within : end < length sums = omega arith in
    let six : j + suc (5 - j) ≡ 6 = omega arith in
    let more = cost_more (drop (6 * k) costs) j (5 - j) rest l in
    let a = ap (λ n. cost (drop (6 * k) costs) (digits two n (2 ^ j + rest))) six in
    let b = ap (λ n. cost (drop (6 * k) costs) (digits two n rest)) six in
    let before = upto.stand k rest (omega arith) (omega arith) in
    let of_bit = get_or-drop (6 * k) costs j 0 in
    let value : x ≡ cost (drop (6 * k) costs) (digits two 6 (2 ^ j + rest)) = omega (arith, e, before, of_bit, more, a, b) in
    record {
      size = length-set sums end x ∙ upto.size;
      stand = λ q y ly below. elim (cases_eq (64 * q + y) end) [
        | inl here ↦
            let same : q ≡ k = omega arith in
            let y_is : y ≡ 2 ^ j + rest = omega arith in
            ap (λ i. get_or (set sums end x) i 0) here ∙ get_or-set_same sums end x 0 within ∙ value
            ∙ sym (ap₂ (λ p v. cost (drop (6 * p) costs) (digits two 6 v)) same y_is)
        | inr other ↦ get_or-set_other sums end (64 * q + y) x 0 other ∙ upto.stand q y ly (omega arith)
      ];
      zeros = λ i li. let other : i ≢ end = omega arith in get_or-set_other sums end i x 0 other ∙ upto.zeros i (omega arith);
    }

-- what the factors from a part on cost whose bits are set
abbrev pub cost_from : List ℕ → ℕ → ℕ → ℕ
cost_from costs k v = cost (drop (6 * k) costs) (digits two (36 - 6 * k) v)

-- from the first part on they are all
pub from_start : (costs : List ℕ) (m : ℕ) → length costs ≡ 32 → cost_from costs 0 (m / 1) ≡ cost costs (digits two 32 m)
from_start costs m size =
    let split = cost_split two costs 32 4 m in
    let none = ap (λ cs. cost cs (digits two 4 (m / 2 ^ 32))) (drop_all 32 costs (omega arith)) in
    ap (λ v. cost costs (digits two 36 v)) (div-one m) ∙ omega (arith, split, none)

-- a part, and those behind it
pub from_part : (costs sums : List ℕ) → AreSums costs sums → (m k : ℕ) → k < 6 →
    cost_from costs k (m / 2 ^ (6 * k)) ≡ get_or sums (64 * k + bit_and (m / 2 ^ (6 * k)) 63) 0 + cost_from costs (k + 1) (m / 2 ^ (6 * (k + 1)))
from_part costs sums of m k l =
    let v = m / 2 ^ (6 * k) in
    let left = 36 - 6 * (k + 1) in
    let count : 36 - 6 * k ≡ 6 + left = omega arith in
    let all = ap (λ n. cost (drop (6 * k) costs) (digits two n v)) count in
    let split = cost_split two (drop (6 * k) costs) 6 left v in
    let low = ap (λ x. get_or sums (64 * k + x) 0) (and_mask v 6) ∙ of k (v % 64) l (mod_below v 64 (omega arith)) ∙ ap (cost (drop (6 * k) costs)) (low_digits two 6 v) in
    let behind : 6 * k + 6 ≡ 6 * (k + 1) = omega arith in
    let costs_behind = drop-drop 6 (6 * k) costs ∙ ap (λ i. drop i costs) behind in
    let bits_behind : v / 64 ≡ m / 2 ^ (6 * (k + 1)) = shr-shr m (6 * k) 6 ∙ ap (λ i. m / 2 ^ i) behind in
    let rest = ap₂ (λ cs x. cost cs (digits two left x)) costs_behind bits_behind in
    omega (arith, all, split, low, rest)

-- behind the last part none are left
pub from_end : (costs : List ℕ) (k v : ℕ) → k ≡ 6 → cost_from costs k v ≡ 0
from_end costs k v e = ap (λ i. cost_from costs i v) e
