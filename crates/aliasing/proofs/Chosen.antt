-- Runs counted by their highest levels, and a run chosen by its number, from the highest level down.
use Rattle.std.proofs.Common.{◌≡◌, ℕ, zero, suc, ◌+◌, ◌-◌, ◌*◌, ◌/◌, ◌%◌, ◌^◌, ◌<◌, ◌≤◌, Bool, true, false, cond, ◌&&◌, eqb, ◌⊎◌, List, [], ◌∷◌, ◌++◌, filter, length, get_or, take, drop, sym, refl, ap, ◌∙◌, subst, ap₂, inl, inr, add-zero, mod-eq_of_lt, one-mul, pow-suc, zero-add, zero-mul, add-one, one-add, arith, drop-cons, length-append}
use native.Mathlib.Nat.{zero-mod, add-mod_right}
use lib.Bits.{bit_and, and_mask}
use Rattle.std.proofs.lemmas.Nat.{pow_pos, pow-add, mod-pow-add, mod_low, mod_below}
use Rattle.std.proofs.lemmas.List.{get_or-drop, take_more}
use Rattle.std.proofs.lemmas.List.Elements.{filter-append}
use Rattle.std.proofs.lemmas.Bool.{and_from, cases_eq, cond_both, cond-true, cond-false, eqb-true, eqb-false, eq-eqb, ne_eqb}
use Rattle.levels.specs.Arithmetic.{two}
use Rattle.levels.specs.Words.{legal}
use Rattle.levels.specs.Space.{AllWords}
use Rattle.levels.specs.Generated.{generated, Independent}
use Rattle.aliasing.specs.Runs.{is_run, all_even, runs_below, Run}
use Rattle.aliasing.specs.Table.{odd, evens, empty_below, empty_table, all_placed, Rows}
use Rattle.aliasing.proofs.Parity.{odd_none, odd_blank, odd_same, odd_turned}
use Rattle.aliasing.proofs.Evens.{run_test}
use Rattle.aliasing.proofs.Placed.{rows_of}

-- run 0 is even under every list
evens_none : (ts : List ℕ) → evens ts 0 ≡ true
evens_none [] = refl
evens_none (t ∷ ts) = and_from (eqb (odd 0 t) 0) (evens ts 0) (eq-eqb (odd 0 t) 0 (odd_none t)) (evens_none ts)

-- codes under which each row has the same parity
pub evens_same : (ts : List ℕ) (x y : ℕ) → ((i : ℕ) → odd x (get_or ts i 0) ≡ odd y (get_or ts i 0)) → evens ts x ≡ evens ts y
evens_same [] x y h = refl
evens_same (t ∷ ts) x y h = ap₂ (λ a b. eqb a 0 && b) (h 0) (evens_same ts x y (λ i. h (suc i)))

-- a multiple of a power of two is one of the power before
whole_next : (t k : ℕ) → t % 2 ^ suc k ≡ 0 → t % 2 ^ k ≡ 0
whole_next t k z = omega (arith, mod-pow-add t 1 k, ap (λ q. t % 2 ^ q) (one-add k))

-- a word whose lowest letter is not below a place is whole from there on
pub pivot_whole : (t k j : ℕ) → t % 2 ^ suc (j + k) ≡ 2 ^ (j + k) → t % 2 ^ k ≡ 0
pivot_whole t k j e =
    let split : t % 2 ^ (suc j + k) ≡ t / 2 ^ k % 2 ^ suc j * 2 ^ k + t % 2 ^ k = mod-pow-add t (suc j) k in
    let same : suc j + k ≡ suc (j + k) = omega arith in
    let power : 2 ^ (j + k) ≡ 2 ^ j * 2 ^ k = pow-add 2 j k in
    let sum : 2 ^ j * 2 ^ k + 0 ≡ t / 2 ^ k % 2 ^ suc j * 2 ^ k + t % 2 ^ k = omega (arith, split, e, power, ap (λ q. t % 2 ^ q) same) in
    sym (mod_low (t / 2 ^ k % 2 ^ suc j) k (t % 2 ^ k) (mod_below t (2 ^ k) (pow_pos k))) ∙ ap (λ q. q % 2 ^ k) (sym sum) ∙ mod_low (2 ^ j) k 0 (pow_pos k)

-- twice as many
twice : (g : Bool) (f : ℕ) → cond g f 0 + cond g f 0 ≡ cond g (f * 2) 0
twice true f = omega arith
twice false f = refl

-- one of two parities is even
one_of : (o : ℕ) (g : Bool) (f : ℕ) → o < 2 → cond (eqb o 0 && g) f 0 + cond (eqb ((o + 1) % 2) 0 && g) f 0 ≡ cond g f 0
one_of o g f l = elim (cases_eq o 0) [
  | inl e ↦ ap (λ k. cond (eqb k 0 && g) f 0 + cond (eqb ((k + 1) % 2) 0 && g) f 0) e ∙ add-zero (cond g f 0)
  | inr d ↦ let e : o ≡ 1 = omega arith in ap (λ k. cond (eqb k 0 && g) f 0 + cond (eqb ((k + 1) % 2) 0 && g) f 0) e ∙ zero-add (cond g f 0)
]

-- two counts in a row are one
joined : (a b c d e f : ℕ) → a ≡ b + e → b ≡ c + d → d + e ≡ f → a ≡ c + f
joined a b c d e f p q h = omega arith

-- the runs that are passed over are those of the digit
chosen_one : (a b f q m p : ℕ) → a ≡ b + f → p ≡ f + q → b + p ≡ m → a + q ≡ m
chosen_one a b f q m p h i j = omega arith

-- an empty place more
pub empty_free : (T : List ℕ) (k : ℕ) → get_or T k 0 ≡ 0 → empty_below T (suc k) ≡ suc (empty_below T k)
empty_free T k e = ap (λ b. cond b 1 0 + empty_below T k) (eq-eqb (get_or T k 0) 0 e) ∙ one-add (empty_below T k)

-- a row: no empty place more
pub empty_row : (T : List ℕ) (k : ℕ) → (get_or T k 0 ≡ 0 → ⊥) → empty_below T (suc k) ≡ empty_below T k
empty_row T k ne = ap (λ b. cond b 1 0 + empty_below T k) (ne_eqb (get_or T k 0) 0 ne) ∙ zero-add (empty_below T k)

module _ (n : ℕ) (low : 1 ≤ n) (high : n ≤ 32) (ws T : List ℕ) (r : Rows n ws T) where
  -- how many runs are smaller than a code
  abbrev below : ℕ → ℕ
  below x = runs_below n (generated two n ws) x

  -- the rows from a place on are even
  abbrev good : ℕ → ℕ → Bool
  good k x = evens (drop k T) x

  -- one place lower, one row more
  pub good_step : (k x : ℕ) → k < n → good k x ≡ (eqb (odd x (get_or T k 0)) 0 && good (suc k) x)
  good_step k x l = ap (λ ts. evens ts x) (drop-cons T k 0 (omega (arith, r.table.size)))

  -- the rows above a place do not have its letter
  good_higher : (k x : ℕ) → x % 2 ^ suc k ≡ 0 → good (suc k) (x + 2 ^ k) ≡ good (suc k) x
  good_higher k x z = evens_same (drop (suc k) T) (x + 2 ^ k) x (λ i.
      let p = suc k + i in
      subst (λ t. odd (x + 2 ^ k) t ≡ odd x t) (sym (get_or-drop (suc k) T i 0))
      (elim (r.table.pivot p) [
        | inl e ↦ ap (odd (x + 2 ^ k)) e ∙ odd_blank (x + 2 ^ k) ∙ sym (ap (odd x) e ∙ odd_blank x)
        | inr e ↦
            let turned : p ≡ i + suc k = omega arith in
            odd_same k x (get_or T p 0) z (pivot_whole (get_or T p 0) (suc k) i (subst (λ q. get_or T p 0 % 2 ^ suc q ≡ 2 ^ q) turned e))
      ]))

  -- an empty place: both levels are possible, and the number of runs doubles
  pub free_step : (k x : ℕ) → k < n → get_or T k 0 ≡ 0 → (good k x ≡ good (suc k) x) × (2 ^ empty_below T (suc k) ≡ 2 ^ empty_below T k * 2)
  free_step k x l e = (
    good_step k x l ∙ ap (λ b. b && good (suc k) x) (eq-eqb (odd x (get_or T k 0)) 0 (ap (odd x) e ∙ odd_blank x)),
    ap (λ j. 2 ^ j) (empty_free T k e) ∙ pow-suc 2 (empty_below T k),
  )

  -- a row's parity with one letter more, its lowest
  pub row_turned : (k x : ℕ) → (get_or T k 0 ≡ 0 → ⊥) → x % 2 ^ suc k ≡ 0 → odd (x + 2 ^ k) (get_or T k 0) ≡ (odd x (get_or T k 0) + 1) % 2
  row_turned k x ne z = elim (r.table.pivot k) [ inl e ↦ elim (ne e) [ ] | inr e ↦ odd_turned k x (get_or T k 0) z e ]

  -- so many runs have given levels from a place on
  pub counted : (k x : ℕ) → k ≤ n → x % 2 ^ k ≡ 0 → x + 2 ^ k ≤ 2 ^ n → below (x + 2 ^ k) ≡ below x + cond (good k x) (2 ^ empty_below T k) 0
  counted zero x l z h =
      let test : is_run n (generated two n ws) x ≡ good 0 x = run_test n x low high (omega arith) ws ∙ sym (r.same x (omega arith)) in
      ap below (add-one x) ∙ ap (λ b. cond b 1 0 + below x) test ∙ omega arith
  counted (suc k) x l z h =
      let F = 2 ^ empty_below T k in
      let y = x + 2 ^ k in
      let zk : x % 2 ^ k ≡ 0 = whole_next x k z in
      let double = pow-suc 2 k in
      let yk : y % 2 ^ k ≡ 0 = add-mod_right x (2 ^ k) ∙ zk in
      let first : below y ≡ below x + cond (good k x) F 0 = counted k x (omega arith) zk (omega arith) in
      let second : below (y + 2 ^ k) ≡ below y + cond (good k y) F 0 = counted k y (omega arith) yk (omega arith) in
      let whole : x + 2 ^ suc k ≡ y + 2 ^ k = omega arith in
      let higher = good_higher k x z in
      let half : cond (good k x) F 0 + cond (good k y) F 0 ≡ cond (good (suc k) x) (2 ^ empty_below T (suc k)) 0 = elim (cases_eq (get_or T k 0) 0) [
        | inl e ↦
            let sx = free_step k x l e in
            let sy = free_step k y l e in
            ap₂ (λ a b. cond a F 0 + cond b F 0) sx.0 (sy.0 ∙ higher) ∙ twice (good (suc k) x) F ∙ ap (λ E. cond (good (suc k) x) E 0) (sym sx.1)
        | inr ne ↦
            let o = odd x (get_or T k 0) in
            let gx = good_step k x l in
            let gy = good_step k y l ∙ ap₂ (λ a b. eqb a 0 && b) (row_turned k x ne z) higher in
            ap₂ (λ a b. cond a F 0 + cond b F 0) gx gy ∙ one_of o (good (suc k) x) F (omega arith)
            ∙ ap (λ j. cond (good (suc k) x) (2 ^ j) 0) (sym (empty_row T k ne))
      ] in
      ap below whole ∙ joined (below (y + 2 ^ k)) (below y) (below x) (cond (good k x) F 0) (cond (good k y) F 0) (cond (good (suc k) x) (2 ^ empty_below T (suc k)) 0) second first half

  -- as many runs as the empty places allow
  pub total : below (2 ^ n) ≡ 2 ^ empty_below T n
  total =
      ap below (sym (zero-add (2 ^ n)))
      ∙ counted n 0 (omega arith) (zero-mod (2 ^ n)) (omega arith)
      ∙ ap (λ b. below 0 + cond b (2 ^ empty_below T n) 0) (evens_none (drop n T))
      ∙ zero-add (2 ^ empty_below T n)

  -- the runs with level 0 at a place, below those with level 1
  pub passed : (k x : ℕ) → k < n → x % 2 ^ suc k ≡ 0 → x + 2 ^ suc k ≤ 2 ^ n → below (x + 2 ^ k) ≡ below x + cond (good k x) (2 ^ empty_below T k) 0
  passed k x l z h =
      counted k x (omega arith) (whole_next x k z) (omega (arith, pow-suc 2 k))

  -- levels chosen from a place on: those of run m, if the digits of m that are left choose the others
  pub record Choice (m k x : ℕ) : Type 0 where
    pub even : good k x ≡ true
    pub smaller : below x + m % 2 ^ empty_below T k ≡ m

  -- no level chosen yet
  pub choice_first : (m : ℕ) → m < 2 ^ empty_below T n → Choice m n 0
  choice_first m l = record { even = evens_none (drop n T); smaller = zero-add (m % 2 ^ empty_below T n) ∙ mod-eq_of_lt l }

  -- all levels chosen
  pub choice_last : (m x : ℕ) → x < 2 ^ n → Choice m 0 x → Run n (generated two n ws) m x
  choice_last m x l h = record {
    runs = run_test n x low high l ws ∙ sym (r.same x l) ∙ h.even;
    smaller = let s : below x + m % 1 ≡ m = h.smaller in omega arith;
  }

  -- the next digit of m at an empty place
  next_digit : (m k : ℕ) → get_or T k 0 ≡ 0 → m % 2 ^ empty_below T (suc k) ≡ m / 2 ^ empty_below T k % 2 * 2 ^ empty_below T k + m % 2 ^ empty_below T k
  next_digit m k e = ap (λ b. m % 2 ^ (cond b 1 0 + empty_below T k)) (eq-eqb (get_or T k 0) 0 e) ∙ mod-pow-add m 1 (empty_below T k)

  -- an empty place takes the next digit of m
  pub choice_free : (m k x : ℕ) → k < n → x % 2 ^ suc k ≡ 0 → x + 2 ^ suc k ≤ 2 ^ n → get_or T k 0 ≡ 0 → (b : Bool) → b ≡ eqb (m / 2 ^ empty_below T k % 2) 1 →
      Choice m (suc k) x → Choice m k (cond b (x + 2 ^ k) x)
  choice_free m k x l z h e true d c =
      let F = 2 ^ empty_below T k in
      let step = free_step k x l e in
      let digit : m / F % 2 ≡ 1 = eqb-true (m / F % 2) 1 (sym d) in
      let here : m % 2 ^ empty_below T (suc k) ≡ F + m % F = next_digit m k e ∙ ap (λ j. j * F + m % F) digit ∙ ap (λ j. j + m % F) (one-mul F) in
      let more : below (x + 2 ^ k) ≡ below x + F = passed k x l z h ∙ ap (λ g. below x + cond g F 0) (step.0 ∙ c.even) in
      record {
        even = (free_step k (x + 2 ^ k) l e).0 ∙ good_higher k x z ∙ c.even;
        smaller = chosen_one (below (x + 2 ^ k)) (below x) F (m % F) m (m % 2 ^ empty_below T (suc k)) more here c.smaller;
      }
  choice_free m k x l z h e false d c =
      let F = 2 ^ empty_below T k in
      let digit : m / F % 2 ≡ 0 = omega (arith, eqb-false (m / F % 2) 1 (sym d), mod_below (m / F) 2 (omega arith)) in
      let here : m % 2 ^ empty_below T (suc k) ≡ m % F = next_digit m k e ∙ ap (λ j. j * F + m % F) digit ∙ ap (λ j. j + m % F) (zero-mul F) ∙ zero-add (m % F) in
      record { even = (free_step k x l e).0 ∙ c.even; smaller = ap (λ j. below x + j) (sym here) ∙ c.smaller }

  -- a row gives the level of its place
  pub choice_row : (m k x : ℕ) → k < n → x % 2 ^ suc k ≡ 0 → x + 2 ^ suc k ≤ 2 ^ n → (get_or T k 0 ≡ 0 → ⊥) → (b : Bool) → b ≡ eqb (odd x (get_or T k 0)) 1 →
      Choice m (suc k) x → Choice m k (cond b (x + 2 ^ k) x)
  choice_row m k x l z h ne true d c =
      let t = get_or T k 0 in
      let one : odd x t ≡ 1 = eqb-true (odd x t) 1 (sym d) in
      let here : good k x ≡ false = good_step k x l ∙ ap (λ o. eqb o 0 && good (suc k) x) one in
      let same : below (x + 2 ^ k) ≡ below x = passed k x l z h ∙ ap (λ g. below x + cond g (2 ^ empty_below T k) 0) here ∙ add-zero (below x) in
      record {
        even = good_step k (x + 2 ^ k) l ∙ ap₂ (λ o g. eqb o 0 && g) (row_turned k x ne z ∙ ap (λ o. (o + 1) % 2) one) (good_higher k x z ∙ c.even);
        smaller = ap₂ (λ a j. a + m % 2 ^ j) same (sym (empty_row T k ne)) ∙ c.smaller;
      }
  choice_row m k x l z h ne false d c =
      let t = get_or T k 0 in
      let none : odd x t ≡ 0 = omega (arith, eqb-false (odd x t) 1 (sym d)) in
      record {
        even = good_step k x l ∙ ap₂ (λ o g. eqb o 0 && g) none c.even;
        smaller = ap (λ j. below x + m % 2 ^ j) (sym (empty_row T k ne)) ∙ c.smaller;
      }

-- the empty ones among the first places are counted
pub empty_count : (T : List ℕ) (k : ℕ) → k ≤ length T → length (filter (λ r. eqb r 0) (take k T)) ≡ empty_below T k
empty_count T zero l = refl
empty_count T (suc k) l =
    let r = get_or T k 0 in
    let next : take (suc k) T ≡ take k T ++ r ∷ [] = ap (λ j. take j T) (sym (add-one k)) ∙ take_more T k 0 (omega arith) in
    let more = ap (λ xs. length (filter (λ r. eqb r 0) xs)) next ∙ ap length (filter-append (λ r. eqb r 0) (take k T) (r ∷ [])) ∙ length-append (filter (λ r. eqb r 0) (take k T)) (filter (λ r. eqb r 0) (r ∷ [])) in
    cond_both (eqb r 0) 1 0 (λ d. length (filter (λ r. eqb r 0) (take (suc k) T)) ≡ d + empty_below T k)
    (λ t. omega (arith, more, empty_count T k (omega arith), ap length (cond-true (eqb r 0) (r ∷ []) [] t)))
    (λ f. omega (arith, more, empty_count T k (omega arith), ap length (cond-false (eqb r 0) (r ∷ []) [] f)))

-- at most k places below k are empty
pub empty_most : (T : List ℕ) (k : ℕ) → empty_below T k ≤ k
empty_most T zero = omega arith
empty_most T (suc k) =
    let one : cond (eqb (get_or T k 0) 0) 1 0 ≤ 1 = cond_both (eqb (get_or T k 0) 0) 1 0 (λ d. d ≤ 1) (λ _. omega arith) (λ _. omega arith) in
    omega (arith, one, empty_most T k)

-- the levels from place k on are those of run m, and so many digits of m are left
pub record ChosenFrom (n : ℕ) (T : List ℕ) (m k x digits : ℕ) : Type 0 where
  pub whole : x % 2 ^ k ≡ 0
  pub room : x + 2 ^ k ≤ 2 ^ n
  pub left : digits ≡ empty_below T k
  pub choice : (ws : List ℕ) (low : 1 ≤ n) (high : n ≤ 32) (r : Rows n ws T) → Choice n low high ws T r m k x

-- how the level at a place is chosen: the next digit of m where it is empty, else the parity of its row
abbrev pub Chooses : List ℕ → ℕ → ℕ → ℕ → ℕ → ℕ → Bool → Type 0
Chooses T m k x digits digits' one =
    ((get_or T k 0 ≡ 0) × (digits' ≡ digits - 1) × (one ≡ eqb (bit_and (m / 2 ^ (digits - 1)) 1) 1))
    ⊎ ((get_or T k 0 ≡ 0 → ⊥) × (digits' ≡ digits) × (one ≡ eqb (odd x (get_or T k 0)) 1))

-- a level chosen keeps what is whole and within
level_fits : (n k x : ℕ) (one : Bool) → x % 2 ^ suc k ≡ 0 → x + 2 ^ suc k ≤ 2 ^ n → (cond one (x + 2 ^ k) x % 2 ^ k ≡ 0) × (cond one (x + 2 ^ k) x + 2 ^ k ≤ 2 ^ n)
level_fits n k x one z h =
    let zk = whole_next x k z in
    cond_both one (x + 2 ^ k) x (λ y. (y % 2 ^ k ≡ 0) × (y + 2 ^ k ≤ 2 ^ n))
    (λ _. (add-mod_right x (2 ^ k) ∙ zk, omega (arith, pow-suc 2 k)))
    (λ _. (zk, omega (arith, pow-suc 2 k)))

-- one level more
choose_next : (n : ℕ) (T : List ℕ) (m k x digits digits' : ℕ) (one : Bool) → k < n → Chooses T m k x digits digits' one → ChosenFrom n T m (suc k) x digits →
    ChosenFrom n T m k (cond one (x + 2 ^ k) x) digits'
choose_next n T m k x digits digits' one l way h =
    let fits = level_fits n k x one h.whole h.room in
    elim way [
      | inl e ↦
          let less : digits - 1 ≡ empty_below T k = omega (arith, h.left, empty_free T k e.0) in
          let digit = e.2 ∙ ap (λ d. eqb d 1) (and_mask (m / 2 ^ (digits - 1)) 1) ∙ ap (λ j. eqb (m / 2 ^ j % 2) 1) less in
          record {
            whole = fits.0;
            room = fits.1;
            left = e.1 ∙ less;
            choice = λ ws low high r. choice_free n low high ws T r m k x l h.whole h.room e.0 one digit (h.choice ws low high r);
          }
      | inr e ↦ record {
        whole = fits.0;
        room = fits.1;
        left = e.1 ∙ h.left ∙ empty_row T k e.0;
        choice = λ ws low high r. choice_row n low high ws T r m k x l h.whole h.room e.0 one e.2 (h.choice ws low high r);
      }
    ]

-- the same, by the number of places that are left
pub choose : (n : ℕ) (T : List ℕ) (m p x digits digits' : ℕ) (one : Bool) → 0 < p → p ≤ n → Chooses T m (p - 1) x digits digits' one → ChosenFrom n T m p x digits →
    ChosenFrom n T m (p - 1) (cond one (x + 2 ^ (p - 1)) x) digits'
choose n T m p x digits digits' one some l way h =
    let next : p ≡ suc (p - 1) = omega arith in
    choose_next n T m (p - 1) x digits digits' one (omega arith) way (subst (λ q. ChosenFrom n T m q x digits) next h)

-- all levels are chosen: the code is run m
pub chosen_all : (n : ℕ) (T : List ℕ) (m p x digits : ℕ) → p ≤ 0 → ChosenFrom n T m p x digits →
    (ws : List ℕ) → 1 ≤ n → n ≤ 32 → Rows n ws T → Run n (generated two n ws) m x
chosen_all n T m p x digits l h ws low high r =
    let z : p ≡ 0 = omega arith in
    let last = subst (λ q. ChosenFrom n T m q x digits) z h in
    choice_last n low high ws T r m x (omega (arith, last.room)) (last.choice ws low high r)

-- where no code is legal there are no runs
pub no_runs : (n : ℕ) (ws : List ℕ) → ((x : ℕ) → legal two n x ≡ false) → (x : ℕ) → runs_below n ws x ≡ 0
no_runs n ws none zero = refl
no_runs n ws none (suc x) = ap₂ (λ b k. cond (b && all_even n ws x) 1 0 + k) (none x) (no_runs n ws none x)

-- each of a list of independent words halves the number of runs
pub runs_total : (n : ℕ) → 1 ≤ n → n ≤ 32 → (ws : List ℕ) → Independent two n ws → AllWords two n ws → runs_below n (generated two n ws) (2 ^ n) ≡ 2 ^ (n - length ws)
runs_total n low high ws ind all =
    let T = all_placed n empty_table ws in
    let r = rows_of n low high ws in
    let left : empty_below T n ≡ n - length ws = omega (arith, r.rank ind all) in
    total n low high ws T r ∙ ap (λ k. 2 ^ k) left
