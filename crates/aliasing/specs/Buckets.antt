-- Chains of words by their places, one for each bucket of least aliases, and bytes that tell which words are alone with theirs.
use Rattle.std.specs.Prelude.{◌≡◌, ℕ, ◌-◌, ◌*◌, ◌/◌, ◌%◌, ◌^◌, ◌<◌, ◌≤◌, ◌≢◌, ◌⊎◌, List, length, slice_index}
use Rattle.aliasing.specs.Short.{Own, Short, Stands, sum_at}

-- the bucket of a least alias
abbrev pub bucket_of : ℕ → ℕ
bucket_of r = r * 0x9e37_79b9_7f4a_7c15 % 2 ^ 64 / 2 ^ 54

-- the word at a place has a least alias that is no word of one letter or two
abbrev pub Long : List ℕ → ℕ → Type 0
Long ls p = Stands ls p × (Short (sum_at ls p) → ⊥)

-- the last such word of a bucket before a place stands at this place, from 1; 0 where there is none
pub record LastBefore (ls : List ℕ) (b top place : ℕ) : Type 0 where
  pub within : place ≤ top
  pub long : 0 < place → Long ls (place - 1)
  pub there : 0 < place → bucket_of (sum_at ls (place - 1)) ≡ b
  pub none_between : (i : ℕ) → place ≤ i → i < top → Long ls i → bucket_of (sum_at ls i) ≢ b

-- Such words before place k in chains: to each bucket the place of its last word, and to each word that of the one before it.
pub record Chained (ls : List ℕ) (k : ℕ) (last before : List ℕ) : Type 0 where
  pub buckets : length last ≡ 1024
  pub places : length before ≡ 1024
  pub lasts : (b : ℕ) → b < 1024 → LastBefore ls b k (slice_index last b)
  pub befores : (i : ℕ) → i < k → Long ls i → LastBefore ls (bucket_of (sum_at ls i)) i (slice_index before i)

-- the word at p is another than that at k with the same least alias, and is before it or its own least alias
abbrev pub IsOther : List ℕ → ℕ → ℕ → Type 0
IsOther ls k p = Stands ls p × (p ≢ k) × (sum_at ls p ≡ sum_at ls k) × ((p < k) ⊎ Own ls p)

-- there is none, or the word at k is its own least alias, which others find
abbrev pub NoOther : List ℕ → ℕ → Type 0
NoOther ls k = Own ls k ⊎ ((p : ℕ) → IsOther ls k p → ⊥)

-- no word other than that at p has the same least alias
abbrev pub Alone : List ℕ → ℕ → Type 0
Alone ls p = (i : ℕ) → Stands ls i → sum_at ls i ≡ sum_at ls p → i ≡ p

-- a byte tells whether a word is alone: 1 if so, else 0
abbrev pub Tells : List ℕ → ℕ → ℕ → Type 0
Tells ls p byte = ((byte ≡ 1) × Alone ls p) ⊎ ((byte ≡ 0) × (Alone ls p → ⊥))

-- bytes tell of all words
abbrev pub Told : List ℕ → List ℕ → Type 0
Told ls bytes = (p : ℕ) → Stands ls p → Tells ls p (slice_index bytes p)
