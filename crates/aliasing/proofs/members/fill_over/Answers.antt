use Rattle.std.proofs.Common.{◌≡◌, ℕ, ◌*◌, ◌<◌, List, [], ◌∷◌, map, length, min, take, get_or, refl, sym, ap, ◌∙◌, subst, arith}
use Rattle.std.proofs.lemmas.Bool.{eqb-true, eqb-false}
use Rattle.std.proofs.lemmas.List.{get_or-take, length-take}
use Rattle.std.specs.List.{flat_map}
use Rattle.levels.specs.Arithmetic.{Arithmetic, Lawful}
use Rattle.levels.specs.Words.{word_sum}
use Rattle.levels.specs.Space.{AllWords, Word}
use Rattle.levels.specs.Rows.{basis_rows}
use Rattle.levels.specs.Alias.{alias_set}
use Rattle.aliasing.specs.Blocks.{block}
use Rattle.aliasing.specs.Filled.{filled}
use Rattle.aliasing.proofs.Filled.{filled_front, filled_length, filled_none, filled_one}
use Rattle.aliasing.proofs.Floors.{above_next}
use Rattle.aliasing.proofs.Ladders.{alias-is-word}
use Rattle.aliasing.proofs.Lower.{Lower, lower_first, lower_none, lower_all, lower_more, row-is-word, left-is-word, left-nonzero, lower-repeats}
use Rattle.aliasing.proofs.Repeats.{repeats_filled, repeats_count}
use Rattle.aliasing.proofs.members.fill_over.Goals as goal

-- the first aliases of a word are words
front_words : (A : Arithmetic) (L : Lawful A) (n z : ℕ) → Word A n z → (us : List ℕ) (k : ℕ) → AllWords A n (take k (alias_set A n us z))
front_words A L n z hz us k i l =
    let S = alias_set A n us z in
    let within : i < k = omega (arith, length-take k S) in
    rw (get_or-take k S i 0 within) (alias-is-word A L n z hz us (get_or S i 0) (i, omega (arith, length-take k S), refl))

-- no memory takes nothing
pub returns-then-is_empty-clause-stored : goal.returns-then-is_empty-clause-stored
returns-then-is_empty-clause-stored g c =
    filled_none (alias_set g.L.Levels.model c.args.n c.args.rows.now c.args.least) c.args.memory.now (eqb-true (length c.args.memory.now) 0 (sym c.is_empty.ensures ∙ c.if-is_empty.true))

-- over no row the word stands alone
pub loop-row-init : goal.loop-row-init
loop-row-init g c =
    let A = g.L.Levels.model in
    let L = g.met.L.Levels.lawful in
    let n = c.args.n in
    let first = lower_first A L n c.args.rows.now c.requires.echelon c.args.least c.requires.word c.requires.least in
    let some = eqb-false (length c.args.memory.now) 0 (sym c.is_empty.ensures ∙ c.if-is_empty.false) in (
      [],
      subst (λ basis. Lower A L n c.args.rows.now 0 basis []) (sym c.new-smaller.ensures) (lower_none A L n c.args.rows.now c.requires.echelon c.args.least c.requires.word c.requires.least),
      omega (arith, ap length first, some),
      filled_one c.args.least c.args.memory.now some ∙ ap (λ xs. filled xs c.args.memory.now) (sym first),
    )

-- the members so far are words, and what is left of the row is one
pub repeat-len-requires : goal.repeat-len-requires
repeat-len-requires g c =
    let A = g.L.Levels.model in
    let L = g.met.L.Levels.lawful in
    let n = c.args.n in
    let rows = c.args.rows.now in
    let z = c.args.least in
    let row = c.in-Some.row in
    let i = c.loop-row.invariant in
    let S = alias_set A n i.0 z in
    let len = c.loop-row.len in
    let next = c.in-Some.ensures in
    let word = row-is-word A L n rows c.requires.echelon z c.requires.word c.requires.least c.loop-row.floor row next.0 next.1 (basis_rows c.loop-row.smaller) i.0 i.1 in
    let left = c.reduce-left.ensures i.1.echelon word in
    let front : take len c.loop-row.memory ≡ take len S =
    ap (take len) i.3 ∙ filled_front S c.args.memory.now len (omega (arith, i.2)) (omega (arith, i.2)) in
    record {
      row = left-is-word A L n rows c.requires.echelon z c.requires.word c.requires.least c.loop-row.floor row next.0 next.1 (basis_rows c.loop-row.smaller) i.0 i.1 c.reduce-left.result left;
      nonzero = left-nonzero A L n rows c.requires.echelon z c.requires.word c.requires.least c.loop-row.floor row next.0 next.1 (basis_rows c.loop-row.smaller) i.0 i.1 c.reduce-left.result left;
      front = omega (arith, i.2, ap length i.3, filled_length S c.args.memory.now);
      legal = subst (AllWords A n) (sym front) (front_words A L n z c.requires.word i.0 len);
    }

-- the alias set over one more row
pub loop-row-preserved : goal.loop-row-preserved
loop-row-preserved g c =
    let A = g.L.Levels.model in
    let L = g.met.L.Levels.lawful in
    let n = c.args.n in
    let rows = c.args.rows.now in
    let z = c.args.least in
    let old = c.args.memory.now in
    let row = c.in-Some.row in
    let i = c.loop-row.invariant in
    let us = i.0 in
    let S = alias_set A n us z in
    let len = c.loop-row.len in
    let next = c.in-Some.ensures in
    let basis = basis_rows c.loop-row.smaller in
    let v = c.reduce-left.result in
    let word = row-is-word A L n rows c.requires.echelon z c.requires.word c.requires.least c.loop-row.floor row next.0 next.1 basis us i.1 in
    let left = c.reduce-left.ensures i.1.echelon word in
    let hv = left-is-word A L n rows c.requires.echelon z c.requires.word c.requires.least c.loop-row.floor row next.0 next.1 basis us i.1 v left in
    let pv = left-nonzero A L n rows c.requires.echelon z c.requires.word c.requires.least c.loop-row.floor row next.0 next.1 basis us i.1 v left in
    let same = lower-repeats A L n rows c.requires.echelon z c.requires.word c.requires.least c.loop-row.floor row next.0 next.1 basis us i.1 v left in
    let all : AllWords A n S = λ j l. alias-is-word A L n z c.requires.word us (get_or S j 0) (j, l, refl) in (
      row ∷ us,
      lower_more A L n rows c.requires.echelon z c.requires.word c.requires.least c.loop-row.floor row next.0 next.1 basis us i.1 (basis_rows c.admit.new.self) c.admit.ensures,
      c.repeat-len.ensures.count
          ∙ ap (λ k. min (len * A.s) k) (ap length i.3 ∙ filled_length S old)
          ∙ repeats_count A L n v hv pv S old len i.2
          ∙ ap (λ xs. min (length xs) (length old)) (sym same),
      c.repeat-len.ensures.stored
          ∙ ap (λ m. filled (flat_map (λ x. map (word_sum A n x) (take len m)) (block A n v 0)) m) i.3
          ∙ repeats_filled A L n v hv pv S old len all (front_words A L n z c.requires.word us len) i.2
          ∙ ap (λ xs. filled xs old) (sym same),
    )

pub loop-row-smaller : goal.loop-row-smaller
loop-row-smaller g c =
    let rows = c.args.rows.now in
    omega (arith, ap length (above_next rows c.loop-row.floor c.in-Some.row c.in-Some.ensures.0 c.in-Some.ensures.1))

-- over all rows
pub returns : goal.returns
returns g c =
    let A = g.L.Levels.model in
    let L = g.met.L.Levels.lawful in
    let n = c.args.n in
    let rows = c.args.rows.now in
    let i = c.loop-row.invariant in
    let all = lower_all A L n rows c.requires.echelon c.args.least c.requires.word c.requires.least c.loop-row.floor (basis_rows c.loop-row.smaller) i.0 i.1 c.in_default.ensures in
    record {
      count = i.2 ∙ ap (λ xs. min (length xs) (length c.args.memory.now)) all;
      stored = i.3 ∙ ap (λ xs. filled xs c.args.memory.now) all;
    }
