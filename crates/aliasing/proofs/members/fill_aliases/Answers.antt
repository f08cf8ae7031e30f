use Rattle.std.proofs.Common.{◌≡◌, length, min, sym, ap, ◌∙◌}
use Rattle.std.proofs.lemmas.Bool.{both_ways}
use Rattle.levels.specs.Words.{legal}
use Rattle.levels.specs.Space.{Word}
use Rattle.levels.specs.Rows.{basis_rows}
use Rattle.levels.specs.Alias.{alias_set}
use Rattle.levels.proofs.Growth.{from_none}
use Rattle.levels.proofs.Multiplicity.{same_alias_set}
use Rattle.levels.proofs.Reduced.{space_at, alias_word}
use Rattle.aliasing.specs.Filled.{filled}
use Rattle.aliasing.proofs.Lower.{least_alias, least_alias_set}
use Rattle.aliasing.proofs.members.fill_aliases.Goals as goal

-- the rows are in echelon form, and none makes the least alias smaller
pub fill_over-requires : goal.fill_over-requires
fill_over-requires g c =
    let A = g.L.Levels.model in
    let L = g.met.L.Levels.lawful in
    let n = c.args.n in
    let rows = basis_rows c.admit_all.new.self in
    let w = c.args.word in
    let r = c.reduce-least.result in
    let p = c.admit_all.ensures in
    let b = from_none A L n c.args.words.now rows (rw c.new-basis.ensures at p) in
    let hw : Word A n w = sym c.legal.ensures ∙ c.if-not-legal.false in
    let a = c.reduce-least.ensures b.0 hw in
    record {
      echelon = rw c.rows.ensures b.0;
      word = alias_word A L n (space_at A L n w hw) rows w r hw a;
      least = rw c.rows.ensures (least_alias A L n rows w r hw a);
    }

-- the alias set over the rows is that over the words
pub returns : goal.returns
returns g c =
    let A = g.L.Levels.model in
    let L = g.met.L.Levels.lawful in
    let n = c.args.n in
    let words = c.args.words.now in
    let rows = basis_rows c.admit_all.new.self in
    let w = c.args.word in
    let r = c.reduce-least.result in
    let p = c.admit_all.ensures in
    let b = from_none A L n words rows (rw c.new-basis.ensures at p) in
    let hw : Word A n w = sym c.legal.ensures ∙ c.if-not-legal.false in
    let same : alias_set A n c.rows.result.now r ≡ alias_set A n words w =
    ap (λ us. alias_set A n us r) c.rows.ensures ∙ least_alias_set A L n rows w r hw (c.reduce-least.ensures b.0 hw) ∙ same_alias_set A L n rows words w b.1 in
    record {
      count = λ _. c.fill_over.ensures.count ∙ ap (λ xs. min (length xs) (length c.args.memory.now)) same;
      stored = λ _. c.fill_over.ensures.stored ∙ ap (λ xs. filled xs c.args.memory.now) same;
      illegal = λ f. absurd (both_ways (legal A n w) f hw);
    }
