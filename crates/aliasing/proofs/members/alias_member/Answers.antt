use Rattle.std.proofs.Common.{sym, ◌∙◌, subst}
use Rattle.std.proofs.lemmas.Bool.{both_ways}
use Rattle.levels.specs.Words.{legal}
use Rattle.levels.specs.Space.{Word}
use Rattle.levels.specs.Basis.{Echelon}
use Rattle.levels.specs.Alias.{alias_set}
use Rattle.levels.specs.Rows.{basis_rows}
use Rattle.levels.proofs.Growth.{from_none}
use Rattle.levels.proofs.Multiplicity.{same_alias_set}
use Rattle.aliasing.specs.Blocks.{above, Entry}
use Rattle.aliasing.proofs.Floors.{rows_same, alias_member}
use Rattle.aliasing.proofs.members.alias_member.Goals as goal

-- the entry over the rows is that over the words, and is the member
pub returns : goal.returns
returns g c =
    let A = g.L.Levels.model in
    let L = g.met.L.Levels.lawful in
    let n = c.args.n in
    let words = c.args.words.now in
    let w = c.args.word in
    let rows = basis_rows c.admit_all.new.self in
    let p = c.admit_all.ensures in
    let b = from_none A L n words rows (rw c.new-basis.ensures at p) in
    let entry : Word A n w → Entry (alias_set A n words w) c.args.m c.member.result = λ hw.
    subst (λ xs. Entry xs c.args.m c.member.result)
    (same_alias_set A L n (above 0 rows) rows w (rows_same A L n rows b.0 w hw) ∙ same_alias_set A L n rows words w b.1)
    (subst (λ us. Entry (alias_set A n (above 0 us) w) c.args.m c.member.result) c.rows.ensures
    (c.member.ensures (subst (Echelon A n) (sym c.rows.ensures) b.0) hw)) in
    record {
      member = λ hw. alias_member A L n words w c.args.m c.member.result (entry hw);
      entry = entry;
      illegal = λ f. absurd (both_ways (legal A n w) f (sym c.if-not-legal.ensures));
    }
