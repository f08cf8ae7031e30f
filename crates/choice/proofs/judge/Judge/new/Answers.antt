use Rattle.std.proofs.Common.{sym, ap, ◌∙◌}
use Rattle.preferences.specs.Relation.{fair}
use Rattle.levels.specs.Rows.{basis_rows}
use Rattle.choice.proofs.Rows.{known_echelon, known_spans, whole_echelon, whole_front, whole_longer, whole_spans}
use Rattle.choice.proofs.judge.Judge.new.Goals as goal

pub invariant_of-result-clause-echelon : goal.invariant_of-result-clause-echelon
invariant_of-result-clause-echelon g c =
    known_echelon g.L.Levels.model g.met.L.Levels.lawful c.args.factors c.args.base.now c.args.further.now (basis_rows c.new-known.result) (basis_rows c.admit_all.new.self) (basis_rows c.admit_all-2.new.self) c.new-known.ensures c.admit_all.ensures c.admit_all-2.ensures

pub invariant_of-result-clause-spans : goal.invariant_of-result-clause-spans
invariant_of-result-clause-spans g c =
    rw c.new.ensures.words (known_spans g.L.Levels.model g.met.L.Levels.lawful c.args.factors c.args.base.now c.args.further.now (basis_rows c.new-known.result) (basis_rows c.admit_all.new.self) (basis_rows c.admit_all-2.new.self) c.new-known.ensures c.admit_all.ensures c.admit_all-2.ensures)

pub invariant_of-result-clause-all : goal.invariant_of-result-clause-all
invariant_of-result-clause-all g c =
    whole_echelon g.L.Levels.model g.met.L.Levels.lawful c.args.factors c.args.base.now c.args.further.now (basis_rows c.new-known.result) (basis_rows c.admit_all.new.self) (basis_rows c.admit_all-2.new.self) c.new-known.ensures c.admit_all.ensures c.admit_all-2.ensures

pub invariant_of-result-clause-front : goal.invariant_of-result-clause-front
invariant_of-result-clause-front g c =
    whole_front g.L.Levels.model g.met.L.Levels.lawful c.args.factors c.args.base.now c.args.further.now (basis_rows c.new-known.result) (basis_rows c.admit_all.new.self) (basis_rows c.admit_all-2.new.self) c.new-known.ensures c.admit_all.ensures c.admit_all-2.ensures

pub invariant_of-result-clause-longer : goal.invariant_of-result-clause-longer
invariant_of-result-clause-longer g c =
    whole_longer g.L.Levels.model g.met.L.Levels.lawful c.args.factors c.args.base.now c.args.further.now (basis_rows c.new-known.result) (basis_rows c.admit_all.new.self) (basis_rows c.admit_all-2.new.self) c.new-known.ensures c.admit_all.ensures c.admit_all-2.ensures

pub returns-clause-whole : goal.returns-clause-whole
returns-clause-whole g c =
    whole_spans g.L.Levels.model g.met.L.Levels.lawful c.args.factors c.args.base.now c.args.further.now (basis_rows c.new-known.result) (basis_rows c.admit_all.new.self) (basis_rows c.admit_all-2.new.self) c.new-known.ensures c.admit_all.ensures c.admit_all-2.ensures

pub invariant_of-result-clause-aware : goal.invariant_of-result-clause-aware
invariant_of-result-clause-aware g c = c.fair.ensures ∙ ap (fair g.L.Levels.model c.args.factors) (sym c.new.ensures.words)
