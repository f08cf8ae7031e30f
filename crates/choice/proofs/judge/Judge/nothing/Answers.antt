use Rattle.levels.specs.Rows.{basis_rows}
use Rattle.choice.specs.Chosen.{chosen_words}
use Rattle.choice.proofs.Rows.{fits_none}
use Rattle.choice.proofs.judge.Judge.nothing.Goals as goal

pub returns-clause-fits : goal.returns-clause-fits
returns-clause-fits g c =
    let s = c.args.self.now in
    fits_none g.L.Levels.model g.met.L.Levels.lawful s.factors s.base.words.now (basis_rows s.known) (chosen_words c.new.result) c.new.ensures s.echelon s.spans
