use Rattle.levels.specs.Rows.{basis_rows}
use Rattle.choice.specs.Chosen.{chosen_words}
use Rattle.choice.proofs.Offers.{generators_found}
use Rattle.choice.proofs.chosen_of.Goals as goal

pub returns : goal.returns
returns g c =
    let A = g.L.Levels.model in
    let L = g.met.L.Levels.lawful in
    let further = c.args.further.now in
    let j = c.new.result in
    let e = c.new.ensures in
    let ours = chosen_words c.best.result in
    let found = generators_found A L (g.P.Preference.good j.preference.now) (g.met.P.Preference.lawful j.preference.now) j.factors j.room j.base.words.now further (basis_rows j.known) (basis_rows j.whole)
    j.spans j.all j.front j.longer (rw (e.factors, e.base) e.whole) j.alike j.space c.best.ensures.0 ours c.best.ensures.1 c.best.ensures.2 in
    rw (e.preference, e.factors, e.base) at found

-- the law of the judge is the preference's
pub best-requires : goal.best-requires
best-requires g c = rw c.new.ensures.preference c.new.ensures.alike
