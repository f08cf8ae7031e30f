use Rattle.std.proofs.Common.{ℕ, ◌≡◌, ◌+◌, ◌++◌, take, length, eqb, ap, ◌∙◌}
use Rattle.std.proofs.lemmas.Bool.{OnTrue_from, eqb-true}
use Rattle.levels.specs.Generated.{Generates}
use Rattle.levels.specs.Rows.{basis_rows}
use Rattle.choice.specs.Chosen.{chosen_words}
use Rattle.choice.proofs.Rows.{fits_generates}
use Rattle.choice.proofs.judge.Judge.generated.Goals as goal

-- where the rows leave 0
pub returns : goal.returns
returns g c =
    let A = g.L.Levels.model in
    let s = c.args.self.now in
    let b = c.args.best.now in
    let known = basis_rows s.known in
    let front : take (c.len.result + c.args.place) c.rows.result.now ≡ take (length known + c.args.place) (basis_rows b.rows) =
    ap (λ (k : ℕ). take (k + c.args.place) c.rows.result.now) c.len.ensures.count ∙ ap (take (length known + c.args.place)) c.rows.ensures in
    OnTrue_from (eqb c.reduce_by.result 0) (Generates A s.factors (s.base.words.now ++ take c.args.place (chosen_words b.words)) c.args.word)
    (λ z. fits_generates A g.met.L.Levels.lawful s.factors known s.base.words.now (basis_rows b.rows) (chosen_words b.words) c.requires.fits c.args.place c.requires.place
    (take (c.len.result + c.args.place) c.rows.result.now) front c.args.word c.reduce_by.result c.requires.word c.reduce_by.ensures (eqb-true c.reduce_by.result 0 z))
