use Rattle.std.proofs.Common.{◌∙◌, Option, ℕ, List, subst, arith}
use Rattle.std.specs.Prelude.{IfSome}
use Rattle.preferences.specs.Candidates.{IsTally}
use Rattle.preferences.specs.Built.{all_tallies}
use Rattle.preferences.proofs.Tallies.{tallies_verdict, tally_of}
use Rattle.preferences.proofs.aberration.fewer_ready.Goals as goal

-- both tallies were kept
pub returns-in-Some-Some : goal.returns-in-Some-Some
returns-in-Some-Some g c fair first second ready_first ready_second =
    let A = g.L.Levels.model in
    let base = c.args.base.now in
    let a = c.args.a.now in
    let b = c.args.b.now in
    let kept = c.in-Some-Some in
    c.fewer.ensures
    ∙ tallies_verdict A g.met.L.Levels.lawful base.factors base.words.now a.word b.word kept.first kept.second fair first second
    (subst (λ (t : Option (List ℕ)). IfSome t (IsTally A base.factors base.words.now a.word)) kept.is-0 ready_first)
    (subst (λ (t : Option (List ℕ)). IfSome t (IsTally A base.factors base.words.now b.word)) kept.is-1 ready_second)

-- that of the first word was kept
pub returns-in-Some-None : goal.returns-in-Some-None
returns-in-Some-None g c fair first second ready_first ready_second =
    let A = g.L.Levels.model in
    let base = c.args.base.now in
    let a = c.args.a.now in
    let b = c.args.b.now in
    let kept = c.in-Some-None in
    let counts = all_tallies A base.factors base.words.now b.word in
    let tally = tally_of A base.factors base.words.now b.word in
    c.fewer_than.ensures fair second counts tally
    ∙ tallies_verdict A g.met.L.Levels.lawful base.factors base.words.now a.word b.word kept.first counts fair first second
    (subst (λ (t : Option (List ℕ)). IfSome t (IsTally A base.factors base.words.now a.word)) kept.is-0 ready_first)
    tally

-- that of the second word was kept
pub returns-in-None-Some : goal.returns-in-None-Some
returns-in-None-Some g c fair first second ready_first ready_second =
    let A = g.L.Levels.model in
    let base = c.args.base.now in
    let a = c.args.a.now in
    let b = c.args.b.now in
    let kept = c.in-None-Some in
    c.fewer-in-None-Some.ensures
    ∙ tallies_verdict A g.met.L.Levels.lawful base.factors base.words.now a.word b.word c.tally.result kept.second fair first second
    (omega arith, c.tally.ensures)
    (subst (λ (t : Option (List ℕ)). IfSome t (IsTally A base.factors base.words.now b.word)) kept.is-1 ready_second)

-- none was kept
pub returns-in-None-None : goal.returns-in-None-None
returns-in-None-None g c fair first second ready_first ready_second =
    let base = c.args.base.now in
    c.fewer-in-None-None.ensures
    ∙ tallies_verdict g.L.Levels.model g.met.L.Levels.lawful base.factors base.words.now c.args.a.now.word c.args.b.now.word c.tally-in-None-None.result c.tally-in-None-None-2.result fair first second
    (omega arith, c.tally-in-None-None.ensures) (omega arith, c.tally-in-None-None-2.ensures)
