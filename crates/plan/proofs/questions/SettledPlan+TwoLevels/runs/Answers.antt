-- As many runs as were asked for are there, and memory has room for them.
use Rattle.std.proofs.Common.{◌≡◌, ◌+◌, ◌≤◌, ◌++◌, ltb, length, take, drop, Ok, Err, ap, sym, ◌∙◌, arith, length-take, length-drop}
use Rattle.std.proofs.lemmas.Bool.{cond-false, le-ltb}
use Rattle.contents.specs.declared.refusal.Refusal.TheVariants.{Last}
use Rattle.contents.specs.Memory.{holding_ok}
use Rattle.plan.specs.Answers.{runs_from, runs_of}
use Rattle.plan.proofs.Filling.{filled_whole, holding_fits}
use Rattle.plan.proofs.questions.SettledPlan+TwoLevels.runs.Goals as goal

pub returns-clause-stored : goal.returns-clause-stored
returns-clause-stored c =
    let p = c.args.self.now in
    let first = c.args.first in
    let count = c.args.count in
    let memory = c.args.memory.now in
    let all = runs_of p in
    let asked = take count (drop first all) in
    let there : first + count ≤ length all = omega (arith, c.run_count.ensures.count, c.run_count.ensures.few) in
    let many : length asked ≡ count = omega (arith, length-take count (drop first all), length-drop first all) in
    let fits : length asked ≤ length memory = omega (arith, many) in
    let room : length (take count memory) ≡ count = omega (arith, length-take count memory) in
    let rest : count ≤ length (drop first all) = omega (arith, length-drop first all) in
    let written : c.fill_runs.new.memory ≡ asked =
    rw (c.list-words.ensures.words, c.factors.ensures.value) at c.fill_runs.ensures.stored
    ∙ filled_whole (drop first all) (take count memory) count room rest in
    let found : runs_from first count p ≡ Ok asked =
    cond-false (ltb (length all) (first + count)) (Err Last) (Ok asked) (le-ltb (length all) (first + count) there) in
    ap (λ xs. xs ++ drop count memory) written
    ∙ ap (λ k. asked ++ drop k memory) (sym many)
    ∙ sym (holding_fits asked memory fits)
    ∙ ap (λ r. holding_ok r memory) (sym found)
