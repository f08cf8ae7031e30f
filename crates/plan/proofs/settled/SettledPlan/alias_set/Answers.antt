-- Memory is shorter than the alias set, or the alias set is written whole.
use Rattle.std.proofs.Common.{◌≡◌, ◌<◌, ◌≤◌, true, length, Ok, sym, ap, ◌∙◌, arith, rules}
use Rattle.levels.specs.Alias.{alias_set}
use Rattle.levels.specs.Words.{legal}
use Rattle.contents.specs.Memory.{holding_ok, wrote_ok}
use Rattle.plan.proofs.Filling.{alias_set_legal, filled_fits, holding_fits, holding_short, wrote_fits, wrote_short}
use Rattle.plan.proofs.settled.SettledPlan.alias_set.Goals as goal

pub returns-then-memory-alias_set_size : goal.returns-then-memory-alias_set_size
returns-then-memory-alias_set_size g c =
    let A = g.L.Levels.model in
    let p = c.args.self.now in
    let w = c.args.word in
    let memory = c.args.memory.now in
    let word : legal A p.factors w ≡ true = rw (← c.factors-n.ensures.value) (search rules) in
    let set = alias_set A p.factors p.defining w in
    let short : length memory < length set = omega (arith, c.alias_set_size.ensures w word) in
    let found = alias_set_legal A w p word in
    record {
      stored = sym (holding_short set memory short) ∙ ap (λ r. holding_ok r memory) (sym found);
      count = sym (wrote_short set memory short) ∙ ap (λ r. wrote_ok r memory) (sym found);
    }

pub returns : goal.returns
returns g c =
    let A = g.L.Levels.model in
    let p = c.args.self.now in
    let w = c.args.word in
    let memory = c.args.memory.now in
    let word : legal A p.factors w ≡ true = rw (← c.factors-n.ensures.value) (search rules) in
    let set = alias_set A p.factors p.defining w in
    let fits : length set ≤ length memory = omega (arith, c.alias_set_size.ensures w word) in
    let found = alias_set_legal A w p word in
    let stored = rw (c.list-words.ensures.words, c.factors-n.ensures.value) at c.fill_aliases.ensures.stored in
    let count = rw (c.list-words.ensures.words, c.factors-n.ensures.value) at c.fill_aliases.ensures.count in
    record {
      stored = stored word ∙ filled_fits set memory fits ∙ sym (holding_fits set memory fits) ∙ ap (λ r. holding_ok r memory) (sym found);
      count =
          let all : c.fill_aliases.result ≡ length set = omega (arith, count word) in
          ap Ok all ∙ sym (wrote_fits set memory fits) ∙ ap (λ r. wrote_ok r memory) (sym found);
    }
