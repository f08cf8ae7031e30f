use Rattle.std.proofs.Common.{◌∷◌, [], List, ℕ, take, drop, sym, ap, ◌∙◌}
use Rattle.choice.specs.Chosen.{chosen_words}
use Rattle.choice.specs.Search.{keep, sieve}
use Rattle.choice.proofs.Rows.{sieve_append}
use Rattle.choice.proofs.judge.Judge.put.Goals as goal

-- the front, the word and the words behind it, one after the other
pub returns-clause-words : goal.returns-clause-words
returns-clause-words g c =
    let s = c.args.self.now in
    let A = g.L.Levels.model in
    let kept = chosen_words c.args.best.now.words in
    let front = take c.args.place kept in
    let back = drop c.args.place kept in
    let put : List ℕ → List ℕ → List ℕ = sieve A s.factors s.room s.base.words.now in
    let one : List ℕ → List ℕ = λ (kept : List ℕ). keep A s.factors s.room s.base.words.now kept c.args.word in
    c.keep_all-2.ensures.words
    ∙ ap (λ (us : List ℕ). put us c.split_at.result.1.now) (c.keep.ensures.words ∙ ap one (c.keep_all.ensures.words ∙ ap (λ (us : List ℕ). put us c.split_at.result.0.now) c.nothing.ensures.words ∙ ap (put []) (c.split_at.ensures.front ∙ ap (take c.args.place) c.words.ensures)))
    ∙ ap (put (one (put [] front))) (c.split_at.ensures.back ∙ ap (drop c.args.place) c.words.ensures)
    ∙ sym (sieve_append A g.met.L.Levels.lawful s.factors s.room s.base.words.now front (c.args.word ∷ back) [])
