use Rattle.std.proofs.Common.{◌≡◌, ℕ, Bool, filter, length, ltb, ap, ◌∙◌, arith, rules}
use borrow.Author.Tests.{tests}
use Rattle.std.specs.List.{range_with_len}
use Rattle.std.proofs.lemmas.Iterator.{YieldsList-from_range}
use Rattle.std.proofs.lemmas.Iterator.Consumers.{count_from_yields_List, YieldsList-from_filter}
use Rattle.levels.specs.Words.{word_sum, word_multiple}
use Rattle.levels.specs.Alias.{how_many}
use Rattle.aliasing.proofs.Floors.{count_mapped, sums_list}
use Rattle.aliasing.proofs.members.smaller.Goals as goal

-- the levels whose sums are below the code are counted
pub returns : goal.returns
returns g c =
    let A = g.L.Levels.model in
    let n = c.args.n in
    let sum : ℕ → ℕ = λ k. word_sum A n c.args.word (word_multiple A n k c.args.row) in
    let below : ℕ → Bool = λ y. ltb y c.args.code in
    let counted : c.count.result ≡ length (filter (λ k. below (sum k)) (range_with_len 0 c.LEVELS.result)) =
    count_from_yields_List _ _ c.count.ensures.ran
    (YieldsList-from_filter _ (λ k. below (sum k)) (YieldsList-from_range 0 _ _ c.filter.ensures.source (omega arith)) c.filter.ensures.closure (λ x r q k. search (rules, tests))) in
    counted
    ∙ ap (λ s. length (filter (λ k. below (sum k)) (range_with_len 0 s))) (c.LEVELS.ensures ∙ g.met.L.Levels.levels)
    ∙ count_mapped below sum (range_with_len 0 A.s)
    ∙ ap (how_many below) (sums_list A g.met.L.Levels.lawful n A.s c.args.row c.args.word)
