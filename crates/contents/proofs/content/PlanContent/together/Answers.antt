-- All words have room.
use Rattle.std.proofs.Common.{◌≡◌, ◌++◌, take, ap₂, ◌∙◌, arith}
use Rattle.std.proofs.lemmas.List.{length-append, take_all}
use Rattle.bounded.specs.Items.{items_of}
use Rattle.contents.specs.List.{listed}
use Rattle.contents.proofs.content.PlanContent.together.Goals as goal

pub returns : goal.returns
returns c =
    let ds = listed c.args.self.now.defining in
    let bs = listed c.args.self.now.block in
    let first : items_of c.extend.new.self ≡ ds = c.extend.ensures ∙ ap₂ (λ xs ys. take 16 (xs ++ ys)) c.new-all.ensures c.as_slice.ensures ∙ take_all 16 ds (omega arith) in
    c.extend-2.ensures ∙ ap₂ (λ xs ys. take 16 (xs ++ ys)) first c.as_slice-2.ensures ∙ take_all 16 (ds ++ bs) (omega (arith, length-append ds bs))
