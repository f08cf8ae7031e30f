-- One word more stands behind those before it, and is not 0.
use Rattle.std.proofs.Common.{◌≡◌, ℕ, ◌+◌, ◌<◌, [], ◌∷◌, ◌++◌, length, get_or, ap, ◌∙◌, arith, below_more}
use Rattle.std.proofs.lemmas.List.{length_push, take_all, get_or_append_left, get_or_push}
use Rattle.bounded.specs.Items.{items_of}
use Rattle.contents.specs.List.{listed}
use Rattle.contents.proofs.words.Words.push.Goals as goal

pub invariant_of-self : goal.invariant_of-self
invariant_of-self c =
    let ws = listed c.args.self.now in
    let w = c.args.word in
    let more : items_of c.push.new.self ≡ ws ++ w ∷ [] = c.push.ensures ∙ take_all 16 (ws ++ w ∷ []) (omega (arith, c.requires.room, length_push ws w)) in
    let each : (i : ℕ) → i < length ws + 1 → 0 < get_or (ws ++ w ∷ []) i 0 =
    below_more _ _ (λ i h. rw get_or_append_left (c.args.self.now.nonzero i h)) (rw get_or_push c.requires.nonzero) in
    record { nonzero = λ i h. rw more (each i (omega (arith, h, ap length more, length_push ws w))) }
