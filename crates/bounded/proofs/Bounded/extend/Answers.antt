-- The new items stand behind those before them.
use Rattle.std.proofs.Common.{◌≡◌, ◌+◌, ◌-◌, ◌++◌, length, take, min, sym, ap, ◌∙◌, arith}
use Rattle.std.proofs.lemmas.Slice.{take-put_mid}
use Rattle.std.proofs.lemmas.List.{length-take-le}
use Rattle.bounded.specs.Items.{items_of}
use Rattle.bounded.proofs.Fronts.{taken_more}
use Rattle.bounded.proofs.Bounded.extend.Goals as goal

pub returns : goal.returns
returns g c =
    let b = c.args.self.now in
    let ys = c.copy_from_slice.new.self in
    let k = c.min-taken.result in
    let len : length (items_of b) ≡ b.len = length-take-le b.len b.places (omega arith) in
    let cut : k ≡ min (g.row.N - length (items_of b)) (length c.args.more.now) = c.min-taken.ensures ∙ ap (λ i. min (g.row.N - i) (length c.args.more.now)) (sym len) in
    let size : length ys ≡ k = ap length c.copy_from_slice.ensures.after ∙ length-take-le k c.args.more.now (omega (arith, c.min-taken.ensures)) in
    take-put_mid b.len (b.len + k - b.len) b.places ys (b.len + k) (ap (λ i. b.len + i) (sym size)) (omega arith)
    ∙ ap (λ zs. items_of b ++ zs) (c.copy_from_slice.ensures.after ∙ ap (λ i. take i c.args.more.now) cut)
    ∙ taken_more g.row.N (items_of b) c.args.more.now (omega (arith, len))
