use Rattle.std.proofs.Common.{◌≡◌, ◌≤◌, ap, ◌∙◌, arith}
use mir.Facts.{Fits-below}
use Rattle.aliasing.specs.Clear.{clear_bytes, ones_in}
use Rattle.page.proofs.Bounds.{clear_few}
use Rattle.page.proofs.printing.clear_count.Goals as goal

pub overflow_cast-result : goal.overflow_cast-result
overflow_cast-result g c =
    let n = c.factors.ensures.high in
    let ones : c.ones.result ≡ ones_in (clear_bytes c.factors.result c.list.result.now) = c.ones.ensures ∙ ap ones_in (c.clear.ensures.pairs n) in
    let few : c.ones.result ≤ 1024 = omega (arith, ones, clear_few c.factors.result c.list.result.now n) in
    Fits-below {n = 1024} tt few
