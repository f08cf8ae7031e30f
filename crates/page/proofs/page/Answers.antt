-- The page is stored, and is short, since it stands on a sheet.
use Rattle.std.proofs.Common.{length, ap, arith}
use Rattle.std.proofs.lemmas.List.{length-take}
use Rattle.page.proofs.page.Goals as goal

pub returns-clause-short : goal.returns-clause-short
returns-clause-short g c =
    let bytes = c.printed.result.bytes in
    omega (arith, ap length c.printed.ensures, length-take bytes.len bytes.places, bytes.few)
