-- What was read takes the place of what was held, and is kept.
use Rattle.std.proofs.Common.{◌≡◌, Ok, sym, refl, ap, ◌∙◌, subst, arith}
use Rattle.contents.specs.Content.{Acts}
use Rattle.planfile.specs.File.{read_file}
use Rattle.contents.specs.Held.{content_of, result_of}
use Rattle.planfile.proofs.Roundtrip.{read_back, read_file_kept}
use Rattle.plan.proofs.open.OpenPlan.read.Goals as goal

pub invariant_of-self : goal.invariant_of-self
invariant_of-self g c =
    read_file_kept g.L.Levels.model g.met.L.Levels.lawful c.args.file.now (content_of c.in_ok-self-inside.field-0)
    (sym c.read.ensures ∙ ap result_of c.in_ok-self-inside.was)

pub returns : goal.returns
returns g c =
    let A = g.L.Levels.model in
    let f = c.args.file.now in
    let q = content_of c.in_ok-self-inside.field-0 in
    let ok : read_file A f ≡ Ok q = sym c.read.ensures ∙ ap result_of c.in_ok-self-inside.was in
    record {
      acts = subst (λ r. Acts r c.args.self.now q (Ok tt)) (sym ok) (refl, refl);
      again = λ e. read_back A f q (λ i. omega (arith, c.type_inv.file i)) ok;
    }
