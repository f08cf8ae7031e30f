-- The file is stored, and is read back.
use Rattle.std.proofs.Common.{◌≡◌, Ok, ap, ◌∙◌, subst}
use Rattle.contents.specs.Memory.{holding, wrote}
use Rattle.contents.specs.Held.{content_of}
use Rattle.planfile.specs.File.{file_of, read_file}
use Rattle.planfile.proofs.Roundtrip.{file_back}
use Rattle.plan.proofs.settled.SettledPlan.write.Goals as goal

pub returns : goal.returns
returns g c =
    let A = g.L.Levels.model in
    let file = c.as_slice.ensures ∙ c.file.ensures ∙ ap (file_of A) c.self.view_is in
    record {
      stored = c.store.ensures.stored ∙ ap (λ f. holding f c.args.memory.now) file;
      count = c.store.ensures.count ∙ ap (λ f. wrote f c.args.memory.now) file;
      again = subst (λ p. read_file A (file_of A p) ≡ Ok p) c.self.view_is (file_back A g.met.L.Levels.lawful (content_of c.self.inside.held) c.self.invariant);
    }
