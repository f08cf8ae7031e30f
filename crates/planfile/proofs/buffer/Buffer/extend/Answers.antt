-- There is room for all bytes.
use Rattle.std.proofs.Common.{◌++◌, ◌∙◌, arith}
use Rattle.std.proofs.lemmas.List.{length-append, take_all}
use Rattle.planfile.specs.declared.buffer.TheConstants.{LONGEST}
use Rattle.planfile.specs.Written.{written}
use Rattle.planfile.proofs.buffer.Buffer.extend.Goals as goal

pub returns : goal.returns
returns c =
    let before = written c.args.self.now in
    let more = c.args.more.now in
    c.extend.ensures ∙ take_all LONGEST (before ++ more) (omega (arith, c.requires, length-append before more))
