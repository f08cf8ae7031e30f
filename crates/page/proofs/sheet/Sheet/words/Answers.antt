-- Each word stands behind those before it.
use Rattle.std.proofs.Common.{arith}
use Rattle.page.specs.Page.{shown}
use Rattle.page.specs.Written.{written}
use Rattle.page.proofs.Lines.{field_more, line_all}
use Rattle.page.proofs.sheet.Sheet.words.Goals as goal

pub loop-word-preserved : goal.loop-word-preserved
loop-word-preserved g c =
    field_more 1024 (shown g.L.Levels.model c.args.plan.now.factors) (written c.loop-word.self) (written c.text.new.self) c.args.words.now c.loop-word.word-index
    c.loop-word.invariant c.loop-word-test.true (written c.byte.new.self) (written c.word.new.self) c.byte.ensures c.word.ensures

pub returns : goal.returns
returns g c =
    line_all 1024 (shown g.L.Levels.model c.args.plan.now.factors) (written c.loop-word.self) (written c.text.new.self) c.args.words.now c.loop-word.word-index
    c.loop-word.invariant (omega arith) (written c.args.self.now) c.args.label.now (written c.byte-2.new.self) c.text.ensures c.byte-2.ensures
