-- Each number stands behind those before it.
use Rattle.std.proofs.Common.{decimal, arith}
use Rattle.page.specs.Written.{written}
use Rattle.page.proofs.Lines.{field_more, line_all}
use Rattle.page.proofs.sheet.Sheet.numbers.Goals as goal

pub loop-number-preserved : goal.loop-number-preserved
loop-number-preserved c =
    field_more 1024 decimal (written c.loop-number.self) (written c.text.new.self) c.args.numbers.now c.loop-number.number-index c.loop-number.invariant
    c.loop-number-test.true (written c.byte.new.self) (written c.decimal.new.self) c.byte.ensures c.decimal.ensures

pub returns : goal.returns
returns c =
    line_all 1024 decimal (written c.loop-number.self) (written c.text.new.self) c.args.numbers.now c.loop-number.number-index c.loop-number.invariant
    (omega arith) (written c.args.self.now) c.args.label.now (written c.byte-2.new.self) c.text.ensures c.byte-2.ensures
