use Rattle.std.proofs.Common.{◌∙◌, refl, ◌-◌, ◌+◌, take, drop}
use Rattle.levels.specs.Words.{code_sum}
use Rattle.aliasing.proofs.Filled.{made_more, made_all, appended}
use Rattle.aliasing.proofs.members.append.Goals as goal

pub loop-word-init : goal.loop-word-init
loop-word-init g c = refl

-- one sum more
pub loop-word-preserved : goal.loop-word-preserved
loop-word-preserved g c =
    made_more (code_sum g.L.Levels.model c.args.code) (take (c.args.len + c.min-more.result - c.args.len) (drop c.args.len c.copy_within.new.self)) c.loop-word.word-items c.loop-word.word-index c.add.result
    c.loop-word.invariant c.loop-word-test.true c.add.ensures

-- all for which there is room
pub returns-clause-stored : goal.returns-clause-stored
returns-clause-stored g c =
    let f = code_sum g.L.Levels.model c.args.code in
    let len = c.args.len in
    let more = c.min-more.result in
    let copied = c.copy_within.new.self in
    appended f c.args.memory.now c.args.front len more copied c.loop-word.word-items c.requires.front c.requires.len c.min-more.ensures c.copy_within.ensures.after
    (c.loop-word.invariant ∙ made_all f (take (len + more - len) (drop len copied)) c.loop-word.word-index c.loop-word-test.false)
