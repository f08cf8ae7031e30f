use Rattle.std.proofs.Common.{length, ap, arith}
use Rattle.levels.specs.Rows.{basis_rows}
use Rattle.choice.specs.Chosen.{chosen_words}
use Rattle.choice.proofs.Rows.{kept_known, kept_new, kept_full}
use Rattle.choice.proofs.judge.Judge.keep.Goals as goal

-- with a row more, the word is kept
pub returns-then-rows-len : goal.returns-then-rows-len
returns-then-rows-len g c =
    let s = c.args.self.now in
    let p = kept_new g.L.Levels.model g.met.L.Levels.lawful s.factors s.room (basis_rows s.known) s.base.words.now (basis_rows c.args.kept.now.rows) (chosen_words c.args.kept.now.words) (basis_rows c.admit.new.self) c.args.word
    c.requires.word c.requires.fits c.admit.ensures (omega arith) (omega (arith, ap length c.words.ensures)) s.few (chosen_words c.push.new.self) c.push.ensures in
    record { words = p.0; fits = p.1 }

-- with no row more, the words stay
pub returns-else-rows-len : goal.returns-else-rows-len
returns-else-rows-len g c =
    let s = c.args.self.now in
    let p = kept_known g.L.Levels.model g.met.L.Levels.lawful s.factors s.room (basis_rows s.known) s.base.words.now (basis_rows c.args.kept.now.rows) (chosen_words c.args.kept.now.words) (basis_rows c.admit.new.self) c.args.word
    c.requires.word c.requires.fits c.admit.ensures (omega arith) in
    record { words = p.0; fits = p.1 }

-- and where there is no room
pub returns-else-words-self-clause-words : goal.returns-else-words-self-clause-words
returns-else-words-self-clause-words g c =
    let s = c.args.self.now in
    kept_full g.L.Levels.model g.met.L.Levels.lawful s.factors s.room s.base.words.now (chosen_words c.args.kept.now.words) c.args.word (omega (arith, ap length c.words.ensures))
