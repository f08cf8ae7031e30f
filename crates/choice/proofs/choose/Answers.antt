use Rattle.std.proofs.Common.{◌≡◌, take, rules}
use Rattle.choice.specs.Choice.{generators}
use Rattle.choice.specs.Chosen.{chosen_words}
use Rattle.choice.proofs.Offers.{promised, by_words}
use Rattle.choice.proofs.choose.Goals as goal

pub returns-then-is_empty : goal.returns-then-is_empty
returns-then-is_empty g c =
    let A = g.L.Levels.model in
    let L = g.met.L.Levels.lawful in
    let good = g.P.Preference.good c.args.preference.now in
    let laws = g.met.P.Preference.lawful c.args.preference.now in
    let n = c.args.n in
    let base = c.args.base.now in
    let further = c.args.further.now in
    let ours = chosen_words c.new.result in
    let exact : ours ≡ take 16 (generators A good n base further) = search rules in
    record { exact = exact; promise = promised A L good n base further laws ours exact; same = by_words A L good n base further laws }

pub returns-else-is_empty : goal.returns-else-is_empty
returns-else-is_empty g c =
    let A = g.L.Levels.model in
    let L = g.met.L.Levels.lawful in
    let good = g.P.Preference.good c.args.preference.now in
    let laws = g.met.P.Preference.lawful c.args.preference.now in
    let n = c.args.n in
    let base = c.args.base.now in
    let further = c.args.further.now in
    let ours = chosen_words c.chosen_of.result in
    let exact = c.chosen_of.ensures in
    record { exact = exact; promise = promised A L good n base further laws ours exact; same = by_words A L good n base further laws }
