use Rattle.std.proofs.Common.{◌≡◌, length, ◌∙◌, rules}
use Rattle.std.proofs.lemmas.List.{nil_from_length}
use Rattle.preferences.specs.Counts.{lengths_of_words}
use Rattle.preferences.proofs.aberration.LeastAberrationPreference.prefer.Goals as goal

-- without base words the lengths decide
pub returns-then-is_empty : goal.returns-then-is_empty
returns-then-is_empty g c fair first second =
    let none : length c.args.base.now.words.now ≡ 0 = search rules in
    c.longer.ensures
    ∙ lengths_of_words g.L.Levels.model g.met.L.Levels.lawful c.args.base.now.factors c.args.base.now.words.now c.args.a c.args.b (nil_from_length c.args.base.now.words.now none) first second
