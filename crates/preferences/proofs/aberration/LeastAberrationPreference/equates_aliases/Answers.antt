use Rattle.preferences.proofs.Aliases.{aberration_aliases}
use Rattle.preferences.proofs.aberration.LeastAberrationPreference.equates_aliases.Goals as goal

-- words of one alias set have one alias set
pub returns : goal.returns
returns g c = aberration_aliases g.L.Levels.model g.met.L.Levels.lawful
