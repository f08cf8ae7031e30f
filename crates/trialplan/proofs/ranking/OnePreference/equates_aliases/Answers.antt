-- A plain rule equates the words of an alias set if the rule does.
use Rattle.trialplan.proofs.ranking.OnePreference.equates_aliases.Goals as goal

pub returns-in-Plain : goal.returns-in-Plain
returns-in-Plain g c = rw c.in-Plain.is c.equates_aliases.ensures
