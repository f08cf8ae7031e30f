-- A ranking of one preference equates the words of an alias set if that does.
use Rattle.trialplan.proofs.ranking.RankingPreference.equates_aliases.Goals as goal

pub returns-in-One : goal.returns-in-One
returns-in-One g c = rw c.in-One.is c.equates_aliases.ensures
