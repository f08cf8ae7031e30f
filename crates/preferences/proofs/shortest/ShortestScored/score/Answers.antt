use Rattle.preferences.proofs.Points.{length_scores}
use Rattle.preferences.proofs.shortest.ShortestScored.score.Goals as goal

-- lengths are scores
pub returns-then-legal-clause-ranks : goal.returns-then-legal-clause-ranks
returns-then-legal-clause-ranks g c = length_scores g.L.Levels.model

pub returns-else-legal-clause-ranks : goal.returns-else-legal-clause-ranks
returns-else-legal-clause-ranks g c = length_scores g.L.Levels.model
