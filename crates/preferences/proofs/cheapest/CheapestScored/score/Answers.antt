use Rattle.std.proofs.Common.{◌∙◌, sym, arith}
use Rattle.preferences.proofs.Points.{cost_scores}
use Rattle.preferences.proofs.Tables.{score_word}
use Rattle.preferences.proofs.cheapest.CheapestScored.score.Goals as goal

-- the total of a word is its score
pub returns-then-legal-clause-value : goal.returns-then-legal-clause-value
returns-then-legal-clause-value g c =
    c.total.ensures ∙ sym (score_word g.L.Levels.model c.args.self.now.costs c.args.n c.args.word (sym c.legal.ensures ∙ c.if-legal.true))

-- costs are scores
pub returns-then-legal-clause-ranks : goal.returns-then-legal-clause-ranks
returns-then-legal-clause-ranks g c = cost_scores g.L.Levels.model c.args.self.now.costs (omega arith) c.args.self.now.small

pub returns-else-legal-clause-ranks : goal.returns-else-legal-clause-ranks
returns-else-legal-clause-ranks g c = cost_scores g.L.Levels.model c.args.self.now.costs (omega arith) c.args.self.now.small
