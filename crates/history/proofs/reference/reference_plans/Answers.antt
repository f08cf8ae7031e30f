use Rattle.history.proofs.Examples as examples
use Rattle.history.proofs.reference.reference_plans.Goals as goal

pub returns : goal.returns
returns c = examples.reference_plans
