-- A plan in a list of calls: open or settled.
use Rattle.std.specs.Prelude.{Bool, true, false}
use Rattle.contents.specs.Content.{Content}
use Rattle.history.specs.declared.trial.Trial.{Trial}
use Rattle.history.specs.declared.trial.Trial.TheVariants.{Open, Settled}

-- whether a plan is settled, and what it holds
pub record State : Type 0 where
  pub settled : Bool
  pub content : Content

-- a plan that is open, and one that is settled
abbrev pub open_state : Content → State
open_state p = record { settled = false; content = p }

abbrev pub settled_state : Content → State
settled_state p = record { settled = true; content = p }

-- the state of a plan of the code, of which a clause sees what it holds
abbrev pub state_of : {L : Type 0} → Trial L → State
state_of (Open p) = open_state p
state_of (Settled p) = settled_state p
