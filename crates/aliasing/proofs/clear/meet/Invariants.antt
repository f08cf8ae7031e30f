use Rattle.aliasing.proofs.Chains.{Met}
use Rattle.aliasing.proofs.clear.meet.Given as goal

-- none that the word has met has its least alias
abbrev pub invariant-loop-place : goal.invariant-loop-place
invariant-loop-place l = Met l.least l.at l.place

-- the places fall
abbrev pub decreases-loop-place : goal.decreases-loop-place
decreases-loop-place l = l.place
