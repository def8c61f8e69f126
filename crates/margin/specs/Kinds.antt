-- What a soft scan keeps and what it comes to: the code's types of these names.
use Rattle.std.specs.Prelude.{Option}
use Rattle.margin.specs.declared.slots.SoftCandidate.{SoftCandidate}

-- first or second place: free, or held by a candidate
abbrev pub Slot : Type 0
Slot = Option SoftCandidate

-- no two candidates, or the best and the second
abbrev pub SoftChoice : Type 0
SoftChoice = Option (SoftCandidate × SoftCandidate)
