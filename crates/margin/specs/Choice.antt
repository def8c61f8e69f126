-- Document 01, 'Soft selection': what first and second place come to once all listed transforms were offered.
use Rattle.std.specs.Prelude.{None, Some}
use Rattle.margin.specs.declared.slots.SoftScan.{SoftScan}
use Rattle.margin.specs.Kinds.{Slot}
use Rattle.margin.specs.Kinds.{SoftChoice}

-- both candidates where both places are held
abbrev pub choice_of : Slot → Slot → SoftChoice
choice_of None second = None
choice_of (Some a) None = None
choice_of (Some a) (Some b) = Some (a, b)

unfoldable pub soft_chosen : SoftScan → SoftChoice
soft_chosen s = choice_of s.first s.second
