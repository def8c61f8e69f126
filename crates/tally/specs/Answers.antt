-- What an edit of the record answers, and how it was judged: the code's types of these names.
use Rattle.std.specs.Prelude.{Bool, Result}
use Rattle.refusals.specs.declared.Refusal.{Refusal}
use Rattle.tally.specs.declared.Tally.{Tally}

-- the new record, or a refusal
abbrev pub TallyAnswer : Type 0
TallyAnswer = Result Tally Refusal

-- taken, with whether its edge is a hit, or refused
abbrev pub Judged : Type 0
Judged = Result Bool Refusal
