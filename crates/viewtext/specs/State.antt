-- What is known of a list.
use Rattle.std.specs.Prelude.{Bool, true, false}
use Rattle.viewtext.specs.declared.list.State.{State}
use Rattle.viewtext.specs.declared.list.State.TheVariants.{Absent, Begun, Likely, Plain}

-- the file has it
abbrev pub given : State → Bool
given Absent = false
given Begun = true
given Likely = true
given Plain = true

-- its edges have log likelihoods
abbrev pub likely : State → Bool
likely Absent = false
likely Begun = false
likely Likely = true
likely Plain = false
