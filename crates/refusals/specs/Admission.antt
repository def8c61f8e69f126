-- Whether a call is taken on, or refused before any work is done: the code's type of this name.
use Rattle.std.specs.Prelude.{Result, Ok}
use Rattle.refusals.specs.declared.Refusal.{Refusal}

-- accepted, or a refusal
abbrev pub Admission : Type 0
Admission = Result (Unit {0}) Refusal

-- taken on
abbrev pub accepted : Admission
accepted = Ok tt
