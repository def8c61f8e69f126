-- The answer of the engine without tables: the code's type of this name.
use Rattle.std.specs.Prelude.{Result}
use Rattle.refusals.specs.declared.Refusal.{Refusal}
use Rattle.locate_answer.specs.declared.Located.{Located}

-- what was found, or a refusal
abbrev pub LocateAnswer : Type 0
LocateAnswer = Result Located Refusal
