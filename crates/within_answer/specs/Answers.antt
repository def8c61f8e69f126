-- The answer of the test of one placing: the code's type of this name.
use Rattle.std.specs.Prelude.{Result}
use Rattle.refusals.specs.declared.Refusal.{Refusal}
use Rattle.within_answer.specs.declared.LimitTest.{LimitTest}

-- what was found, or a refusal
abbrev pub WithinAnswer : Type 0
WithinAnswer = Result LimitTest Refusal
