-- The answer of exact decode: the code's type of this name.
use Rattle.std.specs.Prelude.{Result}
use Rattle.refusals.specs.declared.Refusal.{Refusal}
use Rattle.exact_answer.specs.declared.ExactDecoded.{ExactDecoded}

-- what was found, or a refusal
abbrev pub ExactAnswer : Type 0
ExactAnswer = Result ExactDecoded Refusal
