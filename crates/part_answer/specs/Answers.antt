-- The answer of decode over a part, and the competitor that it tells: the code's types of these names.
use Rattle.std.specs.Prelude.{Option, Result, ℕ}
use Rattle.refusals.specs.declared.Refusal.{Refusal}
use Rattle.answer.specs.declared.Square.{Square}
use Rattle.part_answer.specs.declared.PartDecoded.{PartDecoded}

-- the best competitor with its hits and its weight, or none
abbrev pub PartRunnerUp : Type 0
PartRunnerUp = Option (Square × ℕ × ℕ)

-- what was found, or a refusal
abbrev pub PartAnswer : Type 0
PartAnswer = Result PartDecoded Refusal
