-- What a selection on one list comes to: the code's type of this name.
use Rattle.std.specs.Prelude.{Result}
use Rattle.refusals.specs.declared.Refusal.{Refusal}
use Rattle.scan.specs.declared.scan.Candidate.{Candidate}
use Rattle.scan.specs.declared.scan.RunnerUp.{RunnerUp}

-- the winner with its runner-up, or a refusal
abbrev pub Selection : Type 0
Selection = Result (Candidate × RunnerUp) Refusal
