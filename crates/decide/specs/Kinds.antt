-- What one list comes to: the code's type of this name.
use Rattle.std.specs.Prelude.{Result}
use Rattle.refusals.specs.declared.Refusal.{Refusal}
use Rattle.scan.specs.declared.scan.Candidate.{Candidate}
use Rattle.scan.specs.declared.scan.RunnerUp.{RunnerUp}

-- the winner with its runner-up, or a refusal
abbrev pub Outcome : Type 0
Outcome = Result (Candidate × RunnerUp) Refusal
