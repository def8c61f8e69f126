-- What a scan keeps and what it comes to: the code's types of these names.
use Rattle.std.specs.Prelude.{Option}
use Rattle.scan.specs.declared.scan.Candidate.{Candidate}
use Rattle.scan.specs.declared.scan.RunnerUp.{RunnerUp}

-- what is kept of the candidates so far: nobody, or one
abbrev pub Kept : Type 0
Kept = Option Candidate

-- no candidate, or a winner with its runner-up
abbrev pub Choice : Type 0
Choice = Option (Candidate × RunnerUp)
