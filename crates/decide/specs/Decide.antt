-- One list decided. Document 01: "Gate: margin = best minus runner-up hits, not below 0; pass exactly if margin > misses." Refused by the selection, or because the
-- gate was not passed, else the winner with its runner-up.
use Rattle.std.specs.Prelude.{◌≡◌, Bool, true, false, List, ℕ, Float, Err, Ok}
use Rattle.board.specs.Hits.{EdgeList, Board, size}
use Rattle.refusals.specs.Numbers.{numbered}
use Rattle.refusals.specs.Numbers as why
use Rattle.figures.specs.Gate.{passed}
use Rattle.scan.specs.declared.scan.Candidate.{Candidate}
use Rattle.scan.specs.declared.scan.RunnerUp.{RunnerUp}
use Rattle.hard.specs.Kinds.{Selection}
use Rattle.hard.specs.Select.{selection, Rooms, built_to}
use Rattle.decide.specs.Kinds.{Outcome}

-- the winner where the gate is passed
abbrev pub when_passed : Bool → Candidate → RunnerUp → Outcome
when_passed true w runner-up = Ok (w, runner-up)
when_passed false w runner-up = Err (numbered why.not_far_ahead)

-- a selection of a list of so many edges, asked by the gate
abbrev pub gated : ℕ → Selection → Outcome
gated edges (Err r) = Err r
gated edges (Ok (w, runner-up)) = when_passed (passed edges w.hits runner-up.hits) w runner-up

-- what deciding a list did: its outcome, and the room as the selection leaves it
pub record DecideDone (B : Board) (E : EdgeList) (ts : List ℕ) (limit : Float) (c c' : List ℕ) (w w' : List Float) (r : Outcome) : Type 0 where
  pub answer : r ≡ gated (size E) (selection B E ts limit)
  pub rooms : Rooms B E ts (built_to E ts) c c' w w'
