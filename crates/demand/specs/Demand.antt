-- What customers are promised of a decoded view, in terms of board's hits. Only `Wins` speaks of more: of a list's selection, which goes by
-- tables and weights. Quotes are of the demands (docs/CONTRACTS.md).
use Rattle.std.specs.Prelude.{◌≡◌, false, List, ℕ, ◌+◌, ◌*◌, ◌-◌, ◌≤◌, ◌<◌, get_or, length, Float, Ok}
use Rattle.laws.specs.Words.{one_f}
use Rattle.board.specs.declared.edge.Placing.{Placing}
use Rattle.board.specs.Hits.{EdgeList, Board, size, hits_at}
use Rattle.scan.specs.Scan.{over_limit}
use Rattle.hard.specs.Select.{selection}
use Rattle.scan.specs.declared.scan.Candidate.{Candidate}
use Rattle.scan.specs.declared.scan.RunnerUp.{RunnerUp}
use Rattle.answer.specs.declared.Square.{Square}

-- "A placing is one place in the transform list with one of the 251,001 origins": three rows to a horizontal pattern, three columns to a vertical one
pub record OnBoard (B : Board) (ts : List ℕ) (P : Placing) : Type 0 where
  pub in_list : P.listed < length ts
  pub row : P.row < 3 * length B.h
  pub col : P.col < 3 * length B.v

-- two placings are the same one
abbrev pub Same : Placing → Placing → Type 0
Same P Q = (P.listed ≡ Q.listed) × (P.row ≡ Q.row) × (P.col ≡ Q.col)

-- the misses of a placing: "hits plus misses is the list's length"
abbrev pub misses_at : Board → EdgeList → List ℕ → Placing → ℕ
misses_at B E ts P = size E - hits_at B E ts P

-- a placing of the board is within the error limit
abbrev pub WithinLimit : Board → EdgeList → List ℕ → Float → Placing → Type 0
WithinLimit B E ts limit P = OnBoard B ts P × (over_limit (size E) limit (hits_at B E ts P) ≡ false)

-- "is within the error limit, beats the hits of every other by more than its own misses", which are the edges that it does not hit
pub record Leads (B : Board) (E : EdgeList) (ts : List ℕ) (limit : Float) (P : Placing) : Type 0 where
  pub on-board : OnBoard B ts P
  pub within : over_limit (size E) limit (hits_at B E ts P) ≡ false
  pub ahead : (Q : Placing) → OnBoard B ts Q → (Same Q P → ⊥) → hits_at B E ts Q + (size E - hits_at B E ts P) < hits_at B E ts P

-- "another placing with hits no third exceeds"
pub record RunsUp (B : Board) (E : EdgeList) (ts : List ℕ) (P Q : Placing) : Type 0 where
  pub on-board : OnBoard B ts Q
  pub other : Same Q P → ⊥
  pub no_third : (R : Placing) → OnBoard B ts R → (Same R P → ⊥) → hits_at B E ts R ≤ hits_at B E ts Q

-- "In the domain a runner-up always exists": another placing than P has so many hits, and no third has more
pub record RunnerUpExists (B : Board) (E : EdgeList) (ts : List ℕ) (P : Placing) (hits : ℕ) : Type 0 where
  pub one : Placing
  pub runs_up : RunsUp B E ts P one
  pub with_hits : hits_at B E ts one ≡ hits

-- the square that a placing names: its transform's number, row and column
abbrev pub Names : List ℕ → Placing → Square → Type 0
Names ts P s = (get_or ts P.listed 0 ≡ s.transform) × (P.row ≡ s.row) × (P.col ≡ s.col)

-- P has the transform and the origin of a list's winner: the placing that hard selection keeps, with a limit, by tables and weights
pub record Wins (B : Board) (E : EdgeList) (ts : List ℕ) (limit : Float) (P : Placing) : Type 0 where
  pub winner : Candidate
  pub runner : RunnerUp
  pub chosen : selection B E ts limit ≡ Ok (winner, runner)
  pub transform : get_or ts winner.placing.listed 0 ≡ get_or ts P.listed 0
  pub row : winner.placing.row ≡ P.row
  pub col : winner.placing.col ≡ P.col

-- "agrees with the winner of the physical list", which is selected with limit 1
abbrev pub AgreesPhysical : Board → EdgeList → List ℕ → Placing → Type 0
AgreesPhysical B E ts = Wins B E ts one_f

-- what a found answer says of the placing P on the list E, and of the runner-up Q on the list L: square s, h hits of n edges, runner-up r with k hits
pub record Tells (B : Board) (E L : EdgeList) (ts : List ℕ) (P Q : Placing) (s : Square) (h n : ℕ) (r : Square) (k : ℕ) : Type 0 where
  pub square : Names ts P s
  pub hits : h ≡ hits_at B E ts P
  pub edges : n ≡ size E
  pub runner-up : Names ts Q r
  pub runner_up_hits : k ≡ hits_at B L ts Q
