-- The winner of hard selection on one list: a runner-up always exists; and where it passes the gate, it leads, its hits are board's, and its runner-up is another
-- placing with hits no third exceeds.
use Rattle.std.specs.Prelude.{◌≡◌, true, false, List, ℕ, ◌≤◌, ◌<◌, get_or, length, Float, Ok}
use Rattle.std.proofs.Common.{sym, ◌∙◌}
use Rattle.board.specs.declared.edge.Placing.{Placing}
use Rattle.board.specs.Hits.{EdgeList, Board, size, hits_at}
use Rattle.board.specs.Sides.{period_of}
use Rattle.board.specs.Domain.{ListOk, BoardOk}
use Rattle.figures.specs.Gate.{passed}
use Rattle.hard.specs.Placings.{Sole, MostOther}
use Rattle.hard.specs.OneList.{key_at, origin_number, InRange}
use Rattle.figures.specs.Figures.{total_confidence}
use Rattle.hard.specs.Select.{tables_of, selection}
use Rattle.hard.proofs.SelectTheorems.{hits_at_key, selected-in-range, selected-most-other, selected-right, selected-runner-up}
use Rattle.scan.specs.declared.scan.Candidate.{Candidate}
use Rattle.scan.specs.declared.scan.RunnerUp.{RunnerUp}
use Rattle.demand.specs.Demand.{OnBoard, Leads, RunsUp, RunnerUpExists}
use Rattle.demand.specs.DemandLaws.{same_key, hits-key, sole-leads, most-runs-up, most-exists}

-- the placing of a runner-up at list position p
abbrev pub runner_at : ℕ → RunnerUp → Placing
runner_at p r = record { listed = p; row = r.row; col = r.col }

module _ (B : Board) (E : EdgeList) (ts : List ℕ) (limit : Float) (board : BoardOk B) (list : ListOk E) (few : length ts ≤ 8) (x : Candidate) (r : RunnerUp) (e : selection B E ts limit ≡ Ok (x, r)) where
  in-range : InRange (period_of B true) (period_of B false) (size E) (total_confidence E) limit (λ p. get_or ts p 0) (λ p. tables_of B E (get_or ts p 0)) (length ts) x r
  in-range = selected-in-range B E ts limit board list few x r e

  pub winner-on : OnBoard B ts x.placing
  winner-on = record { in_list = in-range.listed; row = in-range.row; col = in-range.col }

  -- A RUNNER-UP ALWAYS EXISTS: whatever was selected, passed by the gate or not, another placing has the hits that are reported, and no third has more
  pub runner-up-exists : RunnerUpExists B E ts x.placing r.hits
  runner-up-exists = most-exists B board ts E limit x.placing r.hits winner-on (selected-most-other B E ts limit board list few x r e)

  -- ---- where it passes the gate
  module _ (g : passed (size E) x.hits r.hits ≡ true) where
    right : Sole (length ts) (origin_number (period_of B true) (period_of B false)) (size E) limit (hits_at_key B E ts) x.placing.listed (key_at (period_of B false) x.placing.row x.placing.col)
        × (x.hits ≡ hits_at_key B E ts x.placing.listed (key_at (period_of B false) x.placing.row x.placing.col))
        × MostOther (length ts) (origin_number (period_of B true) (period_of B false)) (size E) limit (hits_at_key B E ts) x.placing.listed (key_at (period_of B false) x.placing.row x.placing.col) r.hits
    right = selected-right B E ts limit board list few x r e g

    pub winner-leads : Leads B E ts limit x.placing
    winner-leads = sole-leads B board ts E limit x.placing winner-on right.0

    pub winner-hits : x.hits ≡ hits_at B E ts x.placing
    winner-hits = right.1 ∙ hits-key B board ts E limit x.placing winner-on

    -- the list position of the runner-up, and what is known of it
    pub named : (p : ℕ) × (p < length ts) × (get_or ts p 0 ≡ r.transform) × ((p ≡ x.placing.listed) × (key_at (period_of B false) r.row r.col ≡ key_at (period_of B false) x.placing.row x.placing.col) → ⊥) × (hits_at_key B E ts p (key_at (period_of B false) r.row r.col) ≡ r.hits)
    named = selected-runner-up B E ts limit board list few x r e g

    runner-on : OnBoard B ts (runner_at named.0 r)
    runner-on = record { in_list = named.1; row = in-range.runner_up_row; col = in-range.runner_up_col }

    pub runner-hits : hits_at B E ts (runner_at named.0 r) ≡ r.hits
    runner-hits = sym (hits-key B board ts E limit (runner_at named.0 r) runner-on) ∙ named.4

    pub runs_up : RunsUp B E ts x.placing (runner_at named.0 r)
    runs_up =
        most-runs-up B board ts E limit x.placing (runner_at named.0 r) r.hits winner-on runner-on
        (λ s. named.3 (same_key B board ts (runner_at named.0 r) x.placing s)) runner-hits right.2
