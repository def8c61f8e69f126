-- What it is to win on a list, and to agree with the physical list's winner, in hits, edge by edge: no table and no weight occurs.
use Rattle.std.specs.Prelude.{◌≡◌, false, List, ℕ, ◌≤◌, ◌<◌, get_or, length, Float}
use Rattle.std.proofs.Common.{ap, ⊎_elim, arith}
use Rattle.laws.specs.Words.{one_f}
use Rattle.board.specs.declared.edge.Placing.{Placing}
use Rattle.board.specs.Hits.{EdgeList, Board, size, hits, hits_at}
use Rattle.board.specs.Domain.{ListOk, BoardOk}
use Rattle.figures.specs.Figures.{no_confidence}
use Rattle.hard.specs.RateLaws.{never-over-one}
use Rattle.demand.specs.Demand.{OnBoard, Same, WithinLimit, Wins, AgreesPhysical}
use Rattle.demand.specs.DemandLaws.{same_or_not}
use Rattle.demand.specs.OneSelection.{Winner, some-winner, winner-most}

-- ---- of any list, with any limit
module _ (B : Board) (E : EdgeList) (ts : List ℕ) (limit : Float) (board : BoardOk B) (list : ListOk E) (few : length ts ≤ 8) where
  -- no placing within the limit has more hits than the winner
  pub wins-most : (P : Placing) → Wins B E ts limit P → (Q : Placing) → WithinLimit B E ts limit Q → hits_at B E ts Q ≤ hits_at B E ts P
  wins-most P a Q w =
      let m = winner-most B E ts limit board list few (record { winner = a.winner; runner-up = a.runner; selected = a.chosen }) in
      let same : hits_at B E ts a.winner.placing ≡ hits_at B E ts P = λ i. hits B E (a.transform i) (a.row i) (a.col i) in
      omega (arith, m.1, m.2 Q w.0 w.1)

  -- a placing within the limit with more hits than every other wins, whatever the weights
  pub most-wins : no_confidence E ≡ false → (P : Placing) → WithinLimit B E ts limit P → ((Q : Placing) → OnBoard B ts Q → (Same Q P → ⊥) → hits_at B E ts Q < hits_at B E ts P)
      → Wins B E ts limit P
  most-wins k P w h = record {
    winner = won.winner;
    runner = won.runner-up;
    chosen = won.selected;
    transform = ap (λ (p : ℕ). get_or ts p 0) same.0;
    row = same.1;
    col = same.2;
  }
    where
      won : Winner B E ts limit board list few
      won = some-winner B E ts limit board list few k (record { one = P; on-board = w.0; within = w.1 })

      same : Same won.winner.placing P
      same =
          let m = winner-most B E ts limit board list few won in
          ⊎_elim (λ s. s) (λ n. absurd (omega (arith, h won.winner.placing m.0 n, m.1, m.2 P w.0 w.1))) (same_or_not won.winner.placing P)

-- ---- of the physical list, where with limit 1 every placing is within it
module _ (B : Board) (E : EdgeList) (ts : List ℕ) (board : BoardOk B) (list : ListOk E) (few : length ts ≤ 8) (some : 0 < size E) where
  all-within : (P : Placing) → OnBoard B ts P → WithinLimit B E ts one_f P
  all-within P o = (o, never-over-one (size E) (hits_at B E ts P) some list.few)

  -- a placing that agrees with the winner has hits that no placing exceeds
  pub agrees-most : (P : Placing) → AgreesPhysical B E ts P → (Q : Placing) → OnBoard B ts Q → hits_at B E ts Q ≤ hits_at B E ts P
  agrees-most P a Q o = wins-most B E ts one_f board list few P a Q (all-within Q o)

  -- a placing with more hits than every other agrees with the winner, whatever the weights
  pub most-agrees : no_confidence E ≡ false → (P : Placing) → OnBoard B ts P → ((Q : Placing) → OnBoard B ts Q → (Same Q P → ⊥) → hits_at B E ts Q < hits_at B E ts P)
      → AgreesPhysical B E ts P
  most-agrees k P o h = most-wins B E ts one_f board list few k P (all-within P o) h
