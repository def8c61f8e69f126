-- What an exact selection on one list comes to, in words of placings: no units, no placing within the limit, or a winner; and what its gate says of who leads. Hits are board's, edge by edge.
use Rattle.std.specs.Prelude.{◌≡◌, refl, Bool, true, false, List, ℕ, ◌-◌, ◌≤◌, ◌<◌, get_or, length, Float, Err, Ok}
use Rattle.std.proofs.Common.{sym, subst, ◌∙◌, ⊎_elim, eq-zero-or-pos, arith, ltb-true, ltb-false, ne_eqb}
use Rattle.board.specs.declared.edge.Placing.{Placing}
use Rattle.board.specs.Hits.{EdgeList, Board, size, hits, hits_at}
use Rattle.board.proofs.HitsLaws.{hits-le}
use Rattle.board.specs.Domain.{ListOk, BoardOk}
use Rattle.refusals.specs.Numbers.{numbered}
use Rattle.refusals.specs.Numbers as why
use Rattle.figures.specs.Gate.{passed}
use Rattle.scan.specs.Scan.{over_limit}
use Rattle.scan.specs.declared.scan.RunnerUp.{RunnerUp}
use Rattle.hard.specs.RateLaws.{fewer-over}
use Rattle.demand.specs.Demand.{Same, Leads, RunnerUpExists}
use Rattle.demand.specs.DemandLaws.{same_or_not}
use Rattle.demand.specs.OneSelection.{NoneWithinLimit, NoneLeads}
use Rattle.exact_scan.specs.declared.kept.ExactWinner.{ExactWinner}
use Rattle.exact_scan.specs.Kinds.{ExactSelection}
use Rattle.exact.specs.Select.{no_units, exact_selection}
use Rattle.exact.specs.Winner.{weight_at, IsWinner}
use Rattle.exact.proofs.ExactTheorems as one_list_lem
use Rattle.exact_core.specs.ExactCore.{total_units}

-- a placing that leads is the winner, whatever the weights
pub leads-wins : (B : Board) (E : EdgeList) (ts : List ℕ) (limit : Float) (Q P : Placing) → Leads B E ts limit Q → IsWinner B E ts P → Same Q P
leads-wins B E ts limit Q P l w =
    ⊎_elim (λ s. s) (λ n. absurd (omega (arith, l.ahead P w.on-board (λ s. n (sym s.0, sym s.1, sym s.2)), w.most_hits Q l.on-board))) (same_or_not Q P)

-- a list with units is not without confidence
has-units : (E : EdgeList) → 0 < total_units E → no_units E ≡ false
unfolding no_units
has-units E h = ne_eqb (total_units E) 0 (λ e. omega (arith, h, e))

module _ (B : Board) (E : EdgeList) (ts : List ℕ) (limit : Float) (board : BoardOk B) (list : ListOk E) (some : 0 < length ts) where
  -- the three ways in which a selection ends
  pub data SelectionEnd : ExactSelection → Type 0 where
    no-units : total_units E ≡ 0 → SelectionEnd (Err (numbered why.no_confidence))
    none_within : 0 < total_units E → NoneWithinLimit B E ts limit → SelectionEnd (Err (numbered why.none_within_limit))
    selected : 0 < total_units E → (w : ExactWinner) (r : RunnerUp) → exact_selection B E ts limit ≡ Ok (w, r) → SelectionEnd (Ok (w, r))

  -- the list's winner, and that none has more hits
  abbrev W : Placing
  W = one_list_lem.P B E ts board list some

  is-winner : IsWinner B E ts W
  is-winner = one_list_lem.winner-exists B E ts board list some

  by-limit : 0 < total_units E → (b : Bool) → over_limit (size E) limit (hits_at B E ts W) ≡ b → SelectionEnd (exact_selection B E ts limit)
  by-limit u true h =
      let all : NoneWithinLimit B E ts limit = λ Q o. fewer-over (size E) limit (hits_at B E ts Q) (hits_at B E ts W) list.few (is-winner.most_hits Q o) (hits-le B E (get_or ts W.listed 0) W.row W.col) h in
      subst SelectionEnd (sym ((one_list_lem.exact-11 B E ts board list some limit (has-units E u)).1 all)) (none_within u all)
  by-limit u false h =
      let s = one_list_lem.exact-selects B E ts board list some limit (has-units E u) W (is-winner.on-board, h) in
      subst SelectionEnd (sym s.2) (selected u s.0 s.1 s.2)

  -- HOW AN EXACT SELECTION ENDS
  pub exact-ended : SelectionEnd (exact_selection B E ts limit)
  exact-ended =
      ⊎_elim (λ z. subst SelectionEnd (sym ((one_list_lem.exact-10 B E ts board list some limit).1 z)) (no-units z))
      (λ u. by-limit u (over_limit (size E) limit (hits_at B E ts W)) refl) (eq-zero-or-pos (total_units E))

  -- ---- the winner, where there is one
  module _ (few : length ts ≤ 8) (w : ExactWinner) (r : RunnerUp) (e : exact_selection B E ts limit ≡ Ok (w, r)) where
    abbrev P : Placing
    P = w.placing

    pub wins : IsWinner B E ts P
    wins = (one_list_lem.exact-winner B E ts board list some limit w r e).0

    pub hits-told : w.hits ≡ hits_at B E ts P
    hits-told = (one_list_lem.exact-winner B E ts board list some limit w r e).1

    pub weight-told : w.weight ≡ weight_at B E ts P
    weight-told = (one_list_lem.exact-winner B E ts board list some limit w r e).2

    pub within : over_limit (size E) limit (hits_at B E ts P) ≡ false
    within = (one_list_lem.exact-winner B E ts board list some limit w r e).3

    runner-up : RunnerUpExists B E ts P r.hits
    runner-up = one_list_lem.exact-runner-up B E ts board list some limit w r e few

    -- where it passes the gate, it leads
    pub gate-leads : passed (size E) w.hits r.hits ≡ true → Leads B E ts limit P
    gate-leads g = record {
      on-board = wins.on-board;
      within = within;
      ahead = λ Q o n. omega (arith, ltb-true (size E - w.hits) (w.hits - r.hits) g, hits-told, runner-up.runs_up.no_third Q o n, runner-up.with_hits);
    }

    -- where it does not, no placing leads
    pub gate-none : passed (size E) w.hits r.hits ≡ false → NoneLeads B E ts limit
    gate-none g Q l =
        let s = leads-wins B E ts limit Q P l wins in
        let R = runner-up.one in
        let h : hits_at B E ts Q ≡ hits_at B E ts P = λ i. hits B E (get_or ts (s.0 i) 0) (s.1 i) (s.2 i) in
        let a = l.ahead R runner-up.runs_up.on-board (λ t. runner-up.runs_up.other (t.0 ∙ s.0, t.1 ∙ s.1, t.2 ∙ s.2)) in
        omega (arith, a, h, hits-told, runner-up.with_hits, ltb-false (size E - w.hits) (w.hits - r.hits) g)
