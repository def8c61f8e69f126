-- A found exact answer is in range.
use Rattle.std.specs.Prelude.{◌≡◌, length, get_or, Ok}
use Rattle.std.proofs.Common.{sym, le_refl, arith}
use Rattle.std.proofs.Math.Path.{subst}
use Prim.Native.Nat.{ℕ, ◌+◌, ◌^◌, ◌≤◌, ◌<◌}
use Rattle.laws.specs.Words.{Finite, fold, all}
use Rattle.laws.specs.Fold.{sum-some}
use Rattle.laws.specs.WithinLaws.{within-finite}
use Rattle.board.specs.Hits.{EdgeList, Board, size, hit, hits_at}
use Rattle.board.proofs.HitsLaws.{hits-le}
use Rattle.board.specs.Domain.{ListOk}
use Rattle.admission.specs.Calls.{HardCall}
use Rattle.admission.specs.Accepted.{HardAccepted}
use Rattle.figures.specs.Figures.{rate_of}
use Rattle.figures.proofs.RangeLaws.{rate-within}
use Rattle.units.specs.Units.{unit_at}
use Rattle.demand.specs.FoundRange.{WholesInRange, square-in-range}
use Rattle.exact.specs.Select.{units_to}
use Rattle.exact.specs.SelectLaws.{list-units, units_small}
use Rattle.exact.specs.Winner.{weight_of_square}
use Rattle.exact_answer.specs.declared.ExactDecoded.{ExactDecoded}
use Rattle.exact_core.specs.ExactCore.{total_units, exact_core}
use Rattle.exact_demand.proofs.ExactTheorems.{exact-sound}

-- a found exact answer of a board with L horizontal patterns: the squares on the board, hits of at most 8,192 edges, fewer for the runner-up; weights of at most the total, and the total from 1 to 2^37
pub record ExactInRange (L : ℕ) (d : ExactDecoded) : Type 0 where
  pub wholes : WholesInRange L d.square d.hits d.edges d.runner_up d.runner_up_hits
  pub runner_up_fewer : d.runner_up_hits < d.hits
  pub weight : d.weight ≤ d.total
  pub runner_up_weight : d.runner_up_weight ≤ d.total
  pub some_total : 0 < d.total
  pub total : d.total ≤ 2 ^ 37
  pub rate : Finite d.error_rate

module _ (E : EdgeList) (list : ListOk E) where
  -- the units of some edges are at most those of all
  pub weight-total : (B : Board) (t row col : ℕ) → weight_of_square B E t row col ≤ total_units E
  unfolding units_to
  weight-total B t row col = subst (λ (n : ℕ). weight_of_square B E t row col ≤ fold ◌+◌ 0 n all (unit_at E)) (sym list.confidences) (sum-some (hit B E t row col) (unit_at E) (size E))

  -- at most 2^24 for each of at most 8,192 edges
  pub total-few : total_units E ≤ 2 ^ 37
  total-few = omega (arith, units_small E.confidences (list-units E list) (length E.confidences) (le_refl (length E.confidences)), list.confidences, list.few)

pub exact-in-range : (call : HardCall) (m n : ℕ) (A : HardAccepted call m n) (d : ExactDecoded) → exact_core call ≡ Ok d → ExactInRange (length call.board.h) d
exact-in-range call m n A d e =
    let s = exact-sound call m n A d e in
    let a = s.1 in
    let P = a.square in
    let Q = a.runner-up in
    let B = call.board in
    let E = call.logical in
    let ts = call.transforms in
    record {
      wholes = record {
        on-board = square-in-range B ts P d.square A.transforms A.vertical a.leads.on-board a.tells.square;
        some_hits = omega (arith, a.tells.hits, a.tells.edges, hits-le B E (get_or ts P.listed 0) P.row P.col);
        few = omega (arith, a.tells.edges, A.logical.few);
        runner_up_on = square-in-range B ts Q d.runner_up A.transforms A.vertical a.runs_up.on-board a.tells.runner-up;
        runner_up_few = omega (arith, a.tells.runner_up_hits, A.logical.few, hits-le B E (get_or ts Q.listed 0) Q.row Q.col);
      };
      runner_up_fewer = omega (arith, a.tells.hits, a.tells.runner_up_hits, a.leads.ahead Q a.runs_up.on-board a.runs_up.other);
      weight = omega (arith, a.weight, a.total, weight-total E A.logical B (get_or ts P.listed 0) P.row P.col);
      runner_up_weight = omega (arith, a.runner_up_weight, a.total, weight-total E A.logical B (get_or ts Q.listed 0) Q.row Q.col);
      some_total = omega (arith, a.total, s.0);
      total = omega (arith, a.total, total-few E A.logical);
      rate = subst Finite (sym a.rate) (within-finite (rate_of (size E) (hits_at B E ts P)) 1 (rate-within (size E) (hits_at B E ts P) A.some_logical A.logical.few));
    }
