-- A found answer over a part is in range.
use Rattle.std.specs.Prelude.{◌≡◌, List, ℕ, ◌^◌, ◌≤◌, ◌<◌, length, get_or, None, Ok, Some}
use Rattle.std.proofs.Common.{sym, subst, arith}
use Rattle.laws.specs.Words.{Finite}
use Rattle.laws.specs.WithinLaws.{within-finite}
use Rattle.board.specs.declared.edge.Placing.{Placing}
use Rattle.board.specs.Hits.{size, hits_at}
use Rattle.board.proofs.HitsLaws.{hits-le}
use Rattle.admission.specs.Calls.{HardCall}
use Rattle.admission.specs.Accepted.{TransformsOk, HardAccepted}
use Rattle.figures.specs.Figures.{rate_of}
use Rattle.figures.proofs.RangeLaws.{rate-within}
use Rattle.answer.specs.declared.Square.{Square}
use Rattle.demand.specs.Demand.{Names}
use Rattle.demand.specs.FoundRange.{SquareInRange}
use Rattle.exact_demand.proofs.ExactRange.{weight-total, total-few}
use Rattle.part.specs.declared.Part.{Part}
use Rattle.part.specs.Part.{OnPart, PartOk}
use Rattle.part.specs.PartLaws.{side-below}
use Rattle.part_answer.specs.Answers.{PartRunnerUp}
use Rattle.part_answer.specs.declared.PartDecoded.{PartDecoded}
use Rattle.part_core.specs.PartCore.{part_core}
use Rattle.part_demand.specs.PartDemand.{Beside, PartAnswered}
use Rattle.part_demand.proofs.PartTheorems.{part_sound}

-- a runner-up that is shown, beside a winner with so many hits of a list that weighs `total`: its square on the board, fewer hits, and a weight of at most the total
abbrev pub BesideInRange : ℕ → ℕ → PartRunnerUp → Type 0
BesideInRange best total None = Unit {0}
BesideInRange best total (Some (square, hits, weight)) = SquareInRange 167 square × (hits < best) × (weight ≤ total)

-- a found answer over a part: the square on the flat board, some hits of at most 8,192 edges; a weight of at most the total, and the total from 1 to 2^37
pub record PartInRange (d : PartDecoded) : Type 0 where
  pub on-board : SquareInRange 167 d.square
  pub some_hits : 0 < d.hits
  pub hits : d.hits ≤ d.edges
  pub few : d.edges ≤ 8192
  pub weight : d.weight ≤ d.total
  pub some_total : 0 < d.total
  pub total : d.total ≤ 2 ^ 37
  pub rate : Finite d.error_rate
  pub beside : BesideInRange d.hits d.total d.runner_up

-- a placing of a part is named by a square of the flat board
part-square-in-range : (ts : List ℕ) (part : Part) (P : Placing) (s : Square) → TransformsOk ts → OnPart ts part P → Names ts P s → SquareInRange 167 s
part-square-in-range ts part P s k o n = record {
  transform = subst (λ (x : ℕ). x < 8) n.0 (k.small P.listed o.0);
  row = omega (arith, side-below part.row part.rows P.row o.1.0, n.1);
  col = omega (arith, side-below part.col part.cols P.col o.1.1, n.2);
}

module _ (call : HardCall) (part : Part) (m n : ℕ) (A : HardAccepted call m n) (flat : length call.board.h ≡ 167) (ok : PartOk part) where
  -- what is shown beside a winner is in range
  beside-in-range : (d : PartDecoded) (a : PartAnswered call part d) (x : PartRunnerUp) → Beside call.board call.logical call.transforms part a.square x → BesideInRange d.hits d.total x
  beside-in-range d a None b = tt
  beside-in-range d a (Some (s, k, w)) b = (
    part-square-in-range call.transforms part b.0 s A.transforms b.1.on_part b.2,
    omega (arith, a.hits, b.3, a.leads.ahead b.0 b.1.on_part b.1.other),
    omega (arith, a.total, b.4, weight-total call.logical A.logical call.board (get_or call.transforms b.0.listed 0) b.0.row b.0.col),
  )

  -- the placing that leads has some hits: it beats the runner-up's, or 0
  leader-hits : (d : PartDecoded) (a : PartAnswered call part d) (x : PartRunnerUp) → Beside call.board call.logical call.transforms part a.square x → 0 < d.hits
  leader-hits d a None b = omega (arith, a.hits, a.leads.alone b)
  leader-hits d a (Some (s, k, w)) b = omega (arith, a.hits, a.leads.ahead b.0 b.1.on_part b.1.other)

  pub part-in-range : (d : PartDecoded) → part_core call part ≡ Ok d → PartInRange d
  part-in-range d e =
      let s = part_sound call part m n A flat ok d e in
      let a = s.1 in
      let P = a.square in
      let B = call.board in
      let E = call.logical in
      let ts = call.transforms in
      record {
        on-board = part-square-in-range ts part P d.square A.transforms a.leads.on_part a.names;
        some_hits = leader-hits d a d.runner_up a.beside;
        hits = omega (arith, a.hits, a.edges, hits-le B E (get_or ts P.listed 0) P.row P.col);
        few = omega (arith, a.edges, A.logical.few);
        weight = omega (arith, a.weight, a.total, weight-total E A.logical B (get_or ts P.listed 0) P.row P.col);
        some_total = omega (arith, a.total, s.0.logical_units);
        total = omega (arith, a.total, total-few E A.logical);
        rate = subst Finite (sym a.rate) (within-finite (rate_of (size E) (hits_at B E ts P)) 1 (rate-within (size E) (hits_at B E ts P) A.some_logical A.logical.few));
        beside = beside-in-range d a d.runner_up a.beside;
      }
