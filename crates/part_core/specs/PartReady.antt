-- What the selections of an accepted call over a part ask, and what their winners are known for.
use Rattle.std.specs.Prelude.{◌≡◌, List, ℕ, ◌≤◌, ◌<◌, get_or, length, Float, None, Ok, Some}
use Rattle.std.proofs.Common.{arith}
use Rattle.laws.specs.Words.{one_f}
use Rattle.board.specs.Hits.{size}
use Rattle.board.proofs.HitsLaws.{hits-le}
use Rattle.room.specs.Room.{tables_room}
use Rattle.admission.specs.Calls.{HardCall}
use Rattle.admission.specs.Accepted.{HardAccepted}
use Rattle.exact_scan.specs.declared.kept.ExactWinner.{ExactWinner}
use Rattle.exact.specs.Select.{UnitsToReady}
use Rattle.exact.specs.SelectLaws.{list-units}
use Rattle.exact_core.specs.ExactReady.{ready-logical, ready-physical}
use Rattle.part.specs.declared.Part.{Part}
use Rattle.part.specs.Part.{PartOk}
use Rattle.part_select.specs.Kinds.{PartNext}
use Rattle.part_select.specs.Select.{part_selection, PartSelectReady}
use Rattle.part_select.proofs.PartTheorems.{PartSelected, part-winner}

-- a runner-up that is shown stands in the list of transforms
abbrev pub NextListed : List ℕ → PartNext → Type 0
NextListed ts None = Unit {0}
NextListed ts (Some r) = r.placing.listed < length ts

-- what judging the winners asks: confidences that can be added up, no more hits than edges, and placings that stand in the list of transforms
pub record PartJudgeReady (edges : ℕ) (confidences : List Float) (ts : List ℕ) (w : ExactWinner) (next : PartNext) (p : ExactWinner) : Type 0 where
  pub units : UnitsToReady confidences
  pub few : edges ≤ 8192
  pub hits : w.hits ≤ edges
  pub listed : w.placing.listed < length ts
  pub runner-up : NextListed ts next
  pub other : p.placing.listed < length ts

module _ (call : HardCall) (part : Part) (m n : ℕ) (A : HardAccepted call m n) (flat : length call.board.h ≡ 167) (ok : PartOk part) where
  -- what a selection asks
  pub logical-asks : (u : List ℕ) → tables_room call.board ≤ length u → PartSelectReady call.board call.logical call.transforms part u
  logical-asks u r = record { flat = record { ready = ready-logical call m n A u r; h = flat; v = A.vertical }; range = ok }

  pub physical-asks : (u : List ℕ) → tables_room call.board ≤ length u → PartSelectReady call.board call.physical call.transforms part u
  physical-asks u r = record { flat = record { ready = ready-physical call m n A u r; h = flat; v = A.vertical }; range = ok }

  -- what the winners are known for
  pub logical-won : (w : ExactWinner) (next : PartNext) → part_selection call.board call.logical call.transforms part call.error_limit ≡ Ok (w, next)
      → PartSelected call.board call.logical call.transforms A.board A.logical flat A.vertical part ok call.error_limit w next
  logical-won w next e = part-winner call.board call.logical call.transforms A.board A.logical flat A.vertical part ok call.error_limit w next e

  pub physical-won : (p : ExactWinner) (other : PartNext) → part_selection call.board call.physical call.transforms part one_f ≡ Ok (p, other)
      → PartSelected call.board call.physical call.transforms A.board A.physical flat A.vertical part ok one_f p other
  physical-won p other e = part-winner call.board call.physical call.transforms A.board A.physical flat A.vertical part ok one_f p other e

  next-listed : (w : ExactWinner) (next : PartNext) → PartSelected call.board call.logical call.transforms A.board A.logical flat A.vertical part ok call.error_limit w next → NextListed call.transforms next
  next-listed w None S = tt
  next-listed w (Some r) S = S.shown.0.on_part.0

  -- what judging asks
  pub judge-asks : (w : ExactWinner) (next : PartNext) → part_selection call.board call.logical call.transforms part call.error_limit ≡ Ok (w, next) → (p : ExactWinner) (other : PartNext)
      → part_selection call.board call.physical call.transforms part one_f ≡ Ok (p, other) → PartJudgeReady (size call.logical) call.logical.confidences call.transforms w next p
  judge-asks w next e p other f =
      let S = logical-won w next e in
      record {
        units = list-units call.logical A.logical;
        few = A.logical.few;
        hits = omega (arith, S.told.hits, hits-le call.board call.logical (get_or call.transforms w.placing.listed 0) w.placing.row w.placing.col);
        listed = S.winner.on_part.0;
        runner-up = next-listed w next S;
        other = (physical-won p other f).winner.on_part.0;
      }
