-- SLIDE THE PICTURE, SLIDE THE SQUARE (C-21): first of what the contract of `decide` allows, hard selection and the gate on one list, whatever room was lent. `SlidTo` and the shift stand in
-- sliding/specs/Sliding.antt. The runner-up's place is not included: of placings with as many hits in one transform the first by row and column stands, and which one is first changes when they
-- slide past the seam. Nor is decode of two lists: where several placings of the physical list tie, weights and the seam say which of them wins.
use Rattle.std.specs.Prelude.{◌≡◌, List, ℕ, ◌≤◌, ◌<◌, length, ℤ, Float}
use Rattle.std.proofs.Common.{sym, subst}
use Rattle.board.specs.Hits.{EdgeList, Board, size}
use Rattle.board.specs.Domain.{BoardOk, ListOk}
use Rattle.decide.specs.Kinds.{Outcome}
use Rattle.hard.specs.Select.{selection}
use Rattle.decide.specs.Decide.{gated, DecideDone}
use Rattle.refusals.specs.Admission.{Admission, accepted}
use Rattle.exact_scan.specs.Kinds.{ExactSelection}
use Rattle.exact.specs.Select.{ExactDone}
use Rattle.locate_answer.specs.Answers.{LocateAnswer}
use Rattle.locate_admission.specs.LocateAdmission.{locate_admission}
use Rattle.locate.specs.Located.{AfterChecks, LocateDone}
use Rattle.sliding.specs.Sliding.{Slid, slid_placing, SlidTo}
use Rattle.sliding.proofs.ByHits.{ToldThere}
use Rattle.sliding.proofs.OtherEngines.{LocatedSlidTo, located-slides, exact_told, exact-slides}
use Rattle.sliding.proofs.Example.{SlidExample}
use Rattle.sliding.proofs.Example as example
use Rattle.sliding.proofs.SlideTheorems.{slides}

-- an accepted list, and the same list with every edge `down` rows down and `right` columns to the right, accepted too
pub slide-the-picture : (board : Board) (transforms : List ℕ) (limit : Float) (down right : ℤ) (before after : EdgeList)
    → BoardOk board → ListOk before → ListOk after → length transforms ≤ 8 → Slid down right before after
    → (c c' d d' : List ℕ) (w w' x x' : List Float) (one other : Outcome) → DecideDone board before transforms limit c c' w w' one → DecideDone board after transforms limit d d' x x' other
    → SlidTo board transforms down right one other
slide-the-picture board transforms limit down right before after board-ok before-ok after-ok few slid c c' d d' w w' x x' one other first second =
    subst (λ (o : Outcome). SlidTo board transforms down right o other) (sym first.answer)
    (subst (SlidTo board transforms down right (gated (size before) (selection board before transforms limit))) (sym second.answer) (slides board transforms down right board-ok before after limit before-ok after-ok few slid))

-- the same of the engine without tables (C-16), of whatever the contract of `locate` allows for two accepted calls
pub slide-without-tables : (board : Board) (transforms : List ℕ) (limit : Float) (down right : ℤ) (before after : EdgeList)
    → BoardOk board → ListOk before → ListOk after → length transforms ≤ 8 → Slid down right before after
    → (one other : LocateAnswer) → locate_admission before transforms board limit ≡ accepted → locate_admission after transforms board limit ≡ accepted
    → LocateDone board before transforms limit one → LocateDone board after transforms limit other → LocatedSlidTo board down right one other
slide-without-tables board transforms limit down right before after board-ok before-ok after-ok few slid one other a b first second =
    located-slides board transforms down right board-ok before after limit before-ok after-ok few slid one other
    (subst (λ (x : Admission). AfterChecks board before transforms limit x one) a first.done) (subst (λ (x : Admission). AfterChecks board after transforms limit x other) b second.done)

-- and of the exact mode's selection on one list (C-15), once the gate is asked
pub slide-exactly : (board : Board) (transforms : List ℕ) (limit : Float) (down right : ℤ) (before after : EdgeList)
    → BoardOk board → ListOk before → ListOk after → 0 < length transforms → length transforms ≤ 8 → Slid down right before after
    → (a a' b b' : List ℕ) (one other : ExactSelection) → ExactDone board before transforms limit a a' one → ExactDone board after transforms limit b b' other
    → ToldThere (slid_placing board transforms down right) (exact_told (size before) one) (exact_told (size after) other)
slide-exactly board transforms limit down right before after board-ok before-ok after-ok some few slid a a' b b' one other first second =
    rw (first.answer, second.answer) (exact-slides board transforms down right board-ok before after limit before-ok after-ok some few slid)

-- document 01's worked edge, slid, on every flat board
pub slid-example : (board : Board) → length board.h ≡ 167 → length board.v ≡ 167 → SlidExample board
slid-example = example.slid-example
