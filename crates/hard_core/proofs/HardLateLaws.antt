-- An accepted hard call is refused late exactly when HardLate.antt says.
use Rattle.std.specs.Prelude.{◌≡◌, Bool, true, false, ℕ, eqb}
use Rattle.std.proofs.Math.Path.{sym}
use Rattle.std.proofs.Common.{ap, ◌∙◌}
use Rattle.std.proofs.Math.ListN.{get_or}
use borrow.Author.Tests.{eq-eqb, eqb-true}
use Rattle.scan.specs.Pairs.{ok-first}
use Rattle.laws.specs.Tests.{and-true, clash, not_so}
use Rattle.laws.specs.Words.{one_f}
use Rattle.board.specs.Hits.{size, hits_at}
use Rattle.admission.specs.Calls.{HardCall}
use Rattle.admission.specs.Accepted.{HardAccepted}
use Rattle.figures.specs.Figures.{no_confidence}
use Rattle.hard.specs.RateLaws.{never-over-one}
use Rattle.scan.specs.declared.scan.Candidate.{Candidate}
use Rattle.verdict.specs.Verdict.{agreed}
use Rattle.demand.specs.Demand.{AgreesPhysical}
use Rattle.demand.specs.Late.{LogicalKept}
use Rattle.demand.specs.OneSelection.{Winner, some-winner, winner-some, winner-most}
use Rattle.hard_core.specs.Hard.{hard_core}
use Rattle.hard_core.specs.HardLate.{WinnersDiffer, NoneAhead, HardLate}
use Rattle.hard_core.proofs.HardNumbers.{ListsDisagree, HardNotAhead, hard-10, hard-11, hard-12, hard-13}

module _ (call : HardCall) (m n : ℕ) (A : HardAccepted call m n) where
  abbrev LogicalWin : Type 0
  LogicalWin = Winner call.board call.logical call.transforms call.error_limit A.board A.logical A.transforms.few

  abbrev PhysicalWin : Type 0
  PhysicalWin = Winner call.board call.physical call.transforms one_f A.board A.physical A.transforms.few

  abbrev Agrees : Candidate → Type 0
  Agrees w = AgreesPhysical call.board call.physical call.transforms w.placing

  -- the test of two winners, and what it is to agree
  abbrev test : Candidate → Candidate → Bool
  test w p = agreed (get_or call.transforms w.placing.listed 0) w (get_or call.transforms p.placing.listed 0) p

  agrees-of : (w : Candidate) (p : PhysicalWin) → test w p.winner ≡ true → Agrees w
  unfolding agreed
  agrees-of w p h =
      let t = get_or call.transforms w.placing.listed 0 in
      let s = get_or call.transforms p.winner.placing.listed 0 in
      let u = and-true (eqb t s) _ h in
      let v = and-true (eqb w.placing.row p.winner.placing.row) (eqb w.placing.col p.winner.placing.col) u.1 in
      record {
        winner = p.winner;
        runner = p.runner-up;
        chosen = p.selected;
        transform = sym (eqb-true t s u.0);
        row = sym (eqb-true w.placing.row p.winner.placing.row v.0);
        col = sym (eqb-true w.placing.col p.winner.placing.col v.1);
      }

  test_of : (w : Candidate) (a : Agrees w) → test w a.winner ≡ true
  unfolding agreed
  test_of w a = rw (eq-eqb _ _ (sym a.transform), eq-eqb _ _ (sym a.row), eq-eqb _ _ (sym a.col))

  -- one list has one winner
  same-winner : (w : Candidate) (a : Agrees w) (p : PhysicalWin) → a.winner ≡ p.winner
  same-winner w a p = ok-first (sym a.chosen ∙ p.selected)

  abbrev kept : LogicalWin → LogicalKept call
  kept w = record { winner = w.winner; runner-up = w.runner-up; chosen = w.selected }

  abbrev won : LogicalKept call → LogicalWin
  won w = record { winner = w.winner; runner-up = w.runner-up; selected = w.chosen }

  -- with limit 1 the physical list has a winner where it has confidence
  physical-won : LogicalWin → no_confidence call.physical ≡ false → PhysicalWin
  physical-won w k =
      let m = winner-most call.board call.logical call.transforms call.error_limit A.board A.logical A.transforms.few w in
      some-winner call.board call.physical call.transforms one_f A.board A.physical A.transforms.few k (record {
        one = w.winner.placing;
        on-board = m.0;
        within = never-over-one (size call.physical) (hits_at call.board call.physical call.transforms w.winner.placing) A.some_physical A.physical.few;
      })

  differ_of : ListsDisagree call m n A → WinnersDiffer call
  differ_of d = record {
    logical = kept d.logical;
    physical_confidence = (winner-some call.board call.physical call.transforms one_f A.board A.physical A.transforms.few d.physical).0;
    differ = λ a. clash (ap (test d.logical.winner) (sym (same-winner d.logical.winner a d.physical)) ∙ test_of d.logical.winner a) d.differ;
  }

  differ_back : WinnersDiffer call → ListsDisagree call m n A
  differ_back d =
      let w = won d.logical in
      let p = physical-won w d.physical_confidence in
      record { logical = w; physical = p; differ = not_so (test w.winner p.winner) (λ h. d.differ (agrees-of w.winner p h)) }

  ahead_of : HardNotAhead call m n A → NoneAhead call
  ahead_of d = record { logical = kept d.logical; agrees = agrees-of d.logical.winner d.physical d.agree; none_leads = d.none_lead }

  ahead-back : NoneAhead call → HardNotAhead call m n A
  ahead-back d =
      let a = d.agrees in
      record { logical = won d.logical; physical = record { winner = a.winner; runner-up = a.runner; selected = a.chosen }; agree = test_of d.logical.winner a; none_lead = d.none_leads }

  -- THE LATE REFUSALS OF HARD DECODE, EXACTLY WHEN
  pub hard-late-numbers : HardLate call (hard_core call)
  hard-late-numbers =
      let h12 = hard-12 call m n A in
      let h13 = hard-13 call m n A in
      record {
        ten = hard-10 call m n A;
        eleven = hard-11 call m n A;
        twelve = ((λ e. differ_of (h12.0 e)), λ d. h12.1 (differ_back d));
        thirteen = ((λ e. ahead_of (h13.0 e)), λ d. h13.1 (ahead-back d));
      }
