-- The first of the parts, by rank, is the earliest of all that is found; a call that is accepted is as `LocateAccepted` says; a refused one is so by one of the early numbers.
use Rattle.std.specs.Prelude.{◌≡◌, not, List, ℕ, Float, Err}
use borrow.Author.Tests.{not-false}
use Rattle.laws.specs.Words.{one_f}
use Rattle.board.specs.Hits.{EdgeList, Board, size}
use Rattle.refusals.specs.declared.Refusal.{Refusal}
use Rattle.refusals.specs.declared.ListName.TheVariants as list
use Rattle.refusals.specs.Numbers as why
use Rattle.refusals.specs.Order.{earlier}
use Rattle.ranges.specs.Ranges.{in_range, transforms_bad}
use Rattle.findings.specs.Findings.{first_found, joined, list_findings, settings_findings}
use Rattle.findings.specs.FindingsLaws.{clean_of, clean-parts, if-accepted}
use Rattle.findings.specs.Joined.{sorted-joined, first-joined, found_early, sorted-list, sorted-settings}
use Rattle.admission.specs.Refusals.{tables_bad}
use Rattle.admission.specs.Accepted.{list-tests, list-ok, size_ok, transforms-ok, board-ok, vertical-length}
use Rattle.locate_admission.specs.LocateAdmission.{locate_settings, locate_admission, LocateAccepted}
use Rattle.refusals.specs.Admission.{accepted}

module _ (E : EdgeList) (ts : List ℕ) (B : Board) (limit : Float) where
  pub locate-parts : earlier (first_found (list_findings 1 list.Only E)) (first_found (locate_settings ts B limit)) ≡ locate_admission E ts B limit
  unfolding locate_admission
  locate-parts = first-joined (list_findings 1 list.Only E) (locate_settings ts B limit) (sorted-list 1 list.Only E) (sorted-settings (transforms_bad ts) (tables_bad B) (not (in_range one_f limit)))

  pub locate-accepted : locate_admission E ts B limit ≡ accepted → LocateAccepted E ts B limit
  unfolding locate_admission settings_findings
  locate-accepted h =
      let k = clean-parts (list_findings 1 list.Only E) (locate_settings ts B limit) (clean_of _ h) in
      let t = list-tests 1 list.Only E k.0 in
      let b = if-accepted (tables_bad B) why.bad_table k.1.table in
      record {
        list = list-ok 1 E t;
        some = size_ok 1 (size E) t.sizes;
        transforms = transforms-ok ts (if-accepted (transforms_bad ts) why.bad_transform k.1.transform);
        board = board-ok B b;
        vertical = vertical-length B b;
        within_limit = not-false _ (if-accepted (not (in_range one_f limit)) why.bad_setting k.1.setting);
      }

  -- refused early means by one of 2 to 9, 16 and 17
  pub locate-early : (r : Refusal) → locate_admission E ts B limit ≡ Err r → why.Early r.number
  unfolding locate_admission
  locate-early r =
      found_early (joined (list_findings 1 list.Only E) (locate_settings ts B limit)) r
      (sorted-joined (list_findings 1 list.Only E) (locate_settings ts B limit) (sorted-list 1 list.Only E) (sorted-settings (transforms_bad ts) (tables_bad B) (not (in_range one_f limit))))
