-- The first of the parts, by rank, is the earliest of all that is found; what is taken on, hard decode takes on too; a refused call is so by one of the early numbers, and its place is right.
use Rattle.std.specs.Prelude.{◌≡◌, refl, Bool, false, not, ◌||◌, ℕ, eqb, length, Err}
use Rattle.std.proofs.Common.{sym, ◌∙◌}
use Rattle.std.proofs.Math.Path.{ap, ap₂}
use borrow.Author.Tests.{eq-eqb, eqb-true, not-false}
use Rattle.laws.specs.Tests.{or-false}
use Rattle.laws.specs.Words.{one_f}
use Rattle.board.specs.Hits.{Board}
use Rattle.refusals.specs.declared.Refusal.{Refusal}
use Rattle.refusals.specs.Admission.{Admission, accepted}
use Rattle.refusals.specs.declared.ListName.TheVariants as list
use Rattle.refusals.specs.Numbers as why
use Rattle.refusals.specs.Order.{earlier}
use Rattle.ranges.specs.Ranges.{in_range, transforms_bad, pole_length, patterns_bad, horizontal_bad, vertical_bad}
use Rattle.findings.specs.Findings.{refused_if, first_found, joined, room_findings, list_findings, settings_findings}
use Rattle.findings.specs.FindingsLaws.{Clean, clean_of, of-clean, clean-parts, clean-joined, if-accepted, room-found}
use Rattle.findings.specs.Joined.{Sorted, sorted-joined, first-joined, found_early, sorted-room, sorted-list, sorted-settings}
use Rattle.findings.specs.Places.{no_likelihoods, PlaceRight}
use Rattle.findings.proofs.PlacesLaws.{of-refusal, of-found, each-joined, each-room, each-settings, each-lists}
use Rattle.admission.specs.Calls.{HardCall}
use Rattle.admission.specs.Refusals.{tables_bad, room_short, both_lists, hard_admission}
use Rattle.admission.specs.Accepted.{hard-accepted}
use Rattle.admission.specs.PlaceTheorems.{hard_count, hard_bad}
use Rattle.part.specs.declared.Part.{Part}
use Rattle.part.specs.Part.{part_bad}
use Rattle.part.specs.PartLaws.{part-ok}
use Rattle.part_admission.specs.PartAdmission.{flat_tables_bad, part_settings_bad, part_settings, part_admission, PartAccepted}

-- ---- nothing is found where no test holds
room-clean : (short : Bool) → short ≡ false → Clean (room_findings short)
unfolding room_findings
room-clean short e = record {
  room = rw e;
  lengths = refl;
  size = refl;
  coordinate = refl;
  orientation = refl;
  bit = refl;
  confidence = refl;
  likelihood = refl;
  transform = refl;
  table = refl;
  setting = refl;
}

settings-clean : (a b c : Bool) → a ≡ false → b ≡ false → c ≡ false → Clean (settings_findings a b c)
unfolding settings_findings
settings-clean a b c p q r = record {
  room = refl;
  lengths = refl;
  size = refl;
  coordinate = refl;
  orientation = refl;
  bit = refl;
  confidence = refl;
  likelihood = refl;
  transform = rw p;
  table = rw q;
  setting = rw r;
}

-- ---- tables of a flat board
-- of a horizontal table of 167 the test is hard decode's
pub flat-alike : (B : Board) → length B.h ≡ 167 → flat_tables_bad B ≡ tables_bad B
unfolding horizontal_bad vertical_bad pole_length
flat-alike B e = ap (λ (b : Bool). patterns_bad b B.h || vertical_bad B.v) (eq-eqb (length B.h) 167 e ∙ sym (ap pole_length e))

-- both have 167 patterns, and hard decode takes them on
module _ (B : Board) (e : flat_tables_bad B ≡ false) where
  pub flat-length : length B.h ≡ 167
  unfolding vertical_bad patterns_bad
  flat-length = eqb-true (length B.h) 167 (not-false _ (or-false (not (eqb (length B.h) 167)) _ (or-false (vertical_bad B.h) (vertical_bad B.v) e).0).0)

  pub flat-tables : tables_bad B ≡ false
  flat-tables = sym (flat-alike B flat-length) ∙ e

module _ (call : HardCall) (part : Part) (m n : ℕ) where
  sorted-both : Sorted (both_lists call)
  sorted-both = sorted-joined (list_findings 1 list.Logical call.logical) (list_findings 1 list.Physical call.physical) (sorted-list 1 list.Logical call.logical) (sorted-list 1 list.Physical call.physical)

  sorted_part : Sorted (part_settings call part)
  sorted_part = sorted-settings (transforms_bad call.transforms) (flat_tables_bad call.board) (part_settings_bad call.error_limit part)

  sorted_rest : Sorted (joined (both_lists call) (part_settings call part))
  sorted_rest = sorted-joined (both_lists call) (part_settings call part) sorted-both sorted_part

  -- the parts, as the code puts them together
  pub part-parts : earlier (refused_if (room_short 167 m n) why.room_too_short) (earlier (earlier (first_found (list_findings 1 list.Logical call.logical)) (first_found (list_findings 1 list.Physical call.physical))) (first_found (part_settings call part)))
      ≡ part_admission call part m n
  unfolding part_admission
  part-parts =
      ap₂ earlier (room-found (room_short 167 m n))
      (ap (λ (x : Admission). earlier x (first_found (part_settings call part))) (first-joined (list_findings 1 list.Logical call.logical) (list_findings 1 list.Physical call.physical) (sorted-list 1 list.Logical call.logical) (sorted-list 1 list.Physical call.physical))
      ∙ first-joined (both_lists call) (part_settings call part) sorted-both sorted_part)
      ∙ first-joined (room_findings (room_short 167 m n)) (joined (both_lists call) (part_settings call part)) (sorted-room (room_short 167 m n)) sorted_rest

  -- refused early means by one of 1 to 9, 16 and 17
  pub part-early : (r : Refusal) → part_admission call part m n ≡ Err r → why.Early r.number
  unfolding part_admission
  part-early r =
      found_early (joined (room_findings (room_short 167 m n)) (joined (both_lists call) (part_settings call part))) r
      (sorted-joined (room_findings (room_short 167 m n)) (joined (both_lists call) (part_settings call part)) (sorted-room (room_short 167 m n)) sorted_rest)

  -- WHERE A REFUSAL POINTS TO: as hard decode's
  pub part-place : (r : Refusal) → part_admission call part m n ≡ Err r → PlaceRight (hard_count call) (hard_bad call) r
  unfolding part_admission
  part-place r h =
      let P = PlaceRight (hard_count call) (hard_bad call) in
      of-refusal P _ r (of-found P _ (each-joined P (room_findings (room_short 167 m n)) (joined (both_lists call) (part_settings call part)) (each-room (hard_count call) (hard_bad call) (room_short 167 m n))
      (each-joined P (both_lists call) (part_settings call part) (each-lists call.logical call.physical no_likelihoods)
      (each-settings (hard_count call) (hard_bad call) (transforms_bad call.transforms) (flat_tables_bad call.board) (part_settings_bad call.error_limit part))))) h

  -- ---- a call that is taken on
  module _ (h : part_admission call part m n ≡ accepted) where
    found : Clean (room_findings (room_short 167 m n)) × Clean (both_lists call) × Clean (part_settings call part)
    unfolding part_admission
    found =
        let a = clean-parts (room_findings (room_short 167 m n)) (joined (both_lists call) (part_settings call part)) (clean_of _ h) in
        let b = clean-parts (both_lists call) (part_settings call part) a.1 in
        (a.0, b.0, b.1)

    tables-good : flat_tables_bad call.board ≡ false
    unfolding settings_findings
    tables-good = if-accepted (flat_tables_bad call.board) why.bad_table found.2.table

    settings-good : (not (in_range one_f call.error_limit) ≡ false) × (part_bad part ≡ false)
    unfolding settings_findings
    settings-good = or-false (not (in_range one_f call.error_limit)) (part_bad part) (if-accepted (part_settings_bad call.error_limit part) why.bad_setting found.2.setting)

    room-good : room_short (length call.board.h) m n ≡ false
    unfolding room_findings
    room-good = ap (λ (L : ℕ). room_short L m n) (flat-length call.board tables-good) ∙ if-accepted (room_short 167 m n) why.room_too_short found.0.room

    transforms-good : transforms_bad call.transforms ≡ false
    unfolding settings_findings
    transforms-good = if-accepted (transforms_bad call.transforms) why.bad_transform found.2.transform

    -- hard decode takes it on, with the same room
    pub part-hard : hard_admission call m n ≡ accepted
    unfolding hard_admission
    part-hard =
        let s = settings_findings (transforms_bad call.transforms) (tables_bad call.board) (not (in_range one_f call.error_limit)) in
        of-clean _ (clean-joined (room_findings (room_short (length call.board.h) m n)) (joined (both_lists call) s) (room-clean (room_short (length call.board.h) m n) room-good)
        (clean-joined (both_lists call) s found.1
        (settings-clean (transforms_bad call.transforms) (tables_bad call.board) (not (in_range one_f call.error_limit)) transforms-good (flat-tables call.board tables-good) settings-good.0)))

    -- AN ACCEPTED CALL: hard decode's, on a flat board, with a part in range
    pub part-accepted : PartAccepted call part m n
    part-accepted = record { hard = hard-accepted call m n part-hard; flat = flat-length call.board tables-good; ok = part-ok part settings-good.1 }
