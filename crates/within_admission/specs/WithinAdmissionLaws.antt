-- The ways in which a call is refused or taken on; what an accepted call is known to be; and an edge without a fault.
use Rattle.std.specs.Prelude.{◌≡◌, refl, Bool, true, false, not, ◌||◌, cond, ℕ, ◌*◌, ◌≤◌, ◌<◌, ltb, eqb, get_or, ℤ, pos, negsuc, nat_abs, Float, Err}
use Rattle.std.proofs.Math.Path.{sym}
use Rattle.std.proofs.Common.{arith}
use Rattle.std.proofs.Math.ListN.{length}
use Rattle.std.specs.Float.{nan}
use borrow.Author.Tests.{eqb-true, ltb-true, ltb-false, not-false}
use Rattle.laws.specs.Tests.{or-false, and-true}
use Rattle.laws.specs.Words.{one_f}
use Rattle.board.specs.declared.edge.Edge.{Edge}
use Rattle.board.specs.Hits.{EdgeList, Board, size, edge_at}
use Rattle.board.specs.Domain.{EdgeOk}
use Rattle.refusals.specs.Numbers.{numbered}
use Rattle.refusals.specs.Numbers as why
use Rattle.checks.specs.Checks.{far, lengths_differ, size_bad, origin_bad}
use Rattle.ranges.specs.Ranges.{in_range}
use Rattle.findings.specs.Findings.{refused_if, or_else, first_found, settings_findings}
use Rattle.findings.specs.FindingsLaws.{both-accepted, if-accepted, clean_of, few-edges}
use Rattle.admission.specs.Refusals.{tables_bad}
use Rattle.admission.specs.Accepted.{board-ok}
use Rattle.within_admission.specs.WithinAdmission.{fault_of, fault_at, setting_bad, within_admission, WithinAccepted}
use Rattle.refusals.specs.Admission.{accepted}

-- ---- an edge without a fault
near : (z : ℤ) → far z ≡ false → nat_abs z ≤ 1000000
unfolding far
near (pos n) h = ltb-false _ _ h
near (negsuc n) h = let a : n ≤ 999999 = ltb-false _ _ (or-false (ltb 999999 n) _ h).0 in omega arith

-- each field of an edge without a fault is in range
pub record Faultless (e : Edge) (w : Float) : Type 0 where
  pub row : far e.row ≡ false
  pub col : far e.col ≡ false
  pub orientation : ltb 1 e.orientation ≡ false
  pub bit : ltb 1 e.bit ≡ false
  pub confidence : in_range one_f w ≡ true

-- the four tests, one after the other
tests : (a b c d : Bool) → cond a why.bad_coordinate (cond b why.bad_orientation (cond c why.bad_bit (cond d why.bad_confidence 0))) ≡ 0 → (a ≡ false) × (b ≡ false) × (c ≡ false) × (d ≡ false)
tests true b c d e = absurd (omega arith)
tests false true c d e = absurd (omega arith)
tests false false true d e = absurd (omega arith)
tests false false false true e = absurd (omega arith)
tests false false false false e = (refl, refl, refl, refl)

pub faultless : (e : Edge) (w : Float) → fault_of e w ≡ 0 → Faultless e w
unfolding fault_of
faultless e w h =
    let t = tests (far e.row || far e.col) (ltb 1 e.orientation) (ltb 1 e.bit) (not (in_range one_f w)) h in
    let f = or-false (far e.row) (far e.col) t.0 in
    record { row = f.0; col = f.1; orientation = t.1; bit = t.2; confidence = not-false _ t.3 }

pub no-fault : (e : Edge) (w : Float) → Faultless e w → fault_of e w ≡ 0
unfolding fault_of
no-fault e w f = rw (f.row, f.col, f.orientation, f.bit, f.confidence) refl

-- an edge without a fault may be looked up
pub fault-edge : (e : Edge) (w : Float) (t : ℕ) → t < 8 → fault_of e w ≡ 0 → EdgeOk e t
fault-edge e w t l h =
    let f = faultless e w h in
    record { near-row = near e.row f.row; near-col = near e.col f.col; bit = omega (arith, ltb-false 1 e.bit f.bit); transform = l }

-- edge i of a list, by value
pub fault-edge-at : (E : EdgeList) (i t : ℕ) (e : Edge) → t < 8 → fault_at E i ≡ 0 → e ≡ edge_at E i → EdgeOk e t
fault-edge-at E i t e l h q = rw q (fault-edge (edge_at E i) (get_or E.confidences i nan) t l h)

-- ---- the ways in which a fault is told
module _ (e : Edge) (w : Float) where
  pub told-row : far e.row ≡ true → why.bad_coordinate ≡ fault_of e w
  unfolding fault_of
  told-row a = sym (rw a refl)

  module _ (a : far e.row ≡ false) where
    pub told-col : far e.col ≡ true → why.bad_coordinate ≡ fault_of e w
    unfolding fault_of
    told-col b = sym (rw (a, b) refl)

    module _ (b : far e.col ≡ false) where
      pub told-orientation : ltb 1 e.orientation ≡ true → why.bad_orientation ≡ fault_of e w
      unfolding fault_of
      told-orientation c = sym (rw (a, b, c) refl)

      module _ (c : ltb 1 e.orientation ≡ false) where
        pub told-bit : ltb 1 e.bit ≡ true → why.bad_bit ≡ fault_of e w
        unfolding fault_of
        told-bit d = sym (rw (a, b, c, d) refl)

        module _ (d : ltb 1 e.bit ≡ false) where
          pub told_none : in_range one_f w ≡ true → 0 ≡ fault_of e w
          unfolding fault_of
          told_none f = sym (rw (a, b, c, d, f) refl)

          pub told-confidence : in_range one_f w ≡ false → why.bad_confidence ≡ fault_of e w
          unfolding fault_of
          told-confidence f = sym (rw (a, b, c, d, f) refl)

-- ---- the call
module _ (E : EdgeList) (t row col : ℕ) (B : Board) (limit : Float) where
  pub call-lengths : lengths_differ E ≡ true → Err (numbered why.lengths_differ) ≡ within_admission E t row col B limit
  unfolding within_admission or_else
  call-lengths h = sym (rw h refl)

  pub call-size : lengths_differ E ≡ false → size_bad 0 (size E) ≡ true → Err (numbered why.list_size) ≡ within_admission E t row col B limit
  unfolding within_admission or_else
  call-size d h = sym (rw (d, h) refl)

  pub call-settings : (tables setting : Bool) → tables ≡ tables_bad B → setting ≡ setting_bad (length B.h) row col limit → lengths_differ E ≡ false → size_bad 0 (size E) ≡ false
      → first_found (settings_findings (ltb 7 t) tables setting) ≡ within_admission E t row col B limit
  unfolding within_admission or_else
  call-settings tables setting p q d h = rw (p, q) (sym (rw (d, h) refl))

  -- WHAT AN ACCEPTED CALL IS
  pub within-accepted : within_admission E t row col B limit ≡ accepted → WithinAccepted E t row col B limit
  unfolding within_admission settings_findings lengths_differ origin_bad
  within-accepted h =
      let n = size E in
      let a = both-accepted (refused_if (lengths_differ E) why.lengths_differ) _ h in
      let b = both-accepted (refused_if (size_bad 0 n) why.list_size) _ a.1 in
      let k = clean_of (settings_findings (ltb 7 t) (tables_bad B) (setting_bad (length B.h) row col limit)) b.1 in
      let o = or-false (origin_bad (length B.h) row col) (not (in_range one_f limit)) (if-accepted _ why.bad_setting k.setting) in
      let p = or-false (not (ltb row (3 * length B.h))) (ltb 500 col) o.0 in
      let e1 = and-true (eqb n (length E.cols)) _ (not-false _ (if-accepted (lengths_differ E) why.lengths_differ a.0)) in
      let e2 = and-true (eqb n (length E.orientations)) _ e1.1 in
      let e3 = and-true (eqb n (length E.bits)) _ e2.1 in
      record {
        columns = record {
          few = few-edges 0 n (if-accepted (size_bad 0 n) why.list_size b.0);
          cols = sym (eqb-true _ _ e1.0);
          orientations = sym (eqb-true _ _ e2.0);
          bits = sym (eqb-true _ _ e3.0);
          confidences = sym (eqb-true _ _ e3.1);
        };
        transform = omega (arith, ltb-false 7 t (if-accepted (ltb 7 t) why.bad_transform k.transform));
        board = board-ok B (if-accepted (tables_bad B) why.bad_table k.table);
        origin = (ltb-true row (3 * length B.h) (not-false _ p.0), ltb-false 500 col p.1);
        limited = not-false _ o.1;
      }
