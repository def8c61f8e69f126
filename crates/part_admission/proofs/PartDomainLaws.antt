-- WHAT IS ASKED IS WHAT IS CHECKED, of a call over a part: no early refusal exactly when it meets all conditions of PartDomain.antt, and else the number of the first that it does not meet.
-- The check is hard decode's of the same call on a flat board, or on one whose vertical table is empty where the tables given are none of a flat board; and then the part's.
use Rattle.std.specs.Prelude.{◌≡◌, refl, Bool, true, false, not, ◌||◌, ℕ, ◌%◌, ◌≤◌, eqb, length, replicate, Err, Ok}
use Rattle.std.proofs.Common.{sym, ◌∙◌, inl, arith, ne_eqb, eqb-true, le-ltb}
use Rattle.std.proofs.Math.Path.{ap, subst}
use mathlib.Core.List.{List, [], ◌∷◌, ◌++◌}
use Rattle.std.proofs.Math.ListN.{length-replicate}
use Rattle.std.specs.Float.Ieee.{nan}
use Rattle.std.proofs.lemmas.Bool.{eqb-false}
use Rattle.laws.specs.Words.{one_f}
use Rattle.board.specs.Hits.{Board}
use Rattle.refusals.specs.declared.Refusal.{Refusal}
use Rattle.refusals.specs.Admission.{Admission, accepted}
use Rattle.ranges.specs.Ranges.{in_range, transforms_bad, patterns_bad, horizontal_bad, vertical_bad}
use Rattle.findings.specs.Findings.{refused_if, or_else, first_of, Findings, first_found, joined, room_findings, list_findings, settings_findings}
use Rattle.findings.specs.FindingsLaws.{no-refusal, else-none}
use Rattle.admission.specs.Calls.{HardCall, HardRoom, hard_call}
use Rattle.admission.specs.Refusals.{tables_bad, room_short, both_lists, hard_admission, hard_checked}
use Rattle.admission.specs.Conditions.{Condition, AllMet, FirstFails}
use Rattle.admission.specs.ConditionLaws.{met-both, met-parts, fails-early, fails-late, InOtherWords, word-for-word, reworded, reworded-early, Judged, judged-if, Judges}
use Rattle.admission.specs.Domain.{AtMost, Between, PoleLength, early, hard_early}
use Rattle.admission.proofs.DomainLaws.{hard-domain, hard-first}
use Rattle.part.specs.declared.Part.{Part}
use Rattle.part.specs.Part.{SideOk, PartOk, side_bad, part_bad}
use Rattle.part.specs.PartLaws.{part-ok}
use Rattle.part_admission.specs.PartAdmission.{flat_tables_bad, part_admission}
use Rattle.part_admission.proofs.PartAdmissionLaws.{flat-alike}
use Rattle.part_admission.specs.PartDomain.{part_early}

-- ---- a check after others
-- what is judged one by one, and then one more
judges-more : (rows : List Condition) (a b : Admission) {n : ℕ} {fact : Type 0} → Judges rows a → Judged b n fact → Judges (rows ++ ((n, fact) ∷ [])) (or_else a b)
unfolding or_else AllMet FirstFails
judges-more rows (Ok _) b {n} {fact} j k = record {
  met = λ e. met-both rows ((n, fact) ∷ []) (j.met refl) (k.holds e, tt);
  accepted = λ m. k.accepted (met-parts rows ((n, fact) ∷ []) m).1.0;
  refused = λ r e. fails-late rows ((n, fact) ∷ []) r.number (j.met refl) (inl ((λ h. no-refusal r (sym (k.accepted h) ∙ e)), sym (k.number r e)));
}
judges-more rows (Err x) b {n} {fact} j k = record {
  met = λ e. no-refusal x (sym e);
  accepted = λ m. no-refusal x (sym (j.accepted (met-parts rows ((n, fact) ∷ []) m).0));
  refused = λ r e. fails-early rows ((n, fact) ∷ []) r.number (j.refused r e);
}

-- the same conditions in other words
judges-reworded : (rows others : List Condition) (a : Admission) → InOtherWords rows others → Judges rows a → Judges others a
judges-reworded rows others a w j = record { met = λ e. w.met (j.met e); accepted = λ m. j.accepted (w.back m); refused = λ r e. w.fails r.number (j.refused r e) }

-- the last kind, with one more finding of it
else-more : (a b c : Admission) → or_else a (or_else b c) ≡ or_else (or_else a b) c
unfolding or_else
else-more (Ok _) b c = refl
else-more (Err r) b c = refl

either-if : (p q : Bool) (n : ℕ) → refused_if (p || q) n ≡ or_else (refused_if p n) (refused_if q n)
unfolding or_else
either-if true q n = refl
either-if false q n = refl

-- ---- the part
side-fits : (start number : ℕ) → SideOk start number → side_bad start number ≡ false
unfolding side_bad
side-fits start number ok = rw (le-ltb 500 start ok.begins, ne_eqb number 0 (λ e. omega (arith, ok.some, e)), le-ltb 501 number ok.few)

pub part-fits : (part : Part) → PartOk part → part_bad part ≡ false
unfolding part_bad
part-fits part ok = rw (side-fits part.row part.rows ok.down, side-fits part.col part.cols ok.across)

part-judged : (part : Part) → Judged (refused_if (part_bad part) 9) 9 (PartOk part)
part-judged part = judged-if (part_bad part) 9 (part-ok part, part-fits part)

-- ---- another board, on which hard decode's 1 and 8 are those of a flat board
abbrev Flat : Board → Type 0
Flat B = (length B.h ≡ 167) × AtMost 7 B.h × (length B.v ≡ 167) × AtMost 7 B.v

abbrev Pole : Board → Type 0
Pole B = PoleLength (length B.h) × AtMost 7 B.h × (length B.v ≡ 167) × AtMost 7 B.v

record Other (B C : Board) : Type 0 where
  pub long : length C.h ≡ 167
  pub bad : tables_bad C ≡ flat_tables_bad B
  pub to : Pole C → Flat B
  pub from : Flat B → Pole C

pole-of : (L : ℕ) → L ≡ 167 → PoleLength L
pole-of L e = (omega arith, omega arith, λ z. omega (arith, ap (λ (x : ℕ). x % 3) e))

-- a board of 167 horizontal patterns is its own
own : (B : Board) → length B.h ≡ 167 → Other B B
own B e = record {
  long = e;
  bad = sym (flat-alike B e);
  to = λ f. (e, f.1, f.2, f.3);
  from = λ f. (pole-of (length B.h) e, f.1, f.2, f.3);
}

-- and for any other one without a vertical table stands
either : (p : Bool) → (p || true) ≡ true
either true = refl
either false = refl

empty-bad : vertical_bad [] ≡ true
unfolding vertical_bad patterns_bad
empty-bad = refl

not-flat : (B : Board) → eqb (length B.h) 167 ≡ false → flat_tables_bad B ≡ true
unfolding vertical_bad patterns_bad
not-flat B e = rw e

none : (B : Board) → eqb (length B.h) 167 ≡ false → Other B (record { h = replicate 167 0; v = [] })
none B e = record {
  long = length-replicate {A = ℕ} 167 0;
  bad = ap (λ (b : Bool). horizontal_bad (replicate 167 0) || b) empty-bad ∙ either (horizontal_bad (replicate 167 0)) ∙ sym (not-flat B e);
  to = λ f. absurd (omega (arith, f.2));
  from = λ f. absurd (eqb-false (length B.h) 167 e f.0);
}

other : (B : Board) → (C : Board) × Other B C
other B = go (eqb (length B.h) 167) refl
  where
    go : (b : Bool) → eqb (length B.h) 167 ≡ b → (C : Board) × Other B C
    go true e = (B, own B (eqb-true (length B.h) 167 e))
    go false e = (record { h = replicate 167 0; v = [] }, none B e)

-- ---- the check in two: hard decode's, and then the part's
-- 9 for either of two reasons, at the end of what is found
last-two : (xs : List Admission) (a b : Admission) → first_of (xs ++ (or_else a b ∷ [])) ≡ or_else (first_of (xs ++ (a ∷ []))) b
unfolding first_of
last-two [] a b = else-none (or_else a b) ∙ ap (λ (x : Admission). or_else x b) (sym (else-none a))
last-two (x ∷ xs) a b = ap (or_else x) (last-two xs a b) ∙ else-more x (first_of (xs ++ (a ∷ []))) b

module _ (call : HardCall) (part : Part) (m n : ℕ) where
  abbrev limit-bad : Bool
  limit-bad = not (in_range one_f call.error_limit)

  abbrev findings : Bool → Bool → Bool → Findings
  findings short tables rest = joined (room_findings short) (joined (both_lists call) (settings_findings (transforms_bad call.transforms) tables rest))

  found-more : (short tables p q : Bool) → first_found (findings short tables (p || q)) ≡ or_else (first_found (findings short tables p)) (refused_if q 9)
  unfolding first_found or_else room_findings list_findings settings_findings
  found-more short tables p q =
      let f = findings short tables p in
      let xs = f.room ∷ f.lengths ∷ f.size ∷ f.coordinate ∷ f.orientation ∷ f.bit ∷ f.confidence ∷ f.likelihood ∷ f.transform ∷ f.table ∷ [] in
      ap (λ (x : Admission). first_of (xs ++ (x ∷ []))) (either-if p q 9) ∙ last-two xs (refused_if p 9) (refused_if q 9)

  module _ (C : Board) (o : Other call.board C) where
    abbrev on : HardCall
    on = hard_call call.logical call.physical call.transforms C call.error_limit

    -- hard decode's on the other board, and then the part's
    in_two : part_admission call part m n ≡ or_else (hard_admission on m n) (refused_if (part_bad part) 9)
    unfolding part_admission hard_admission
    in_two =
        found-more (room_short 167 m n) (flat_tables_bad call.board) limit-bad (part_bad part)
        ∙ (λ i. or_else (first_found (findings (room_short (sym o.long i) m n) (sym o.bad i) limit-bad)) (refused_if (part_bad part) 9))

    abbrev lent : HardRoom
    lent = record { counts = replicate m 0; weights = replicate n nan }

    lent-checked : hard_checked on lent ≡ hard_admission on m n
    lent-checked = λ i. hard_admission on (length-replicate {A = ℕ} m 0 i) (length-replicate n nan i)

    hard-judged : Judges (hard_early on lent) (hard_admission on m n)
    hard-judged = subst (Judges (hard_early on lent)) lent-checked (record { met = (hard-domain on lent).0; accepted = (hard-domain on lent).1; refused = hard-first on lent })

    -- its conditions are those of a flat board
    words : InOtherWords (hard_early on lent) (early (λ P. P call.logical × P call.physical) 1 call.transforms (λ L. L ≡ 167) call.board ((3006 ≤ m) × (3006 ≤ n)) (Unit {0}) (Unit {0}) (Between 0 1 call.error_limit))
    unfolding early hard_early
    words =
        let pole = pole-of (length C.h) o.long in
        reworded (λ h. (omega (arith, o.long, length-replicate {A = ℕ} m 0, h.0.1 pole), omega (arith, o.long, length-replicate n nan, h.1.1 pole)))
        (λ h. ((omega (arith, length-replicate {A = ℕ} m 0, h.0), λ p. omega (arith, o.long, length-replicate {A = ℕ} m 0, h.0)), (omega (arith, length-replicate n nan, h.1), λ p. omega (arith, o.long, length-replicate n nan, h.1))))
        (reworded (λ h. h) (λ h. h) (reworded (λ h. h) (λ h. h) (reworded (λ h. h) (λ h. h) (reworded (λ h. h) (λ h. h) (reworded (λ h. h) (λ h. h) (reworded (λ h. h) (λ h. h) (reworded (λ h. h) (λ h. h) (reworded (λ h. h) (λ h. h)
        (reworded o.to o.from (word-for-word _))))))))))

    judged-on : Judges (part_early call part m n) (part_admission call part m n)
    unfolding part_early
    judged-on =
        subst (Judges (part_early call part m n)) (sym in_two)
        (judges-reworded _ _ _ (reworded-early (hard_early on lent) _ ((9, PartOk part) ∷ []) words) (judges-more (hard_early on lent) (hard_admission on m n) (refused_if (part_bad part) 9) hard-judged (part-judged part)))

  all-judged : Judges (part_early call part m n) (part_admission call part m n)
  all-judged = judged-on (other call.board).0 (other call.board).1

  -- accepted exactly when all conditions are met
  pub part-domain : (part_admission call part m n ≡ accepted → AllMet (part_early call part m n)) × (AllMet (part_early call part m n) → part_admission call part m n ≡ accepted)
  part-domain = (all-judged.met, all-judged.accepted)

  -- and else refused by the number of the first that is not
  pub part-first : (r : Refusal) → part_admission call part m n ≡ Err r → FirstFails (part_early call part m n) r.number
  part-first = all-judged.refused
