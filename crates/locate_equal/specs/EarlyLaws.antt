-- The early refusals of a hard call that has one list twice, in room that is long enough, are those of the call with this list alone.
use Rattle.std.specs.Prelude.{◌≡◌, Bool, true, false, not, cond, List, [], ◌∷◌, ℕ, ltb, length, Float, Err, Ok}
use Rattle.std.proofs.Math.Path.{refl}
use Rattle.std.proofs.Common.{ap, ap₂, ◌∙◌}
use Rattle.laws.specs.Words.{one_f}
use Rattle.board.specs.Hits.{EdgeList, Board, size}
use Rattle.checks.specs.Checks.{lengths_differ, size_bad, first_bad_coordinate}
use Rattle.ranges.specs.Ranges.{in_range, transforms_bad, first_bad_byte, first_bad_confidence}
use Rattle.refusals.specs.declared.ListName.TheVariants as list
use Rattle.refusals.specs.Admission.{Admission, accepted}
use Rattle.refusals.specs.Numbers as why
use Rattle.findings.specs.Findings.{refused_if, refused_at, or_else, first_of, Findings, in_order, first_found, joined, room_findings, list_findings, settings_findings}
use Rattle.admission.specs.Calls.{hard_call}
use Rattle.admission.specs.Refusals.{tables_bad, room_short, hard_admission}
use Rattle.locate_admission.specs.LocateAdmission.{locate_settings, locate_admission}
use Rattle.locate_equal.specs.Equal.{as_logical}

-- an admission with its place in the logical list
abbrev pub relabelled : Admission → Admission
relabelled (Ok _) = accepted
relabelled (Err r) = Err (as_logical r)

else-relabelled : (a b : Admission) → or_else (relabelled a) (relabelled b) ≡ relabelled (or_else a b)
unfolding or_else
else-relabelled (Ok _) b = refl
else-relabelled (Err r) b = refl

abbrev each : List Admission → List Admission
each [] = []
each (a ∷ xs) = relabelled a ∷ each xs

first-relabelled : (xs : List Admission) → first_of (each xs) ≡ relabelled (first_of xs)
unfolding first_of
first-relabelled [] = refl
first-relabelled (a ∷ xs) = ap (or_else (relabelled a)) (first-relabelled xs) ∙ else-relabelled a (first_of xs)

-- ---- one kind, which is found in the list twice or in neither
-- a refusal without a place
if-relabelled : (b : Bool) (n : ℕ) → refused_if b n ≡ relabelled (refused_if b n)
if-relabelled true n = refl
if-relabelled false n = refl

if-twice : (b : Bool) (n : ℕ) → or_else (refused_if b n) (refused_if b n) ≡ relabelled (refused_if b n)
unfolding or_else
if-twice true n = refl
if-twice false n = refl

-- a refusal at an edge: that of the logical list goes first
at-twice : (n i k : ℕ) → or_else (refused_at n list.Logical i k) (refused_at n list.Physical i k) ≡ relabelled (refused_at n list.Only i k)
unfolding or_else
at-twice n i k = go (ltb i k)
  where
    go : (b : Bool) → or_else (cond b (Err (why.edge_refusal n list.Logical i)) accepted) (cond b (Err (why.edge_refusal n list.Physical i)) accepted) ≡ relabelled (cond b (Err (why.edge_refusal n list.Only i)) accepted)
    go true = refl
    go false = refl

-- of the room a, the two lists x and y, and the settings z
kind : (a x y x' z : Admission) → a ≡ accepted → or_else x y ≡ relabelled x' → z ≡ relabelled z → or_else a (or_else (or_else x y) z) ≡ relabelled (or_else x' z)
unfolding or_else
kind a x y x' z e q k = ap (λ (b : Admission). or_else b (or_else (or_else x y) z)) e ∙ ap₂ or_else q k ∙ else-relabelled x' z

none : or_else accepted accepted ≡ relabelled accepted
unfolding or_else
none = refl

module _ (E : EdgeList) (ts : List ℕ) (B : Board) (limit : Float) (m n : ℕ) (enough : room_short (length B.h) m n ≡ false) where
  open-room : refused_if (room_short (length B.h) m n) why.room_too_short ≡ accepted
  open-room = rw enough

  abbrev only : Findings
  only = list_findings 1 list.Only E

  abbrev settings : Findings
  settings = locate_settings ts B limit

  -- THE EARLY REFUSALS ARE THE SAME
  pub early-same : hard_admission (hard_call E E ts B limit) m n ≡ relabelled (locate_admission E ts B limit)
  unfolding hard_admission locate_admission first_found room_findings list_findings settings_findings
  early-same =
      (λ i. first_of (
      kind (refused_if (room_short (length B.h) m n) why.room_too_short) accepted accepted accepted accepted open-room none refl i
      ∷ kind accepted (refused_if (lengths_differ E) why.lengths_differ) (refused_if (lengths_differ E) why.lengths_differ) (refused_if (lengths_differ E) why.lengths_differ) accepted refl (if-twice (lengths_differ E) why.lengths_differ) refl i
      ∷ kind accepted (refused_if (size_bad 1 (size E)) why.list_size) (refused_if (size_bad 1 (size E)) why.list_size) (refused_if (size_bad 1 (size E)) why.list_size) accepted refl (if-twice (size_bad 1 (size E)) why.list_size) refl i
      ∷ kind accepted _ _ only.coordinate accepted refl (at-twice why.bad_coordinate (first_bad_coordinate E.rows E.cols) (size E)) refl i
      ∷ kind accepted _ _ only.orientation accepted refl (at-twice why.bad_orientation (first_bad_byte 1 E.orientations) (length E.orientations)) refl i
      ∷ kind accepted _ _ only.bit accepted refl (at-twice why.bad_bit (first_bad_byte 1 E.bits) (length E.bits)) refl i
      ∷ kind accepted _ _ only.confidence accepted refl (at-twice why.bad_confidence (first_bad_confidence E.confidences) (length E.confidences)) refl i
      ∷ kind accepted accepted accepted accepted accepted refl none refl i
      ∷ kind accepted accepted accepted accepted settings.transform refl none (if-relabelled (transforms_bad ts) why.bad_transform) i
      ∷ kind accepted accepted accepted accepted settings.table refl none (if-relabelled (tables_bad B) why.bad_table) i
      ∷ kind accepted accepted accepted accepted settings.setting refl none (if-relabelled (not (in_range one_f limit)) why.bad_setting) i
      ∷ []))
      ∙ first-relabelled (in_order (joined only settings))
