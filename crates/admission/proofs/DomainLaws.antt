-- WHAT IS ASKED IS WHAT IS CHECKED: no early refusal exactly when the call meets all conditions of Domain.antt, and else the number of the first that it does not meet.
use Rattle.std.specs.Prelude.{◌≡◌, refl, Bool, true, false, not, ◌&&◌, ◌||◌, cond, List, [], ◌∷◌, ℕ, zero, suc, ◌+◌, ◌*◌, ◌%◌, ◌^◌, ◌≤◌, ◌<◌, ltb, eqb, get_or, ℤ, pos, negsuc, nat_abs, Float, Err}
use Rattle.std.proofs.Common.{sym, ap, ◌∙◌, true≢false, ⊎_elim, le_refl, le_trans, zero-lt-suc, zero-mul, one-mul, mul-one, mul-pos, pow_pos, eqb-true, ltb-true, ltb-false, lt-ltb, le-ltb, eq-eqb, ne_eqb}
use native.Mathlib.Omega.{arith}
use Rattle.std.proofs.Math.ListN.{length}
use Rattle.std.specs.Float.Ieee.Fits.{up_pos, down_pos}
use Rattle.std.specs.Float.{nan, inf, fin}
use Rattle.std.specs.Float.Ieee.{up, down, le, lt, eq}
use Rattle.std.proofs.lemmas.Bool.{eqb-false, not-false}
use Rattle.laws.specs.Tests.{or-true, or-false, and-true, compared}
use Rattle.laws.specs.Words.{first, zero_f, Weight}
use Rattle.laws.specs.First.{first-least, first-none}
use Rattle.board.specs.Hits.{EdgeList, Board, size}
use Rattle.likelihood.specs.Likelihood.{acceptable}
use Rattle.likelihood.specs.LikelihoodLaws.{Within, acceptable-within, within-acceptable}
use Rattle.refusals.specs.declared.Refusal.{Refusal}
use Rattle.refusals.specs.Admission.{Admission, accepted}
use Rattle.refusals.specs.declared.ListName.{ListName}
use Rattle.refusals.specs.declared.ListName.TheVariants as list
use Rattle.room.specs.Room.{tables_for, sums_for}
use Rattle.checks.specs.Checks.{far, bad_coordinate, bad_likelihood, first_bad_coordinate, first_bad_likelihood, lengths_differ, size_bad, likelihoods_differ, origin_bad}
use Rattle.ranges.specs.Ranges.{bad_byte, in_range, bad_confidence, first_bad_byte, first_bad_confidence, transforms_bad, pole_length, patterns_bad, horizontal_bad, vertical_bad}
use Rattle.findings.specs.Findings.{refused_if, refused_at, or_else, first_of, first_found, room_findings, list_findings, likelihood_findings, settings_findings}
use Rattle.admission.specs.Calls.{HardCall, SoftCall, HardRoom, SoftRoom}
use Rattle.admission.specs.Refusals.{asked_length, tables_bad, room_short, soft_room_short, hard_admission, soft_admission, stats_admission, hard_checked, soft_checked}
use Rattle.admission.specs.Conditions.{AllMet, FirstFails}
use Rattle.admission.specs.ConditionLaws.{Tests, Judged, judged-if, judged-at, judged-none, judged-both, judged-alone, judged-same, Judges, judges-none, judges-row}
use Rattle.admission.specs.Domain.{AtMost, Between, PoleLength, Lent, early, hard_early, soft_early, stats_early}

-- ---- tests and facts
-- two tests, of which neither is to hold
or-tested : {p q : Bool} {P Q : Type 0} → Tests p P → Tests q Q → Tests (p || q) (P × Q)
or-tested {p} {q} s t = ((λ e. let o = or-false p q e in (s.0 o.0, t.0 o.1)), λ h. none p q (s.1 h.0) (t.1 h.1))
  where
    none : (p q : Bool) → p ≡ false → q ≡ false → (p || q) ≡ false
    none p q a b = rw (a, b)

-- two tests that are both to hold
and-tested : (p q : Bool) {P Q : Type 0} → Tests (not p) P → Tests (not q) Q → Tests (not (p && q)) (P × Q)
and-tested p q s t = ((λ e. let o = and-true p q (not-false _ e) in (s.0 (ap not o.0), t.0 (ap not o.1))), λ h. both p q (s.1 h.0) (t.1 h.1))
  where
    both : (p q : Bool) → not p ≡ false → not q ≡ false → not (p && q) ≡ false
    both p q a b = rw (not-false p a, not-false q b)

at-most-tested : (most n : ℕ) → Tests (ltb most n) (n ≤ most)
at-most-tested most n = ((λ e. ltb-false most n e), λ h. le-ltb most n h)

below-tested : (bound n : ℕ) → Tests (not (ltb n bound)) (n < bound)
below-tested bound n = ((λ e. ltb-true n bound (not-false _ e)), λ h. ap not (lt-ltb n bound h))

at-least-tested : (least n : ℕ) → Tests (ltb n least) (least ≤ n)
at-least-tested least n = ((λ e. ltb-false n least e), λ h. le-ltb n least h)

same-tested : (a b : ℕ) → Tests (not (eqb a b)) (b ≡ a)
same-tested a b = ((λ e. sym (eqb-true a b (not-false _ e))), λ h. ap not (eq-eqb a b (sym h)))

-- a test that is to hold
so-tested : (p : Bool) → Tests (not p) (p ≡ true)
so-tested p = ((λ e. not-false p e), λ h. ap not h)

-- no place of n is bad
first-tested : (bad : ℕ → Bool) (n : ℕ) (Good : ℕ → Type 0) → ((i : ℕ) → Tests (bad i) (Good i)) → Tests (ltb (first bad n) n) ((i : ℕ) → i < n → Good i)
first-tested bad n Good t = ((λ e i l. (t i).0 (first-none bad n (ltb-false (first bad n) n e) i l)), λ h. none (λ i l. (t i).1 (h i l)))
  where
    none : ((i : ℕ) → i < n → bad i ≡ false) → ltb (first bad n) n ≡ false
    none h = let e : first bad n ≡ n = first-least bad n n (le_refl n) h (λ l. absurd (omega arith)) in le-ltb (first bad n) n (omega arith)

-- ---- a float between two others by comparing, and by its value
abbrev Compared : Float → Float → Float → Type 0
Compared least most x = (le least x ≡ true) × (le x most ≡ true)

le_of : (a b : ℕ) (t : Bool) → (ltb a b || (eqb a b && t)) ≡ true → a ≤ b
le_of a b t h = ⊎_elim (λ e. let l = ltb-true a b e in omega arith) (λ e. let q = eqb-true a b (and-true (eqb a b) t e).0 in omega arith) (or-true (ltb a b) _ h)

of_le : (a b : ℕ) → a ≤ b → (ltb a b || (eqb a b && true)) ≡ true
of_le a b h = ⊎_elim (λ l. rw (lt-ltb a b l)) (λ l. let e : a ≡ b = omega arith in rw (le-ltb a b l, eq-eqb a b e)) (compared a b)

none_left : (m u : ℕ) → 0 < u → m * u ≡ 0 → m ≡ 0
none_left zero u h k = refl
none_left (suc m) u h k = let p = mul-pos (zero-lt-suc m) h in absurd (omega arith)

between-value : (k : ℕ) (x : Float) → Compared zero_f (fin false 1 (pos k)) x → Weight x (2 ^ k)
unfolding le lt eq
between-value k nan h = absurd (true≢false (sym h.0))
between-value k (inf true) h = absurd (true≢false (sym h.0))
between-value k (inf false) h = absurd (true≢false (sym h.1))
between-value k (fin true m e) h =
    let q = (and-true (eqb (0 * down e) (m * up e * 1)) _ h.0).0 in
    let z : 0 ≡ m * up e = sym (zero-mul (down e)) ∙ eqb-true _ _ q ∙ mul-one (m * up e) in
    none_left m (up e) (up_pos e) (sym z)
between-value k (fin false m e) h = rw (mul-one, one-mul) at (le_of (m * up e * 1) (1 * 2 ^ k * down e) true h.1)

value-between : (k : ℕ) (x : Float) → Weight x (2 ^ k) → Compared zero_f (fin false 1 (pos k)) x
unfolding le lt eq
value-between k nan h = elim h [ ]
value-between k (inf _) h = elim h [ ]
value-between k (fin true m e) h =
    let z : 0 * down e ≡ m * up e * 1 = rw (h, zero-mul, zero-mul, zero-mul) in
    let p : 0 < m * up e * 1 + 1 * 2 ^ k * down e = let q = mul-pos (mul-pos (zero-lt-suc 0) (pow_pos k)) (down_pos e) in omega arith in
    (and_both _ _ (eq-eqb _ _ z) (eq-eqb _ _ (zero-mul (down e))), or_left (ltb 0 (m * up e * 1 + 1 * 2 ^ k * down e)) _ (lt-ltb _ _ p))
  where
    and_both : (p q : Bool) → p ≡ true → q ≡ true → (p && q) ≡ true
    and_both p q a b = rw (a, b)

    or_left : (p q : Bool) → p ≡ true → (p || q) ≡ true
    or_left p q a = rw a
value-between k (fin false m e) h = (of_le (0 * down e) (m * up e * 1) (rw zero-mul (omega arith)), of_le (m * up e * 1) (1 * 2 ^ k * down e) (rw (mul-one, one-mul) h))

-- a weight is between 0 and its bound
weight-between : (a : ℕ) (x : Float) → Weight x a → Between 0 a x
weight-between a nan h = elim h [ ]
weight-between a (inf _) h = elim h [ ]
weight-between a (fin true m e) h = rw (h, zero-mul, zero-mul) (le_refl 0)
weight-between a (fin false m e) h = h

between-weight : (a : ℕ) (x : Float) → Between 0 a x → Weight x a
between-weight a nan h = elim h [ ]
between-weight a (inf _) h = elim h [ ]
between-weight a (fin true m e) h = none_left m (up e) (up_pos e) (let z : m * up e ≤ 0 = rw zero-mul at h in omega arith)
between-weight a (fin false m e) h = h

within-between : (x : Float) → Within x → Between 65536 65536 x
within-between nan h = elim h [ ]
within-between (inf _) h = elim h [ ]
within-between (fin true m e) h = h
within-between (fin false m e) h = h

between-within : (x : Float) → Between 65536 65536 x → Within x
between-within nan h = elim h [ ]
between-within (inf _) h = elim h [ ]
between-within (fin true m e) h = h
between-within (fin false m e) h = h

between-tested : (k : ℕ) (x : Float) → Tests (not (in_range (fin false 1 (pos k)) x)) (Between 0 (2 ^ k) x)
unfolding in_range
between-tested k x =
    let top = fin false 1 (pos k) in
    let t : Tests (not (le zero_f x && le x top)) (Compared zero_f top x) = and-tested (le zero_f x) (le x top) (so-tested (le zero_f x)) (so-tested (le x top)) in
    ((λ e. weight-between (2 ^ k) x (between-value k x (t.0 e))), λ h. t.1 (value-between k x (between-weight (2 ^ k) x h)))

likely-tested : (x : Float) → Tests (not (acceptable x)) (Between 65536 65536 x)
likely-tested x = ((λ e. within-between x (acceptable-within x (not-false _ e))), λ h. ap not (within-acceptable x (between-within x h)))

-- ---- one list
far-tested : (z : ℤ) → Tests (far z) (nat_abs z ≤ 1000000)
unfolding far
far-tested (pos n) = at-most-tested 1000000 n
far-tested (negsuc n) = (
  (λ e. let a : n ≤ 999999 = ltb-false _ _ (or-false (ltb 999999 n) _ e).0 in omega arith),
  λ h. none (ltb 999999 n) (le-ltb 999999 n (omega arith)),
)
  where
    none : (p : Bool) → p ≡ false → (p || false) ≡ false
    none p a = rw a

bytes-tested : (most : ℕ) (xs : List ℕ) → Tests (ltb (first_bad_byte most xs) (length xs)) (AtMost most xs)
unfolding first_bad_byte
bytes-tested most xs = first-tested (bad_byte most xs) (length xs) (λ i. get_or xs i 0 ≤ most) (λ i. at-most-tested most (get_or xs i 0))

module _ (E : EdgeList) where
  lengths-tested : Tests (lengths_differ E) ((length E.cols ≡ size E) × (length E.orientations ≡ size E) × (length E.bits ≡ size E) × (length E.confidences ≡ size E))
  unfolding lengths_differ
  lengths-tested =
      let n = size E in
      let t = and-tested (eqb n (length E.cols)) _ (same-tested n (length E.cols)) (and-tested (eqb n (length E.orientations)) _ (same-tested n (length E.orientations))
      (and-tested (eqb n (length E.bits)) (eqb n (length E.confidences)) (same-tested n (length E.bits)) (same-tested n (length E.confidences)))) in (
        (λ e. let h = t.0 e in (h.0, h.1.0, h.1.1.0, h.1.1.1)),
        λ h. t.1 (h.0, (h.1, (h.2, h.3))),
      )

  sizes-tested : (least : ℕ) → Tests (size_bad least (size E)) ((least ≤ size E) × (size E ≤ 8192))
  unfolding size_bad
  sizes-tested least = or-tested (at-least-tested least (size E)) (at-most-tested 8192 (size E))

  coordinates-tested : Tests (ltb (first_bad_coordinate E.rows E.cols) (size E)) ((i : ℕ) → i < size E → (nat_abs (get_or E.rows i (pos 0)) ≤ 1000000) × (nat_abs (get_or E.cols i (pos 0)) ≤ 1000000))
  unfolding first_bad_coordinate
  coordinates-tested = first-tested (bad_coordinate E.rows E.cols) (size E) _ (λ i. or-tested (far-tested (get_or E.rows i (pos 0))) (far-tested (get_or E.cols i (pos 0))))

  confidences-tested : Tests (ltb (first_bad_confidence E.confidences) (length E.confidences)) ((i : ℕ) → i < length E.confidences → Between 0 1 (get_or E.confidences i nan))
  unfolding first_bad_confidence
  confidences-tested = first-tested (bad_confidence E.confidences) (length E.confidences) _ (λ i. between-tested 0 (get_or E.confidences i nan))

-- ---- transforms, tables
transforms-tested : (ts : List ℕ) → Tests (transforms_bad ts) ((1 ≤ length ts) × (length ts ≤ 8) × AtMost 7 ts)
unfolding transforms_bad
transforms-tested ts =
    let some : Tests (eqb (length ts) 0) (1 ≤ length ts) = ((λ e. let z : length ts ≡ 0 → ⊥ = eqb-false _ _ e in omega arith), λ h. ne_eqb (length ts) 0 (λ e. omega (arith, h, e))) in
    let t = or-tested some (or-tested (at-most-tested 8 (length ts)) (bytes-tested 7 ts)) in
    ((λ e. let h = t.0 e in (h.0, h.1.0, h.1.1)), λ h. t.1 (h.0, (h.1, h.2)))

-- a length that a horizontal table may have
pole-tested : (L : ℕ) → Tests (not (pole_length L)) (PoleLength L)
unfolding pole_length
pole-tested L =
    let size = or-tested (at-least-tested 4 L) (at-most-tested 500 L) in
    let sizes : Tests (not (not (ltb L 4 || ltb 500 L))) ((4 ≤ L) × (L ≤ 500)) = ((λ e. size.0 (not-not _ ∙ e)), λ h. sym (not-not _) ∙ size.1 h) in
    let free : Tests (not (not (eqb (L % 3) 0))) (L % 3 ≡ 0 → ⊥) = ((λ e. eqb-false (L % 3) 0 (not-not _ ∙ e)), λ h. sym (not-not _) ∙ ne_eqb (L % 3) 0 h) in
    let t = and-tested (not (ltb L 4 || ltb 500 L)) (not (eqb (L % 3) 0)) sizes free in
    ((λ e. let h = t.0 e in (h.0.0, h.0.1, h.1)), λ h. t.1 ((h.0, h.1), h.2))
  where
    not-not : (b : Bool) → b ≡ not (not b)
    not-not true = refl
    not-not false = refl

-- a table of a length that it may have
table-tested : (may-be : Bool) (ps : List ℕ) {fact : Type 0} → Tests (not may-be) fact → Tests (patterns_bad may-be ps) (fact × AtMost 7 ps)
unfolding patterns_bad
table-tested may-be ps t = or-tested t (bytes-tested 7 ps)

tables-tested : (B : Board) → Tests (tables_bad B) (PoleLength (length B.h) × AtMost 7 B.h × (length B.v ≡ 167) × AtMost 7 B.v)
unfolding horizontal_bad vertical_bad
tables-tested B =
    let same : Tests (not (eqb (length B.v) 167)) (length B.v ≡ 167) = ((λ e. eqb-true _ _ (not-false _ e)), λ h. ap not (eq-eqb _ _ h)) in
    let t = or-tested (table-tested _ B.h (pole-tested (length B.h))) (table-tested _ B.v same) in
    ((λ e. let h = t.0 e in (h.0.0, h.0.1, h.1.0, h.1.1)), λ h. t.1 ((h.0, h.1), (h.2, h.3)))

-- room that is lent, where more is asked for with a greater length
lent-tested : (asked : ℕ → ℕ) → ((L : ℕ) → 4 ≤ L → asked 4 ≤ asked L) → (L n : ℕ) → Tests (ltb n (asked (asked_length L))) (Lent asked L n)
unfolding asked_length
lent-tested asked more L n = go (pole_length L) (pole-tested L)
  where
    go : (good : Bool) → Tests (not good) (PoleLength L) → Tests (ltb n (asked (cond good L 4))) (Lent asked L n)
    go true t = let g = t.0 refl in ((λ e. let l = ltb-false _ _ e in (le_trans (more L g.0) l, λ h. l)), λ h. le-ltb _ _ (h.1 g))
    go false t = ((λ e. (ltb-false _ _ e, λ h. absurd (true≢false (t.1 h)))), λ h. le-ltb _ _ h.0)

tables-lent : (L n : ℕ) → Tests (ltb n (tables_for (asked_length L))) (Lent tables_for L n)
tables-lent = lent-tested tables_for (λ L h. omega arith)

sums-lent : (L n : ℕ) → Tests (ltb n (sums_for (asked_length L))) (Lent sums_for L n)
sums-lent = lent-tested sums_for (λ L h. omega arith)

-- ---- what is found of each kind judges its condition: in one list
lengths-judged : (l : ListName) (E : EdgeList) → Judged (refused_if (lengths_differ E) 2) 2 ((length E.cols ≡ size E) × (length E.orientations ≡ size E) × (length E.bits ≡ size E) × (length E.confidences ≡ size E))
lengths-judged l E = judged-if (lengths_differ E) 2 (lengths-tested E)

sizes-judged : (least : ℕ) (l : ListName) (E : EdgeList) → Judged (refused_if (size_bad least (size E)) 3) 3 ((least ≤ size E) × (size E ≤ 8192))
sizes-judged least l E = judged-if (size_bad least (size E)) 3 (sizes-tested E least)

coordinates-judged : (l : ListName) (E : EdgeList)
    → Judged (refused_at 4 l (first_bad_coordinate E.rows E.cols) (size E)) 4 ((i : ℕ) → i < size E → (nat_abs (get_or E.rows i (pos 0)) ≤ 1000000) × (nat_abs (get_or E.cols i (pos 0)) ≤ 1000000))
coordinates-judged l E = judged-at 4 l (first_bad_coordinate E.rows E.cols) (size E) (coordinates-tested E)

orientations-judged : (l : ListName) (E : EdgeList) → Judged (refused_at 16 l (first_bad_byte 1 E.orientations) (length E.orientations)) 16 (AtMost 1 E.orientations)
orientations-judged l E = judged-at 16 l (first_bad_byte 1 E.orientations) (length E.orientations) (bytes-tested 1 E.orientations)

bits-judged : (l : ListName) (E : EdgeList) → Judged (refused_at 17 l (first_bad_byte 1 E.bits) (length E.bits)) 17 (AtMost 1 E.bits)
bits-judged l E = judged-at 17 l (first_bad_byte 1 E.bits) (length E.bits) (bytes-tested 1 E.bits)

confidences-judged : (l : ListName) (E : EdgeList)
    → Judged (refused_at 5 l (first_bad_confidence E.confidences) (length E.confidences)) 5 ((i : ℕ) → i < length E.confidences → Between 0 1 (get_or E.confidences i nan))
confidences-judged l E = judged-at 5 l (first_bad_confidence E.confidences) (length E.confidences) (confidences-tested E)

-- in both lists of a call
both-judged : (call : HardCall) {found : ListName → EdgeList → Admission} {n : ℕ} {Fact : EdgeList → Type 0} → ((l : ListName) (E : EdgeList) → Judged (found l E) n (Fact E))
    → Judged (or_else (found list.Logical call.logical) (found list.Physical call.physical)) n (Fact call.logical × Fact call.physical)
both-judged call j = judged-both _ _ (j list.Logical call.logical) (j list.Physical call.physical)

-- and in what comes last
settings-judged : (ts : List ℕ) (B : Board) (bad : Bool) {fact : Type 0} → Tests bad fact
    → Judges ((7, (1 ≤ length ts) × (length ts ≤ 8) × AtMost 7 ts) ∷ (8, PoleLength (length B.h) × AtMost 7 B.h × (length B.v ≡ 167) × AtMost 7 B.v) ∷ (9, fact) ∷ [])
    (or_else (refused_if (transforms_bad ts) 7) (or_else (refused_if (tables_bad B) 8) (or_else (refused_if bad 9) accepted)))
settings-judged ts B bad t =
    judges-row _ _ (judged-if (transforms_bad ts) 7 (transforms-tested ts)) (λ h.
    judges-row _ _ (judged-if (tables_bad B) 8 (tables-tested B)) (λ h.
    judges-row _ _ (judged-if bad 9 t) (λ h. judges-none)))

-- ---- hard decode
module _ (call : HardCall) (room : HardRoom) where
  hard-judged : Judges (hard_early call room) (hard_checked call room)
  unfolding early hard_early hard_admission first_found first_of or_else room_findings list_findings settings_findings room_short
  hard-judged =
      judges-row _ _ (judged-alone _ (judged-if _ 1 (or-tested (tables-lent (length call.board.h) (length room.counts)) (tables-lent (length call.board.h) (length room.weights))))) (λ h.
      judges-row _ _ (judged-both _ accepted (both-judged call lengths-judged) (judged-none 2)) (λ h.
      judges-row _ _ (judged-alone _ (both-judged call (sizes-judged 1))) (λ h.
      judges-row _ _ (judged-alone _ (both-judged call coordinates-judged)) (λ h.
      judges-row _ _ (judged-alone _ (both-judged call orientations-judged)) (λ h.
      judges-row _ _ (judged-alone _ (both-judged call bits-judged)) (λ h.
      judges-row _ _ (judged-alone _ (both-judged call confidences-judged)) (λ h.
      judges-row accepted _ (judged-none 6) (λ h. settings-judged call.transforms call.board _ (between-tested 0 call.error_limit)))))))))

  -- HARD: accepted exactly when all conditions are met
  pub hard-domain : (hard_checked call room ≡ accepted → AllMet (hard_early call room)) × (AllMet (hard_early call room) → hard_checked call room ≡ accepted)
  hard-domain = (hard-judged.met, hard-judged.accepted)

  -- and else refused by the number of the first that is not
  pub hard-first : (r : Refusal) → hard_checked call room ≡ Err r → FirstFails (hard_early call room) r.number
  hard-first = hard-judged.refused

-- ---- soft decode
module _ (call : SoftCall) (room : SoftRoom) where
  abbrev ms : List Float
  ms = call.likelihoods.matches

  abbrev us : List Float
  us = call.likelihoods.mismatches

  abbrev L : ℕ
  L = length call.hard.board.h

  rooms-judged : Judged (refused_if (soft_room_short L (length room.counts) (length room.weights) (length room.sums)) 1) 1
      (Lent tables_for L (length room.counts) × Lent tables_for L (length room.weights) × Lent sums_for L (length room.sums))
  unfolding soft_room_short room_short
  rooms-judged =
      judged-same (λ h. (h.0.0, h.0.1, h.1)) (λ h. ((h.0, h.1), h.2))
      (judged-if _ 1 (or-tested (or-tested (tables-lent L (length room.counts)) (tables-lent L (length room.weights))) (sums-lent L (length room.sums))))

  -- the likelihoods are as many as the edges, and so not over 8,192
  sizes-with : (length ms ≡ size call.hard.physical) → Judged (or_else (or_else (refused_if (size_bad 1 (size call.hard.logical)) 3) (refused_if (size_bad 1 (size call.hard.physical)) 3)) (refused_if (size_bad 0 (length ms)) 3)) 3
      (((1 ≤ size call.hard.logical) × (size call.hard.logical ≤ 8192)) × ((1 ≤ size call.hard.physical) × (size call.hard.physical ≤ 8192)))
  unfolding size_bad
  sizes-with e = judged-same (λ h. h.0) (λ h. (h, (omega arith, omega (arith, e, h.1.1))))
      (judged-both _ _ (both-judged call.hard (sizes-judged 1)) (judged-if (size_bad 0 (length ms)) 3 (or-tested (at-least-tested 0 (length ms)) (at-most-tested 8192 (length ms)))))

  likelihoods-tested : length ms ≡ size call.hard.physical → Tests (ltb (first_bad_likelihood ms us) (length ms))
      ((i : ℕ) → i < size call.hard.physical → Between 65536 65536 (get_or ms i nan) × Between 65536 65536 (get_or us i nan))
  unfolding first_bad_likelihood
  likelihoods-tested e =
      let t = first-tested (bad_likelihood ms us) (length ms) _ (λ i. or-tested (likely-tested (get_or ms i nan)) (likely-tested (get_or us i nan))) in
      ((λ b i l. t.0 b i (omega (arith, e, l))), λ h. t.1 (λ i l. h i (omega (arith, e, l))))

  soft-judged : Judges (soft_early call room) (soft_checked call room)
  unfolding early soft_early soft_admission first_found first_of or_else room_findings list_findings likelihood_findings settings_findings room_short soft_room_short likelihoods_differ
  soft-judged =
      let edges = size call.hard.physical in
      let columns = judged-if (likelihoods_differ edges ms us) 2 (and-tested (eqb edges (length ms)) (eqb edges (length us)) (same-tested edges (length ms)) (same-tested edges (length us))) in
      judges-row _ _ (judged-alone _ rooms-judged) (λ h.
      judges-row _ _ (judged-alone _ (judged-both _ _ (both-judged call.hard lengths-judged) columns)) (λ same.
      judges-row _ _ (judged-alone _ (sizes-with same.1.0)) (λ h.
      judges-row _ _ (judged-alone _ (judged-alone _ (both-judged call.hard coordinates-judged))) (λ h.
      judges-row _ _ (judged-alone _ (judged-alone _ (both-judged call.hard orientations-judged))) (λ h.
      judges-row _ _ (judged-alone _ (judged-alone _ (both-judged call.hard bits-judged))) (λ h.
      judges-row _ _ (judged-alone _ (judged-alone _ (both-judged call.hard confidences-judged))) (λ h.
      judges-row _ _ (judged-alone _ (judged-at 6 list.Physical (first_bad_likelihood ms us) (length ms) (likelihoods-tested same.1.0))) (λ h.
      settings-judged call.hard.transforms call.hard.board _ (or-tested (between-tested 0 call.hard.error_limit) (between-tested 16 call.soft-margin))))))))))

  -- SOFT: the same
  pub soft-domain : (soft_checked call room ≡ accepted → AllMet (soft_early call room)) × (AllMet (soft_early call room) → soft_checked call room ≡ accepted)
  soft-domain = (soft-judged.met, soft-judged.accepted)

  pub soft-first : (r : Refusal) → soft_checked call room ≡ Err r → FirstFails (soft_early call room) r.number
  soft-first = soft-judged.refused

-- ---- match statistics
module _ (E : EdgeList) (t row col : ℕ) (B : Board) where
  -- one transform number, as a list of one
  one-judged : Judged (refused_if (ltb 7 t) 7) 7 ((1 ≤ length (t ∷ [])) × (length (t ∷ []) ≤ 8) × AtMost 7 (t ∷ []))
  one-judged = judged-same (λ h. (omega arith, omega arith, each h)) (λ h. h.2 0 (omega arith)) (judged-if (ltb 7 t) 7 (at-most-tested 7 t))
    where
      each : t ≤ 7 → AtMost 7 (t ∷ [])
      each h zero l = h
      each h (suc i) l = absurd (omega arith)

  stats-judged : Judges (stats_early E t row col B) (stats_admission E t row col B)
  unfolding early stats_early stats_admission first_found first_of or_else list_findings settings_findings origin_bad
  stats-judged =
      judges-row accepted _ (judged-none 1) (λ h.
      judges-row _ _ (judged-both _ accepted (lengths-judged list.Only E) (judged-none 2)) (λ h.
      judges-row _ _ (judged-alone _ (sizes-judged 0 list.Only E)) (λ h.
      judges-row _ _ (judged-alone _ (coordinates-judged list.Only E)) (λ h.
      judges-row _ _ (judged-alone _ (orientations-judged list.Only E)) (λ h.
      judges-row _ _ (judged-alone _ (bits-judged list.Only E)) (λ h.
      judges-row _ _ (judged-alone _ (confidences-judged list.Only E)) (λ h.
      judges-row accepted _ (judged-none 6) (λ h.
      judges-row _ _ one-judged (λ h.
      judges-row _ _ (judged-if (tables_bad B) 8 (tables-tested B)) (λ h.
      judges-row _ _ (judged-if (origin_bad (length B.h) row col) 9 (or-tested (below-tested (3 * length B.h) row) (at-most-tested 500 col))) (λ h. judges-none)))))))))))

  -- MATCH STATISTICS: the same
  pub stats-domain : (stats_admission E t row col B ≡ accepted → AllMet (stats_early E t row col B)) × (AllMet (stats_early E t row col B) → stats_admission E t row col B ≡ accepted)
  stats-domain = (stats-judged.met, stats-judged.accepted)

  pub stats-first : (r : Refusal) → stats_admission E t row col B ≡ Err r → FirstFails (stats_early E t row col B) r.number
  stats-first = stats-judged.refused
