-- What an accepted call is: the named facts that the decoders may use of a call that passed all checks.
use Rattle.std.specs.Prelude.{◌≡◌, refl, Bool, true, false, not, ◌||◌, List, ℕ, ◌*◌, ◌%◌, ◌≤◌, ◌<◌, T, ltb, eqb, get_or, length, ℤ, pos, negsuc, nat_abs, Float}
use Rattle.std.proofs.Common.{sym, ap, ◌∙◌, true≢false, le_trans, le_of_eq, arith, eqb-true, ltb-true, ltb-false}
use Rattle.std.specs.Float.{nan}
use Rattle.std.specs.Float.Ieee.{le}
use Rattle.std.proofs.lemmas.Bool.{eqb-false, not-true, not-false}
use Rattle.laws.specs.Tests.{or-false, and-true}
use Rattle.laws.specs.First.{first-none}
use Rattle.laws.specs.Words.{zero_f, one_f, Weight}
use Rattle.laws.specs.WeightLaws.{confidence}
use Rattle.board.specs.Hits.{EdgeList, Board, size}
use Rattle.board.specs.Domain.{ListOk, Patterns, BoardOk}
use Rattle.likelihood.specs.Likelihood.{acceptable}
use Rattle.refusals.specs.declared.ListName.{ListName}
use Rattle.refusals.specs.declared.ListName.TheVariants as list
use Rattle.refusals.specs.Numbers as why
use Rattle.room.specs.Room.{tables_for, sums_for, tables_room, sums_room, pole-rooms}
use Rattle.checks.specs.Checks.{far, far_at, bad_coordinate, bad_likelihood, first_bad_coordinate, first_bad_likelihood, lengths_differ, size_bad, likelihoods_differ, origin_bad}
use Rattle.ranges.specs.Ranges.{bad_byte, in_range, margin_top, bad_confidence, first_bad_byte, first_bad_confidence, transforms_bad, pole_length, patterns_bad, horizontal_bad, vertical_bad}
use Rattle.findings.specs.Findings.{joined, room_findings, list_findings, likelihood_findings, settings_findings}
use Rattle.findings.specs.FindingsLaws.{Clean, clean_of, clean-parts, clean-joined, if-accepted, at-accepted}
use Rattle.admission.specs.Calls.{HardCall, SoftCall}
use Rattle.admission.specs.Refusals.{asked_length, tables_bad, room_short, soft_room_short, both_lists, soft_likelihoods, soft_settings_bad, hard_admission, soft_admission, stats_admission}
use Rattle.refusals.specs.Admission.{accepted}

-- ---- lists without a bad place
none-bad : (p : ℕ → Bool) (n k : ℕ) → ltb k n ≡ false → k ≡ Rattle.laws.specs.Words.first p n → (i : ℕ) → i < n → p i ≡ false
none-bad p n k h e = first-none p n (omega (arith, ltb-false k n h))

pub bytes_ok : (top : ℕ) (xs : List ℕ) → ltb (first_bad_byte top xs) (length xs) ≡ false → (i : ℕ) → i < length xs → get_or xs i 0 ≤ top
unfolding first_bad_byte
bytes_ok top xs h i l = ltb-false top (get_or xs i 0) (none-bad (bad_byte top xs) (length xs) _ h refl i l)

near : (z : ℤ) → far z ≡ false → nat_abs z ≤ 1000000
unfolding far
near (pos n) h = ltb-false _ _ h
near (negsuc n) h = let a : n ≤ 999999 = ltb-false _ _ (or-false (ltb 999999 n) _ h).0 in omega arith

is_true : (b : Bool) → b ≡ true → T b
is_true true e = tt
is_true false e = absurd (true≢false (sym e))

pub is-confidence : (x : Float) → in_range one_f x ≡ true → Weight x 1
unfolding in_range
is-confidence x h = let a = and-true (le zero_f x) (le x one_f) h in confidence x (is_true (le zero_f x) a.0) (is_true (le x one_f) a.1)

-- ---- one list
-- none of its tests holds
pub record ListTests (least : ℕ) (E : EdgeList) : Type 0 where
  pub lengths : lengths_differ E ≡ false
  pub sizes : size_bad least (size E) ≡ false
  pub coordinates : ltb (first_bad_coordinate E.rows E.cols) (size E) ≡ false
  pub orientations : ltb (first_bad_byte 1 E.orientations) (length E.orientations) ≡ false
  pub bits : ltb (first_bad_byte 1 E.bits) (length E.bits) ≡ false
  pub confidences : ltb (first_bad_confidence E.confidences) (length E.confidences) ≡ false

-- nothing is found in it exactly then
pub list-tests : (least : ℕ) (l : ListName) (E : EdgeList) → Clean (list_findings least l E) → ListTests least E
unfolding list_findings
list-tests least l E k = record {
  lengths = if-accepted (lengths_differ E) why.lengths_differ k.lengths;
  sizes = if-accepted (size_bad least (size E)) why.list_size k.size;
  coordinates = at-accepted why.bad_coordinate l (first_bad_coordinate E.rows E.cols) (size E) k.coordinate;
  orientations = at-accepted why.bad_orientation l (first_bad_byte 1 E.orientations) (length E.orientations) k.orientation;
  bits = at-accepted why.bad_bit l (first_bad_byte 1 E.bits) (length E.bits) k.bit;
  confidences = at-accepted why.bad_confidence l (first_bad_confidence E.confidences) (length E.confidences) k.confidence;
}

pub list-clean : (least : ℕ) (l : ListName) (E : EdgeList) → ListTests least E → Clean (list_findings least l E)
unfolding list_findings
list-clean least l E t = record {
  room = refl;
  lengths = rw t.lengths;
  size = rw t.sizes;
  coordinate = rw t.coordinates;
  orientation = rw t.orientations;
  bit = rw t.bits;
  confidence = rw t.confidences;
  likelihood = refl;
  transform = refl;
  table = refl;
  setting = refl;
}

pub list-ok : (least : ℕ) (E : EdgeList) → ListTests least E → ListOk E
unfolding lengths_differ size_bad first_bad_coordinate first_bad_confidence
list-ok least E t =
    let n = size E in
    let e1 = and-true (eqb n (length E.cols)) _ (not-false _ t.lengths) in
    let e2 = and-true (eqb n (length E.orientations)) _ e1.1 in
    let e3 = and-true (eqb n (length E.bits)) _ e2.1 in
    let bits : length E.bits ≡ n = sym (eqb-true _ _ e3.0) in
    let confidences : length E.confidences ≡ n = sym (eqb-true _ _ e3.1) in
    let coordinate : (i : ℕ) → i < n → (far_at E.rows i ≡ false) × (far_at E.cols i ≡ false) =
    λ i l. or-false (far_at E.rows i) (far_at E.cols i) (none-bad (bad_coordinate E.rows E.cols) n _ t.coordinates refl i l) in
    record {
      few = ltb-false _ _ (or-false (ltb n least) _ t.sizes).1;
      cols = sym (eqb-true _ _ e1.0);
      orientations = sym (eqb-true _ _ e2.0);
      bits = bits;
      confidences = confidences;
      near-row = λ i l. near (get_or E.rows i (pos 0)) (coordinate i l).0;
      near-col = λ i l. near (get_or E.cols i (pos 0)) (coordinate i l).1;
      bit = λ i l. let m : i < length E.bits = omega arith in let b = bytes_ok 1 E.bits t.bits i m in omega arith;
      confidence = λ i l.
          let m : i < length E.confidences = omega arith in
          is-confidence (get_or E.confidences i nan) (not-false _ (none-bad (bad_confidence E.confidences) (length E.confidences) _ t.confidences refl i m));
    }

-- it has as many edges as it must
pub size_ok : (least n : ℕ) → size_bad least n ≡ false → least ≤ n
unfolding size_bad
size_ok least n h = ltb-false n least (or-false (ltb n least) (ltb 8192 n) h).0

-- ---- transforms: 1 to 8 numbers, each below 8
pub record TransformsOk (ts : List ℕ) : Type 0 where
  pub some : 0 < length ts
  pub few : length ts ≤ 8
  pub small : (i : ℕ) → i < length ts → get_or ts i 0 < 8

pub transforms-ok : (ts : List ℕ) → transforms_bad ts ≡ false → TransformsOk ts
unfolding transforms_bad
transforms-ok ts h =
    let a = or-false (eqb (length ts) 0) _ h in
    let b = or-false (ltb 8 (length ts)) _ a.1 in
    record {
      some = let z : length ts ≡ 0 → ⊥ = eqb-false _ _ a.0 in omega arith;
      few = ltb-false _ _ b.0;
      small = λ i l. let m = bytes_ok 7 ts b.1 i l in omega arith;
    }

-- ---- tables: patterns below 8, as many as may be
pub of-pole-length : (L : ℕ) → pole_length L ≡ true → (4 ≤ L) × (L ≤ 500) × (L % 3 ≡ 0 → ⊥)
unfolding pole_length
of-pole-length L h =
    let a = and-true (not (ltb L 4 || ltb 500 L)) _ h in
    let b = or-false (ltb L 4) (ltb 500 L) (not-true _ a.0) in
    (ltb-false _ _ b.0, ltb-false _ _ b.1, eqb-false _ _ (not-true _ a.1))

-- of either table: its length is one that it may have, and no byte is above 7
table-ok : (may-be : Bool) (ps : List ℕ) → patterns_bad may-be ps ≡ false → (may-be ≡ true) × ((i : ℕ) → i < length ps → get_or ps i 0 < 8)
unfolding patterns_bad
table-ok may-be ps h = let a = or-false (not may-be) _ h in (not-false _ a.0, λ i l. let m = bytes_ok 7 ps a.1 i l in omega arith)

patterns-ok : (ps : List ℕ) → (4 ≤ length ps) × (length ps ≤ 500) × (length ps % 3 ≡ 0 → ⊥) → ((i : ℕ) → i < length ps → get_or ps i 0 < 8) → Patterns ps
patterns-ok ps l b = record { some = omega (arith, l.0); few = l.1; free = l.2; small = b }

-- the length of a horizontal table is one of a pole's, and that of a vertical one 167
pub horizontal-length : (B : Board) → tables_bad B ≡ false → pole_length (length B.h) ≡ true
unfolding horizontal_bad
horizontal-length B h = (table-ok _ B.h (or-false (horizontal_bad B.h) (vertical_bad B.v) h).0).0

pub vertical-length : (B : Board) → tables_bad B ≡ false → length B.v ≡ 167
unfolding vertical_bad
vertical-length B h = eqb-true _ _ (table-ok _ B.v (or-false (horizontal_bad B.h) (vertical_bad B.v) h).1).0

pub board-ok : (B : Board) → tables_bad B ≡ false → BoardOk B
unfolding horizontal_bad vertical_bad
board-ok B h =
    let a = or-false (horizontal_bad B.h) (vertical_bad B.v) h in
    let e = vertical-length B h in
    record {
      h = patterns-ok B.h (of-pole-length (length B.h) (horizontal-length B h)) (table-ok _ B.h a.0).1;
      v = patterns-ok B.v (omega arith, omega arith, λ z. omega (arith, ap (λ (n : ℕ). n % 3) e)) (table-ok _ B.v a.1).1;
    }

-- room is asked for by the horizontal table's own length
pub asked-own : (L : ℕ) → pole_length L ≡ true → asked_length L ≡ L
unfolding asked_length
asked-own L h = rw h refl

-- match statistics
pub record StatsAccepted (E : EdgeList) (t row col : ℕ) (B : Board) : Type 0 where
  pub list : ListOk E
  pub transform : t < 8
  pub board : BoardOk B
  pub origin : (row < 3 * length B.h) × (col ≤ 500)

-- none of its tests holds
pub record StatsTests (E : EdgeList) (t row col : ℕ) (B : Board) : Type 0 where
  pub list : ListTests 0 E
  pub transform : ltb 7 t ≡ false
  pub tables : tables_bad B ≡ false
  pub origin : origin_bad (length B.h) row col ≡ false

pub stats-tests-of : (E : EdgeList) (t row col : ℕ) (B : Board) → stats_admission E t row col B ≡ accepted → StatsTests E t row col B
unfolding stats_admission settings_findings
stats-tests-of E t row col B h =
    let k = clean-parts (list_findings 0 list.Only E) (settings_findings (ltb 7 t) (tables_bad B) (origin_bad (length B.h) row col)) (clean_of _ h) in
    record {
      list = list-tests 0 list.Only E k.0;
      transform = if-accepted (ltb 7 t) why.bad_transform k.1.transform;
      tables = if-accepted (tables_bad B) why.bad_table k.1.table;
      origin = if-accepted (origin_bad (length B.h) row col) why.bad_setting k.1.setting;
    }

pub stats-accepted : (E : EdgeList) (t row col : ℕ) (B : Board) → stats_admission E t row col B ≡ accepted → StatsAccepted E t row col B
unfolding origin_bad
stats-accepted E t row col B h =
    let k = stats-tests-of E t row col B h in
    let o = or-false (not (ltb row (3 * length B.h))) (ltb 500 col) k.origin in
    record {
      list = list-ok 0 E k.list;
      transform = let l = ltb-false 7 t k.transform in omega arith;
      board = board-ok B k.tables;
      origin = (ltb-true _ _ (not-false _ o.0), ltb-false _ _ o.1);
    }

-- a hard call
pub record HardAccepted (call : HardCall) (counts weights : ℕ) : Type 0 where
  pub room : (tables_room call.board ≤ counts) × (tables_room call.board ≤ weights)
  pub logical : ListOk call.logical
  pub some_logical : 0 < size call.logical
  pub physical : ListOk call.physical
  pub some_physical : 0 < size call.physical
  pub transforms : TransformsOk call.transforms
  pub board : BoardOk call.board
  pub vertical : length call.board.v ≡ 167
  pub within_limit : in_range one_f call.error_limit ≡ true

-- none of its tests holds
pub record HardTests (call : HardCall) (m n : ℕ) : Type 0 where
  pub room : room_short (length call.board.h) m n ≡ false
  pub logical : ListTests 1 call.logical
  pub physical : ListTests 1 call.physical
  pub transforms : transforms_bad call.transforms ≡ false
  pub tables : tables_bad call.board ≡ false
  pub limit : not (in_range one_f call.error_limit) ≡ false

-- of both lists
both-tests : (call : HardCall) → Clean (both_lists call) → ListTests 1 call.logical × ListTests 1 call.physical
both-tests call k =
    let b = clean-parts (list_findings 1 list.Logical call.logical) (list_findings 1 list.Physical call.physical) k in
    (list-tests 1 list.Logical call.logical b.0, list-tests 1 list.Physical call.physical b.1)

pub both-clean : (call : HardCall) → ListTests 1 call.logical → ListTests 1 call.physical → Clean (both_lists call)
both-clean call l p =
    clean-joined (list_findings 1 list.Logical call.logical) (list_findings 1 list.Physical call.physical) (list-clean 1 list.Logical call.logical l) (list-clean 1 list.Physical call.physical p)

pub hard-tests-of : (call : HardCall) (m n : ℕ) → hard_admission call m n ≡ accepted → HardTests call m n
unfolding hard_admission room_findings settings_findings
hard-tests-of call m n h =
    let s = settings_findings (transforms_bad call.transforms) (tables_bad call.board) (not (in_range one_f call.error_limit)) in
    let a = clean-parts (room_findings (room_short (length call.board.h) m n)) (joined (both_lists call) s) (clean_of _ h) in
    let b = clean-parts (both_lists call) s a.1 in
    let lists = both-tests call b.0 in
    record {
      room = if-accepted (room_short (length call.board.h) m n) why.room_too_short a.0.room;
      logical = lists.0;
      physical = lists.1;
      transforms = if-accepted (transforms_bad call.transforms) why.bad_transform b.1.transform;
      tables = if-accepted (tables_bad call.board) why.bad_table b.1.table;
      limit = if-accepted (not (in_range one_f call.error_limit)) why.bad_setting b.1.setting;
    }

hard-passed : (call : HardCall) (m n : ℕ) → HardTests call m n → HardAccepted call m n
unfolding room_short
hard-passed call m n k =
    let L = length call.board.h in
    let r = or-false (ltb m (tables_for (asked_length L))) (ltb n (tables_for (asked_length L))) k.room in
    let vertical = vertical-length call.board k.tables in
    let u : tables_room call.board ≡ tables_for (asked_length L) = (pole-rooms call.board vertical).0 ∙ ap tables_for (sym (asked-own L (horizontal-length call.board k.tables))) in
    record {
      room = (le_trans (le_of_eq u) (ltb-false _ _ r.0), le_trans (le_of_eq u) (ltb-false _ _ r.1));
      logical = list-ok 1 call.logical k.logical;
      some_logical = size_ok 1 (size call.logical) k.logical.sizes;
      physical = list-ok 1 call.physical k.physical;
      some_physical = size_ok 1 (size call.physical) k.physical.sizes;
      transforms = transforms-ok call.transforms k.transforms;
      board = board-ok call.board k.tables;
      vertical = vertical;
      within_limit = not-false _ k.limit;
    }

pub hard-accepted : (call : HardCall) (m n : ℕ) → hard_admission call m n ≡ accepted → HardAccepted call m n
hard-accepted call m n h = hard-passed call m n (hard-tests-of call m n h)

-- a soft call: its hard part, and besides each edge of the physical list has two acceptable likelihoods, and there is room for the sums
pub record SoftAccepted (call : SoftCall) (counts weights sums : ℕ) : Type 0 where
  pub hard : HardAccepted call.hard counts weights
  pub room : sums_room call.hard.board ≤ sums
  pub matches : length call.likelihoods.matches ≡ size call.hard.physical
  pub mismatches : length call.likelihoods.mismatches ≡ size call.hard.physical
  pub likely : (i : ℕ) → i < size call.hard.physical → (acceptable (get_or call.likelihoods.matches i nan) ≡ true) × (acceptable (get_or call.likelihoods.mismatches i nan) ≡ true)
  pub within_margin : in_range margin_top call.soft-margin ≡ true

-- none of its tests holds
pub record SoftTests (call : SoftCall) (m n k : ℕ) : Type 0 where
  pub hard : HardTests call.hard m n
  pub sums-room : ltb k (sums_for (asked_length (length call.hard.board.h))) ≡ false
  pub lengths : likelihoods_differ (size call.hard.physical) call.likelihoods.matches call.likelihoods.mismatches ≡ false
  pub likelihoods : ltb (first_bad_likelihood call.likelihoods.matches call.likelihoods.mismatches) (length call.likelihoods.matches) ≡ false
  pub margin : not (in_range margin_top call.soft-margin) ≡ false

pub soft-tests-of : (call : SoftCall) (m n k : ℕ) → soft_admission call m n k ≡ accepted → SoftTests call m n k
unfolding soft_admission soft_room_short room_findings likelihood_findings settings_findings
soft-tests-of call m n k h =
    let s = settings_findings (transforms_bad call.hard.transforms) (tables_bad call.hard.board) (soft_settings_bad call) in
    let a = clean-parts (room_findings (soft_room_short (length call.hard.board.h) m n k)) (joined (joined (both_lists call.hard) (soft_likelihoods call)) s) (clean_of _ h) in
    let b = clean-parts (joined (both_lists call.hard) (soft_likelihoods call)) s a.1 in
    let c = clean-parts (both_lists call.hard) (soft_likelihoods call) b.0 in
    let lists = both-tests call.hard c.0 in
    let L = length call.hard.board.h in
    let r = or-false (room_short L m n) (ltb k (sums_for (asked_length L))) (if-accepted (soft_room_short (length call.hard.board.h) m n k) why.room_too_short a.0.room) in
    let g = or-false (not (in_range one_f call.hard.error_limit)) (not (in_range margin_top call.soft-margin)) (if-accepted (soft_settings_bad call) why.bad_setting b.1.setting) in
    record {
      hard = record {
        room = r.0;
        logical = lists.0;
        physical = lists.1;
        transforms = if-accepted (transforms_bad call.hard.transforms) why.bad_transform b.1.transform;
        tables = if-accepted (tables_bad call.hard.board) why.bad_table b.1.table;
        limit = g.0;
      };
      sums-room = r.1;
      lengths = if-accepted (likelihoods_differ (size call.hard.physical) call.likelihoods.matches call.likelihoods.mismatches) why.lengths_differ c.1.lengths;
      likelihoods = at-accepted why.bad_likelihood list.Physical (first_bad_likelihood call.likelihoods.matches call.likelihoods.mismatches) (length call.likelihoods.matches) c.1.likelihood;
      margin = g.1;
    }

pub soft-accepted : (call : SoftCall) (m n k : ℕ) → soft_admission call m n k ≡ accepted → SoftAccepted call m n k
unfolding likelihoods_differ first_bad_likelihood
soft-accepted call m n k h =
    let ms = call.likelihoods.matches in
    let us = call.likelihoods.mismatches in
    let edges = size call.hard.physical in
    let L = length call.hard.board.h in
    let t = soft-tests-of call m n k h in
    let hard = hard-passed call.hard m n t.hard in
    let q = and-true (eqb edges (length ms)) (eqb edges (length us)) (not-false _ t.lengths) in
    let matches : length ms ≡ edges = sym (eqb-true _ _ q.0) in
    record {
      hard = hard;
      room = le_trans (le_of_eq ((pole-rooms call.hard.board hard.vertical).1 ∙ ap sums_for (sym (asked-own L (horizontal-length call.hard.board t.hard.tables))))) (ltb-false _ _ t.sums-room);
      matches = matches;
      mismatches = sym (eqb-true _ _ q.1);
      likely = λ i l.
          let x : i < length ms = omega (arith, matches, l) in
          let b = or-false (not (acceptable (get_or ms i nan))) (not (acceptable (get_or us i nan))) (none-bad (bad_likelihood ms us) (length ms) _ t.likelihoods refl i x) in
          (not-false _ b.0, not-false _ b.1);
      within_margin = not-false _ t.margin;
    }
