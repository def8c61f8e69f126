-- Document 01's numbers come out of the finer ones, for each entry point.
use Rattle.std.specs.Prelude.{◌≡◌, refl, Bool, true, false, not, cond, ◌||◌, List, ℕ, ltb, eqb, length, Float, Err, Ok}
use Rattle.std.proofs.Common.{sym, ap, ap₂, ◌∙◌, arith, le-ltb, eqb-true}
use Rattle.std.proofs.lemmas.Bool.{not-false}
use Rattle.laws.specs.Tests.{clash, and-true}
use Rattle.laws.specs.Words.{one_f}
use Rattle.board.specs.Hits.{EdgeList, Board, size}
use Rattle.refusals.specs.Admission.{Admission, accepted}
use Rattle.refusals.specs.declared.ListName.{ListName}
use Rattle.refusals.specs.declared.ListName.TheVariants as list
use Rattle.refusals.specs.Numbers.{numbered, edge_refusal}
use Rattle.refusals.specs.Numbers as why
use Rattle.checks.specs.Checks.{lengths_differ, size_bad, likelihoods_differ, first_bad_coordinate, first_bad_likelihood, origin_bad}
use Rattle.ranges.specs.Ranges.{in_range, first_bad_byte, first_bad_confidence, transforms_bad}
use Rattle.findings.specs.Findings.{refused_if, refused_at, or_else, first_of, Findings, first_found, joined, room_findings, list_findings, likelihood_findings, settings_findings}
use Rattle.admission.specs.Calls.{HardCall, SoftCall}
use Rattle.admission.specs.Refusals.{tables_bad, room_short, soft_room_short, both_lists, soft_likelihoods, soft_settings_bad, hard_admission, soft_admission, stats_admission}
use Rattle.admission.specs.Document01.{number01, admission01, confidences_bad, hard_numbers01, soft_numbers01, stats_numbers01}

-- ---- one kind
else-01 : (a b : Admission) → admission01 (or_else a b) ≡ or_else (admission01 a) (admission01 b)
unfolding or_else
else-01 (Ok _) b = refl
else-01 (Err r) b = refl

if-01 : (b : Bool) (n : ℕ) → admission01 (refused_if b n) ≡ refused_if b (number01 n)
if-01 true n = refl
if-01 false n = refl

at-01 : (n : ℕ) (l : ListName) (i k : ℕ) → admission01 (refused_at n l i k) ≡ refused_if (ltb i k) (number01 n)
at-01 n l i k = go (ltb i k)
  where
    go : (b : Bool) → admission01 (cond b (Err (edge_refusal n l i)) accepted) ≡ refused_if b (number01 n)
    go true = refl
    go false = refl

either-if : (a b : Bool) (n : ℕ) → or_else (refused_if a n) (refused_if b n) ≡ refused_if (a || b) n
unfolding or_else
either-if true b n = refl
either-if false b n = refl

-- in two parts: the number applies where it applies in one of them
two-01 : (a b : Admission) (p q : Bool) (n : ℕ) → admission01 a ≡ refused_if p n → admission01 b ≡ refused_if q n → admission01 (or_else a b) ≡ refused_if (p || q) n
two-01 a b p q n e f = else-01 a b ∙ ap₂ or_else e f ∙ either-if p q n

last-01 : (a : Admission) (p : Bool) (n : ℕ) → admission01 a ≡ refused_if p n → admission01 (or_else a accepted) ≡ refused_if p n
unfolding or_else
last-01 a p n e = else-01 a accepted ∙ ap (λ (x : Admission). or_else x accepted) e ∙ none p
  where
    none : (p : Bool) → or_else (refused_if p n) accepted ≡ refused_if p n
    none true = refl
    none false = refl

-- ---- all kinds
-- the tests of each kind
pub record Tests01 (f : Findings) : Type 0 where
  pub room : Bool
  pub lengths : Bool
  pub size : Bool
  pub coordinate : Bool
  pub orientation : Bool
  pub bit : Bool
  pub confidence : Bool
  pub likelihood : Bool
  pub transform : Bool
  pub table : Bool
  pub setting : Bool
  pub is_room : admission01 f.room ≡ refused_if room 1
  pub is_lengths : admission01 f.lengths ≡ refused_if lengths 2
  pub is_size : admission01 f.size ≡ refused_if size 3
  pub is_coordinate : admission01 f.coordinate ≡ refused_if coordinate 4
  pub is_orientation : admission01 f.orientation ≡ refused_if orientation 4
  pub is_bit : admission01 f.bit ≡ refused_if bit 4
  pub is-confidence : admission01 f.confidence ≡ refused_if confidence 5
  pub is_likelihood : admission01 f.likelihood ≡ refused_if likelihood 6
  pub is_transform : admission01 f.transform ≡ refused_if transform 7
  pub is_table : admission01 f.table ≡ refused_if table 8
  pub is_setting : admission01 f.setting ≡ refused_if setting 9

-- the chain of a table, number by number
abbrev chain01 : Bool → Bool → Bool → Bool → Bool → Bool → Bool → Bool → Bool → Admission
chain01 room lengths sizes fields confidence likelihood transform table setting =
    cond room (Err (numbered 1))
    (cond lengths (Err (numbered 2))
    (cond sizes (Err (numbered 3))
    (cond fields (Err (numbered 4))
    (cond confidence (Err (numbered 5))
    (cond likelihood (Err (numbered 6))
    (cond transform (Err (numbered 7))
    (cond table (Err (numbered 8))
    (cond setting (Err (numbered 9)) accepted))))))))

then-01 : (a x y : Admission) (p : Bool) (n : ℕ) → admission01 a ≡ refused_if p n → admission01 x ≡ y → admission01 (or_else a x) ≡ cond p (Err (numbered n)) y
unfolding or_else
then-01 a x y p n e f = else-01 a x ∙ ap₂ or_else e f ∙ go p
  where
    go : (p : Bool) → or_else (refused_if p n) y ≡ cond p (Err (numbered n)) y
    go true = refl
    go false = refl

-- coordinate, orientation and bit were one number
three : (a b c : Bool) (r x : Admission) → cond a r (cond b r (cond c r x)) ≡ cond (a || (b || c)) r x
three true b c r x = refl
three false true c r x = refl
three false false true r x = refl
three false false false r x = refl

found-01 : (f : Findings) (t : Tests01 f) → admission01 (first_found f) ≡ chain01 t.room t.lengths t.size (t.coordinate || (t.orientation || t.bit)) t.confidence t.likelihood t.transform t.table t.setting
unfolding first_found first_of
found-01 f t =
    let x5 = cond t.confidence (Err (numbered 5)) (cond t.likelihood (Err (numbered 6)) (cond t.transform (Err (numbered 7)) (cond t.table (Err (numbered 8)) (cond t.setting (Err (numbered 9)) accepted)))) in
    then-01 f.room _ _ t.room 1 t.is_room
    (then-01 f.lengths _ _ t.lengths 2 t.is_lengths
    (then-01 f.size _ _ t.size 3 t.is_size
    (then-01 f.coordinate _ _ t.coordinate 4 t.is_coordinate
    (then-01 f.orientation _ _ t.orientation 4 t.is_orientation
    (then-01 f.bit _ _ t.bit 4 t.is_bit
    (then-01 f.confidence _ _ t.confidence 5 t.is-confidence
    (then-01 f.likelihood _ _ t.likelihood 6 t.is_likelihood
    (then-01 f.transform _ _ t.transform 7 t.is_transform
    (then-01 f.table _ _ t.table 8 t.is_table
    (then-01 f.setting _ _ t.setting 9 t.is_setting refl))))))))))
    ∙ ap (λ (x : Admission). cond t.room (Err (numbered 1)) (cond t.lengths (Err (numbered 2)) (cond t.size (Err (numbered 3)) x))) (three t.coordinate t.orientation t.bit (Err (numbered 4)) x5)

-- ---- the parts
tests-joined : (f g : Findings) → Tests01 f → Tests01 g → Tests01 (joined f g)
tests-joined f g s t = record {
  room = s.room || t.room;
  lengths = s.lengths || t.lengths;
  size = s.size || t.size;
  coordinate = s.coordinate || t.coordinate;
  orientation = s.orientation || t.orientation;
  bit = s.bit || t.bit;
  confidence = s.confidence || t.confidence;
  likelihood = s.likelihood || t.likelihood;
  transform = s.transform || t.transform;
  table = s.table || t.table;
  setting = s.setting || t.setting;
  is_room = two-01 f.room g.room s.room t.room 1 s.is_room t.is_room;
  is_lengths = two-01 f.lengths g.lengths s.lengths t.lengths 2 s.is_lengths t.is_lengths;
  is_size = two-01 f.size g.size s.size t.size 3 s.is_size t.is_size;
  is_coordinate = two-01 f.coordinate g.coordinate s.coordinate t.coordinate 4 s.is_coordinate t.is_coordinate;
  is_orientation = two-01 f.orientation g.orientation s.orientation t.orientation 4 s.is_orientation t.is_orientation;
  is_bit = two-01 f.bit g.bit s.bit t.bit 4 s.is_bit t.is_bit;
  is-confidence = two-01 f.confidence g.confidence s.confidence t.confidence 5 s.is-confidence t.is-confidence;
  is_likelihood = two-01 f.likelihood g.likelihood s.likelihood t.likelihood 6 s.is_likelihood t.is_likelihood;
  is_transform = two-01 f.transform g.transform s.transform t.transform 7 s.is_transform t.is_transform;
  is_table = two-01 f.table g.table s.table t.table 8 s.is_table t.is_table;
  is_setting = two-01 f.setting g.setting s.setting t.setting 9 s.is_setting t.is_setting;
}

room-01 : (short : Bool) → Tests01 (room_findings short)
unfolding room_findings
room-01 short = record {
  room = short;
  lengths = false;
  size = false;
  coordinate = false;
  orientation = false;
  bit = false;
  confidence = false;
  likelihood = false;
  transform = false;
  table = false;
  setting = false;
  is_room = if-01 short why.room_too_short;
  is_lengths = refl;
  is_size = refl;
  is_coordinate = refl;
  is_orientation = refl;
  is_bit = refl;
  is-confidence = refl;
  is_likelihood = refl;
  is_transform = refl;
  is_table = refl;
  is_setting = refl;
}

settings-01 : (a b c : Bool) → Tests01 (settings_findings a b c)
unfolding settings_findings
settings-01 a b c = record {
  room = false;
  lengths = false;
  size = false;
  coordinate = false;
  orientation = false;
  bit = false;
  confidence = false;
  likelihood = false;
  transform = a;
  table = b;
  setting = c;
  is_room = refl;
  is_lengths = refl;
  is_size = refl;
  is_coordinate = refl;
  is_orientation = refl;
  is_bit = refl;
  is-confidence = refl;
  is_likelihood = refl;
  is_transform = if-01 a why.bad_transform;
  is_table = if-01 b why.bad_table;
  is_setting = if-01 c why.bad_setting;
}

list-01 : (least : ℕ) (l : ListName) (E : EdgeList) → Tests01 (list_findings least l E)
unfolding list_findings
list-01 least l E = record {
  room = false;
  lengths = lengths_differ E;
  size = size_bad least (size E);
  coordinate = ltb (first_bad_coordinate E.rows E.cols) (size E);
  orientation = ltb (first_bad_byte 1 E.orientations) (length E.orientations);
  bit = ltb (first_bad_byte 1 E.bits) (length E.bits);
  confidence = confidences_bad E;
  likelihood = false;
  transform = false;
  table = false;
  setting = false;
  is_room = refl;
  is_lengths = if-01 (lengths_differ E) why.lengths_differ;
  is_size = if-01 (size_bad least (size E)) why.list_size;
  is_coordinate = at-01 why.bad_coordinate l (first_bad_coordinate E.rows E.cols) (size E);
  is_orientation = at-01 why.bad_orientation l (first_bad_byte 1 E.orientations) (length E.orientations);
  is_bit = at-01 why.bad_bit l (first_bad_byte 1 E.bits) (length E.bits);
  is-confidence = at-01 why.bad_confidence l (first_bad_confidence E.confidences) (length E.confidences);
  is_likelihood = refl;
  is_transform = refl;
  is_table = refl;
  is_setting = refl;
}

likelihoods-01 : (n : ℕ) (ms us : List Float) → Tests01 (likelihood_findings n ms us)
unfolding likelihood_findings
likelihoods-01 n ms us = record {
  room = false;
  lengths = likelihoods_differ n ms us;
  size = size_bad 0 (length ms);
  coordinate = false;
  orientation = false;
  bit = false;
  confidence = false;
  likelihood = ltb (first_bad_likelihood ms us) (length ms);
  transform = false;
  table = false;
  setting = false;
  is_room = refl;
  is_lengths = if-01 (likelihoods_differ n ms us) why.lengths_differ;
  is_size = if-01 (size_bad 0 (length ms)) why.list_size;
  is_coordinate = refl;
  is_orientation = refl;
  is_bit = refl;
  is-confidence = refl;
  is_likelihood = at-01 why.bad_likelihood list.Physical (first_bad_likelihood ms us) (length ms);
  is_transform = refl;
  is_table = refl;
  is_setting = refl;
}

-- ---- tests put together
or_right : (a : Bool) → (a || false) ≡ a
or_right true = refl
or_right false = refl

-- by kinds, or by lists
by-lists : (c o b c' o' b' : Bool) → ((c || c') || ((o || o') || (b || b'))) ≡ ((c || (o || b)) || (c' || (o' || b')))
by-lists true o b c' o' b' = refl
by-lists false true b true o' b' = refl
by-lists false true b false o' b' = refl
by-lists false false true true o' b' = refl
by-lists false false true false true b' = refl
by-lists false false true false false b' = refl
by-lists false false false c' o' b' = refl

-- HARD: document 01's numbers
pub hard-document-01 : (call : HardCall) (m n : ℕ) → admission01 (hard_admission call m n) ≡ hard_numbers01 call m n
unfolding hard_admission hard_numbers01 tests-joined room-01 list-01 settings-01
hard-document-01 call m n =
    let L = call.logical in
    let E = call.physical in
    let s = settings_findings (transforms_bad call.transforms) (tables_bad call.board) (not (in_range one_f call.error_limit)) in
    let f = joined (room_findings (room_short (length call.board.h) m n)) (joined (both_lists call) s) in
    let lists = tests-joined (list_findings 1 list.Logical L) (list_findings 1 list.Physical E) (list-01 1 list.Logical L) (list-01 1 list.Physical E) in
    let t = tests-joined (room_findings (room_short (length call.board.h) m n)) (joined (both_lists call) s) (room-01 (room_short (length call.board.h) m n)) (tests-joined (both_lists call) s lists (settings-01 (transforms_bad call.transforms) (tables_bad call.board) (not (in_range one_f call.error_limit)))) in
    found-01 f t
    ∙ (λ i.
    chain01 (or_right (room_short (length call.board.h) m n) i) (or_right (lengths_differ L || lengths_differ E) i) (or_right (size_bad 1 (size L) || size_bad 1 (size E)) i)
    (or_right lists.coordinate i || (or_right lists.orientation i || or_right lists.bit i))
    (or_right (confidences_bad L || confidences_bad E) i) false (transforms_bad call.transforms) (tables_bad call.board) (not (in_range one_f call.error_limit)))
    ∙ ap (λ (fields : Bool). chain01 (room_short (length call.board.h) m n) (lengths_differ L || lengths_differ E) (size_bad 1 (size L) || size_bad 1 (size E)) fields (confidences_bad L || confidences_bad E) false (transforms_bad call.transforms) (tables_bad call.board) (not (in_range one_f call.error_limit)))
    (by-lists (list-01 1 list.Logical L).coordinate (list-01 1 list.Logical L).orientation (list-01 1 list.Logical L).bit (list-01 1 list.Physical E).coordinate (list-01 1 list.Physical E).orientation (list-01 1 list.Physical E).bit)

-- MATCH STATISTICS: the same
pub stats-document-01 : (E : EdgeList) (t row col : ℕ) (B : Board) → admission01 (stats_admission E t row col B) ≡ stats_numbers01 E t row col B
unfolding stats_admission stats_numbers01 tests-joined list-01 settings-01
stats-document-01 E t row col B =
    let s = settings_findings (ltb 7 t) (tables_bad B) (origin_bad (length B.h) row col) in
    let l = list-01 0 list.Only E in
    found-01 (joined (list_findings 0 list.Only E) s) (tests-joined (list_findings 0 list.Only E) s l (settings-01 (ltb 7 t) (tables_bad B) (origin_bad (length B.h) row col)))
    ∙ (λ i.
    chain01 false (or_right (lengths_differ E) i) (or_right (size_bad 0 (size E)) i) (or_right l.coordinate i || (or_right l.orientation i || or_right l.bit i)) (or_right (confidences_bad E) i) false (ltb 7 t) (tables_bad B) (origin_bad (length B.h) row col))

-- ---- soft decode: likelihoods as many as the edges are over 8,192 only where the edges are
sizes-same : (z y : Bool) → (y ≡ true → z ≡ true) → (z || y) ≡ z
sizes-same true y h = refl
sizes-same false true h = sym (h refl)
sizes-same false false h = refl

or-either : (a b : Bool) → b ≡ true → (a || b) ≡ true
or-either true b h = refl
or-either false b h = h

over : (n k : ℕ) → k ≡ n → size_bad 0 k ≡ true → size_bad 1 n ≡ true
unfolding size_bad
over n k e h = rw e at (or-either (ltb k 1) (ltb 8192 k) (only (ltb k 0) (le-ltb k 0 (omega arith)) h))
  where
    only : (b : Bool) → b ≡ false → (b || ltb 8192 k) ≡ true → ltb 8192 k ≡ true
    only true q h = clash refl q
    only false q h = h

likelihoods-over : (n : ℕ) (ms us : List Float) (z : Bool) → likelihoods_differ n ms us ≡ false → ((z || size_bad 1 n) || size_bad 0 (length ms)) ≡ (z || size_bad 1 n)
unfolding likelihoods_differ
likelihoods-over n ms us z d =
    let q = and-true (eqb n (length ms)) (eqb n (length us)) (not-false _ d) in
    sizes-same (z || size_bad 1 n) (size_bad 0 (length ms)) (λ h. or-either z (size_bad 1 n) (over n (length ms) (sym (eqb-true n (length ms) q.0)) h))

same_then : (d e : Bool) (r s x : Admission) (y z : Bool) → (e ≡ false → y ≡ z) → cond (d || e) r (cond y s x) ≡ cond (d || e) r (cond z s x)
same_then true e r s x y z h = refl
same_then false true r s x y z h = refl
same_then false false r s x y z h = ap (λ (b : Bool). cond b s x) (h refl)

-- SOFT: the same
pub soft-document-01 : (call : SoftCall) (m n k : ℕ) → admission01 (soft_admission call m n k) ≡ soft_numbers01 call m n k
unfolding soft_admission soft_numbers01 tests-joined room-01 list-01 likelihoods-01 settings-01
soft-document-01 call m n k =
    let L = call.hard.logical in
    let E = call.hard.physical in
    let ms = call.likelihoods.matches in
    let us = call.likelihoods.mismatches in
    let room = soft_room_short (length call.hard.board.h) m n k in
    let ts = transforms_bad call.hard.transforms in
    let tb = tables_bad call.hard.board in
    let s = settings_findings ts tb (soft_settings_bad call) in
    let lists = tests-joined (list_findings 1 list.Logical L) (list_findings 1 list.Physical E) (list-01 1 list.Logical L) (list-01 1 list.Physical E) in
    let with-likelihoods = tests-joined (both_lists call.hard) (soft_likelihoods call) lists (likelihoods-01 (size E) ms us) in
    let rest = joined (joined (both_lists call.hard) (soft_likelihoods call)) s in
    let t = tests-joined (room_findings room) rest (room-01 room) (tests-joined (joined (both_lists call.hard) (soft_likelihoods call)) s with-likelihoods (settings-01 ts tb (soft_settings_bad call))) in
    let d = lengths_differ L || lengths_differ E in
    let e = likelihoods_differ (size E) ms us in
    let z = size_bad 1 (size L) || size_bad 1 (size E) in
    let c = confidences_bad L || confidences_bad E in
    let u = ltb (first_bad_likelihood ms us) (length ms) in
    let twice : (b : Bool) → ((b || false) || false) ≡ b = λ b. or_right (b || false) ∙ or_right b in
    found-01 (joined (room_findings room) rest) t
    ∙ (λ i.
    chain01 (or_right room i) (or_right (d || e) i) (or_right (z || size_bad 0 (length ms)) i) (twice lists.coordinate i || (twice lists.orientation i || twice lists.bit i)) (twice c i) (or_right u i) ts tb (soft_settings_bad call))
    ∙ ap (λ (fields : Bool). chain01 room (d || e) (z || size_bad 0 (length ms)) fields c u ts tb (soft_settings_bad call))
    (by-lists (list-01 1 list.Logical L).coordinate (list-01 1 list.Logical L).orientation (list-01 1 list.Logical L).bit (list-01 1 list.Physical E).coordinate (list-01 1 list.Physical E).orientation (list-01 1 list.Physical E).bit)
    ∙ ap (cond room (Err (numbered 1))) (same_then d e (Err (numbered 2)) (Err (numbered 3)) _ (z || size_bad 0 (length ms)) z (likelihoods-over (size E) ms us (size_bad 1 (size L))))
