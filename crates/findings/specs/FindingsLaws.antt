-- Laws of what is found: the steps of the code that puts findings together, and that a call is accepted exactly when nothing is found.
use Rattle.std.specs.Prelude.{◌≡◌, refl, Bool, true, false, cond, List, ℕ, ◌≤◌, ◌<◌, ltb, eqb, length, Float, Err, Ok}
use Rattle.std.proofs.Math.Path.{sym, ap}
use Rattle.std.proofs.Common.{◌∙◌, arith, lt-ltb, le-ltb, ltb-false, eqb-true}
use Rattle.std.proofs.lemmas.Bool.{not-false}
use Rattle.laws.specs.Tests.{or-false, and-true}
use Rattle.board.specs.Hits.{EdgeList, size}
use Rattle.refusals.specs.declared.Refusal.{Refusal}
use Rattle.refusals.specs.Admission.{Admission, accepted}
use Rattle.refusals.specs.declared.ListName.{ListName}
use Rattle.refusals.specs.declared.ListName.TheVariants as list
use Rattle.refusals.specs.Numbers.{numbered, edge_refusal}
use Rattle.refusals.specs.Numbers as why
use Rattle.checks.specs.Checks.{first_bad_coordinate, first_bad_likelihood, lengths_differ, size_bad, likelihoods_differ}
use Rattle.ranges.specs.Ranges.{first_bad_byte, first_bad_confidence}
use Rattle.findings.specs.Findings.{refused_if, refused_at, or_else, first_of, Findings, first_found, joined, room_findings, list_findings, fields_found, likelihood_findings, settings_findings}

-- accepted is no refusal
pub no-refusal : {A : Type 0} (r : Refusal) → accepted ≡ Err r → A
no-refusal r e = let z : ◌≡◌ {A = ℕ} 0 1 = cc in absurd (omega arith)

-- ---- the first of two
pub else-accepted : (a b : Admission) → a ≡ accepted → b ≡ or_else a b
unfolding or_else
else-accepted a b e = ap (λ (x : Admission). or_else x b) (sym e)

pub else-refused : (a b : Admission) (r : Refusal) → a ≡ Err r → Err r ≡ or_else a b
unfolding or_else
else-refused a b r e = ap (λ (x : Admission). or_else x b) (sym e)

pub else-none : (a : Admission) → or_else a accepted ≡ a
unfolding or_else
else-none (Ok _) = refl
else-none (Err r) = refl

pub both-accepted : (a b : Admission) → or_else a b ≡ accepted → (a ≡ accepted) × (b ≡ accepted)
unfolding or_else
both-accepted (Ok _) b e = (refl, e)
both-accepted (Err r) b e = no-refusal r (sym e)

-- ---- a position that is none of a bad edge, and one that is
pub at_none : (number : ℕ) (l : ListName) (i n : ℕ) → n ≤ i → accepted ≡ refused_at number l i n
at_none number l i n h = rw (le-ltb i n h)

pub at_some : (number : ℕ) (l : ListName) (i n : ℕ) → i < n → Err (edge_refusal number l i) ≡ refused_at number l i n
at_some number l i n h = rw (lt-ltb i n h)

-- ---- nothing found
pub if-accepted : (b : Bool) (n : ℕ) → refused_if b n ≡ accepted → b ≡ false
if-accepted true n e = no-refusal _ (sym e)
if-accepted false n e = refl

pub at-accepted : (number : ℕ) (l : ListName) (i n : ℕ) → refused_at number l i n ≡ accepted → ltb i n ≡ false
at-accepted number l i n e = go (ltb i n) e
  where
    go : (b : Bool) → cond b (Err (edge_refusal number l i)) accepted ≡ accepted → b ≡ false
    go true e = no-refusal _ (sym e)
    go false e = refl

-- nothing of any kind
pub record Clean (f : Findings) : Type 0 where
  pub room : f.room ≡ accepted
  pub lengths : f.lengths ≡ accepted
  pub size : f.size ≡ accepted
  pub coordinate : f.coordinate ≡ accepted
  pub orientation : f.orientation ≡ accepted
  pub bit : f.bit ≡ accepted
  pub confidence : f.confidence ≡ accepted
  pub likelihood : f.likelihood ≡ accepted
  pub transform : f.transform ≡ accepted
  pub table : f.table ≡ accepted
  pub setting : f.setting ≡ accepted

-- accepted exactly when nothing is found
pub clean_of : (f : Findings) → first_found f ≡ accepted → Clean f
unfolding first_found first_of
clean_of f e =
    let a1 = both-accepted f.room _ e in
    let a2 = both-accepted f.lengths _ a1.1 in
    let a3 = both-accepted f.size _ a2.1 in
    let a4 = both-accepted f.coordinate _ a3.1 in
    let a5 = both-accepted f.orientation _ a4.1 in
    let a6 = both-accepted f.bit _ a5.1 in
    let a7 = both-accepted f.confidence _ a6.1 in
    let a8 = both-accepted f.likelihood _ a7.1 in
    let a9 = both-accepted f.transform _ a8.1 in
    let a10 = both-accepted f.table _ a9.1 in
    let a11 = both-accepted f.setting _ a10.1 in
    record {
      room = a1.0;
      lengths = a2.0;
      size = a3.0;
      coordinate = a4.0;
      orientation = a5.0;
      bit = a6.0;
      confidence = a7.0;
      likelihood = a8.0;
      transform = a9.0;
      table = a10.0;
      setting = a11.0;
    }

pub of-clean : (f : Findings) → Clean f → first_found f ≡ accepted
unfolding first_found first_of or_else
of-clean f k = rw (k.room, k.lengths, k.size, k.coordinate, k.orientation, k.bit, k.confidence, k.likelihood, k.transform, k.table, k.setting)

-- nothing in two parts together exactly when nothing in either
pub clean-parts : (f g : Findings) → Clean (joined f g) → Clean f × Clean g
clean-parts f g k =
    let room = both-accepted f.room _ k.room in
    let lengths = both-accepted f.lengths _ k.lengths in
    let sizes = both-accepted f.size _ k.size in
    let coordinate = both-accepted f.coordinate _ k.coordinate in
    let orientation = both-accepted f.orientation _ k.orientation in
    let bit = both-accepted f.bit _ k.bit in
    let confidence = both-accepted f.confidence _ k.confidence in
    let likelihood = both-accepted f.likelihood _ k.likelihood in
    let transform = both-accepted f.transform _ k.transform in
    let table = both-accepted f.table _ k.table in
    let setting = both-accepted f.setting _ k.setting in (
      record {
        room = room.0;
        lengths = lengths.0;
        size = sizes.0;
        coordinate = coordinate.0;
        orientation = orientation.0;
        bit = bit.0;
        confidence = confidence.0;
        likelihood = likelihood.0;
        transform = transform.0;
        table = table.0;
        setting = setting.0;
      },
      record {
        room = room.1;
        lengths = lengths.1;
        size = sizes.1;
        coordinate = coordinate.1;
        orientation = orientation.1;
        bit = bit.1;
        confidence = confidence.1;
        likelihood = likelihood.1;
        transform = transform.1;
        table = table.1;
        setting = setting.1;
      },
    )

-- the two of them together
pub neither : (a b : Admission) → a ≡ accepted → b ≡ accepted → or_else a b ≡ accepted
unfolding or_else
neither a b p q = rw (p, q)

pub clean-joined : (f g : Findings) → Clean f → Clean g → Clean (joined f g)
clean-joined f g k l = record {
  room = neither _ _ k.room l.room;
  lengths = neither _ _ k.lengths l.lengths;
  size = neither _ _ k.size l.size;
  coordinate = neither _ _ k.coordinate l.coordinate;
  orientation = neither _ _ k.orientation l.orientation;
  bit = neither _ _ k.bit l.bit;
  confidence = neither _ _ k.confidence l.confidence;
  likelihood = neither _ _ k.likelihood l.likelihood;
  transform = neither _ _ k.transform l.transform;
  table = neither _ _ k.table l.table;
  setting = neither _ _ k.setting l.setting;
}

-- ---- the ways in which a part is judged
-- the columns of a list are as long as the list
pub same_length : (E : EdgeList) → lengths_differ E ≡ false → (length E.orientations ≡ size E) × (length E.bits ≡ size E) × (length E.confidences ≡ size E)
unfolding lengths_differ
same_length E d =
    let n = size E in
    let e1 = and-true (eqb n (length E.cols)) _ (not-false _ d) in
    let e2 = and-true (eqb n (length E.orientations)) _ e1.1 in
    let e3 = and-true (eqb n (length E.bits)) _ e2.1 in
    (sym (eqb-true _ _ e2.0), sym (eqb-true _ _ e3.0), sym (eqb-true _ _ e3.1))

-- and not longer than it may be
pub few-edges : (least n : ℕ) → size_bad least n ≡ false → n ≤ 8192
unfolding size_bad
few-edges least n h = ltb-false 8192 n (or-false (ltb n least) (ltb 8192 n) h).1

module _ (least : ℕ) (l : ListName) (E : EdgeList) where
  pub list-lengths : lengths_differ E ≡ true → Err (numbered why.lengths_differ) ≡ first_found (list_findings least l E)
  unfolding first_found first_of or_else list_findings
  list-lengths h = sym (rw h)

  pub list-size : lengths_differ E ≡ false → size_bad least (size E) ≡ true → Err (numbered why.list_size) ≡ first_found (list_findings least l E)
  unfolding first_found first_of or_else list_findings
  list-size d h = sym (rw (d, h))

  pub list-fields : lengths_differ E ≡ false → size_bad least (size E) ≡ false → fields_found l E ≡ first_found (list_findings least l E)
  unfolding first_found first_of or_else fields_found list_findings
  list-fields d h = let f = list_findings least l E in ap (λ (x : Admission). or_else f.coordinate (or_else f.orientation (or_else f.bit x))) (sym (else-none f.confidence)) ∙ sym (rw (d, h))

-- the fields, by the places that their checks answer
pub fields-found : (l : ListName) (E : EdgeList) (i j k m : ℕ) → i ≡ first_bad_coordinate E.rows E.cols → j ≡ first_bad_byte 1 E.orientations → k ≡ first_bad_byte 1 E.bits → m ≡ first_bad_confidence E.confidences
    → or_else (refused_at why.bad_coordinate l i (size E)) (or_else (refused_at why.bad_orientation l j (length E.orientations)) (or_else (refused_at why.bad_bit l k (length E.bits)) (refused_at why.bad_confidence l m (length E.confidences))))
    ≡ fields_found l E
unfolding fields_found list_findings
fields-found l E i j k m p q r s = rw (p, q, r, s) refl

module _ (n : ℕ) (ms us : List Float) where
  pub likelihood-lengths : likelihoods_differ n ms us ≡ true → Err (numbered why.lengths_differ) ≡ first_found (likelihood_findings n ms us)
  unfolding first_found first_of or_else likelihood_findings
  likelihood-lengths h = sym (rw h)

  pub likelihood-size : likelihoods_differ n ms us ≡ false → size_bad 0 (length ms) ≡ true → Err (numbered why.list_size) ≡ first_found (likelihood_findings n ms us)
  unfolding first_found first_of or_else likelihood_findings
  likelihood-size d h = sym (rw (d, h))

  pub likelihood-found : (i : ℕ) → i ≡ first_bad_likelihood ms us → likelihoods_differ n ms us ≡ false → size_bad 0 (length ms) ≡ false → refused_at why.bad_likelihood list.Physical i (length ms) ≡ first_found (likelihood_findings n ms us)
  unfolding first_found first_of or_else likelihood_findings
  likelihood-found i e d h = ap (λ (k : ℕ). refused_at why.bad_likelihood list.Physical k (length ms)) e ∙ sym (else-none _) ∙ sym (rw (d, h))

pub settings-found : (a b c : Bool) → or_else (refused_if a why.bad_transform) (or_else (refused_if b why.bad_table) (refused_if c why.bad_setting)) ≡ first_found (settings_findings a b c)
unfolding first_found first_of or_else settings_findings
settings-found a b c = ap (λ (x : Admission). or_else (refused_if a why.bad_transform) (or_else (refused_if b why.bad_table) x)) (sym (else-none (refused_if c why.bad_setting)))

pub room-found : (short : Bool) → refused_if short why.room_too_short ≡ first_found (room_findings short)
unfolding first_found first_of or_else room_findings
room-found short = sym (else-none (refused_if short why.room_too_short))
