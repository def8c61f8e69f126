-- The steps of the judgement, each by the case that was told; match statistics of an edge alone; and what is known of an edit that was taken.
use Rattle.std.proofs.Math.Path.{◌≡◌, sym, ap}
use Rattle.std.specs.Prelude.{refl, Bool, true, not, ◌||◌, cond, [], ◌∷◌, ℕ, zero, suc, ◌+◌, ◌≤◌, ◌<◌, ltb, leb, get_or, length, pos, Err, None, Ok, Option, Some}
use Rattle.std.proofs.Common.{◌∙◌, arith, lt-ltb, le-ltb, eq-eqb, ne_eqb, ltb-true, ltb-false, eqb-true, leb-false}
use Rattle.std.proofs.Math.Bool.{false}
use Rattle.std.proofs.Math.Dec.{eqb}
use lib.Ieee.{Float, nan}
use Rattle.std.proofs.lemmas.Bool.{not-false}
use Rattle.refusals.specs.declared.EdgePlace.{EdgePlace}
use Rattle.laws.specs.Words.{put, fold, first, first_from, one_f, zero_f}
use Rattle.laws.specs.Tests.{or-false, and-true, clash}
use Rattle.answer.specs.declared.Square.{Square}
use Rattle.answer.specs.declared.MatchStats.{MatchStats}
use Rattle.answer.specs.Answers.{StatsAnswer}
use Rattle.board.specs.declared.edge.Edge.{Edge}
use Rattle.board.specs.Hits.{EdgeList, Board, size, edge_at, edge_hit, hit, hits}
use Rattle.board.proofs.HitsLaws.{hit-edge}
use Rattle.refusals.specs.declared.Refusal.{Refusal}
use Rattle.refusals.specs.Admission.{Admission, accepted}
use Rattle.refusals.specs.declared.ListName.TheVariants as list
use Rattle.refusals.specs.Numbers.{numbered, edge_refusal}
use Rattle.refusals.specs.Numbers as why
use Rattle.checks.specs.Checks.{far, lengths_differ, size_bad, origin_bad, first_bad_coordinate}
use Rattle.ranges.specs.Ranges.{in_range, first_bad_byte, first_bad_confidence}
use Rattle.findings.specs.Findings.{refused_if, refused_at, or_else, first_of, first_found, joined, list_findings, settings_findings}
use Rattle.findings.specs.FindingsLaws.{no-refusal, both-accepted, if-accepted, else-accepted}
use Rattle.admission.specs.Refusals.{tables_bad, stats_admission}
use Rattle.stats.specs.Stats.{stats_of, stats_answer, or_counted}
use Rattle.tally.specs.declared.Tally.{Tally}
use Rattle.tally.specs.Answers.{Judged}
use Rattle.tally.specs.Tally.{Adds, count_of}
use Rattle.tally.specs.Tally as tally
use Rattle.tally.specs.Counted.{listed_as, hit_at}
use Rattle.tally_checks.specs.Judged.{record_bad, record_found, full, refused_there, edge_found, placing_found, add_found, confidence_at, found_there, found_missing, named_found, taken, judged_edge, judged_missing, judged_there, judged_add, judged_named, alone, moved, moved_to}

-- ---- one edge alone
-- what is found in it, at the edge's own position
unfoldable pub moved_all : ℕ → Admission → Admission
moved_all position (Ok _) = accepted
moved_all position (Err r) = Err (moved position r)

-- what match statistics find in the list with one edge alone, by the four tests of the edge and the three of the placing
found-alone : (position : ℕ) (a b c d x y z : Bool)
    → moved_all position (first_found (joined (record {
      room = accepted;
      lengths = accepted;
      size = accepted;
      coordinate = refused_at why.bad_coordinate list.Only (cond a 0 1) 1;
      orientation = refused_at why.bad_orientation list.Only (cond b 0 1) 1;
      bit = refused_at why.bad_bit list.Only (cond c 0 1) 1;
      confidence = refused_at why.bad_confidence list.Only (cond d 0 1) 1;
      likelihood = accepted;
      transform = accepted;
      table = accepted;
      setting = accepted;
    }) (settings_findings x y z)))
    ≡ or_else (first_of (refused_there why.bad_coordinate position a ∷ refused_there why.bad_orientation position b ∷ refused_there why.bad_bit position c ∷ refused_there why.bad_confidence position d ∷ [])) (first_found (settings_findings x y z))
unfolding first_found first_of or_else settings_findings moved_to moved_all
found-alone position true b c d x y z = refl
found-alone position false true c d x y z = refl
found-alone position false false true d x y z = refl
found-alone position false false false true x y z = refl
found-alone position false false false false true y z = refl
found-alone position false false false false false true z = refl
found-alone position false false false false false false true = refl
found-alone position false false false false false false false = refl

module _ (e : Edge) (w : Float) (position : ℕ) (q : Square) (B : Board) where
  pub alone-found : moved_all position (stats_admission (alone e w) q.transform q.row q.col B) ≡ or_else (edge_found e w position) (placing_found q B)
  unfolding stats_admission list_findings lengths_differ size_bad first_bad_coordinate first_bad_byte first_bad_confidence first first_from edge_found placing_found
  alone-found =
      found-alone position (far e.row || far e.col) (ltb 1 e.orientation) (ltb 1 e.bit) (not (in_range one_f w)) (ltb 7 q.transform) (tables_bad B) (origin_bad (length B.h) q.row q.col)

  -- its hits are 1 or 0
  one_hit_lem : (b : Bool) → eqb (put ◌+◌ b 0 1) 1 ≡ b
  one_hit_lem true = refl
  one_hit_lem false = refl

  pub alone-hit : eqb (hits B (alone e w) q.transform q.row q.col) 1 ≡ edge_hit B e q
  unfolding hits fold
  alone-hit = one_hit_lem (hit B (alone e w) q.transform q.row q.col 0) ∙ sym (hit-edge B (alone e w) q.transform q.row q.col 0)

  -- ---- the two ends of `judge_edge`
  module _ (s : StatsAnswer) (given : s ≡ stats_answer (alone e w) q.transform q.row q.col B) where
    edge-refused : (r : Refusal) (a : Admission) (m : MatchStats) → Err r ≡ or_counted a m → Err (moved position r) ≡ moved_all position a
    unfolding moved_all
    edge-refused r (Ok _) m h = let z : ◌≡◌ {A = ℕ} 0 1 = cc in absurd (omega arith)
    edge-refused r (Err x) m h = let k : r ≡ x = cc in ap (λ (y : Refusal). Err (moved position y)) k

    pub judged-refused : (r x : Refusal) → s ≡ Err r → x ≡ moved position r → Err x ≡ judged_edge e w position q B
    unfolding judged_edge taken stats_answer
    judged-refused r x h k =
        ap Err k
        ∙ ap (λ (a : Admission). taken a (edge_hit B e q)) (edge-refused r (stats_admission (alone e w) q.transform q.row q.col B) (stats_of (alone e w) q.transform q.row q.col B) (sym h ∙ given) ∙ alone-found)

    edge-accepted : (m : MatchStats) (a : Admission) (n : MatchStats) → Ok m ≡ or_counted a n → (moved_all position a ≡ accepted) × (m ≡ n)
    unfolding moved_all
    edge-accepted m (Ok _) n h = (refl, cc)
    edge-accepted m (Err x) n h = let z : ◌≡◌ {A = ℕ} 0 1 = cc in absurd (omega arith)

    pub judged-counted : (m : MatchStats) → s ≡ Ok m → Ok (eqb m.hits 1) ≡ judged_edge e w position q B
    unfolding judged_edge taken stats_answer stats_of
    judged-counted m h =
        let k = edge-accepted m (stats_admission (alone e w) q.transform q.row q.col B) (stats_of (alone e w) q.transform q.row q.col B) (sym h ∙ given) in
        ap Ok (ap (λ (x : MatchStats). eqb x.hits 1) k.1 ∙ alone-hit)
        ∙ ap (λ (a : Admission). taken a (edge_hit B e q)) (sym k.0 ∙ alone-found)

-- ---- the record
module _ (E : EdgeList) (T : Tally) where
  pub record-lengths : lengths_differ E ≡ true → Err (numbered why.lengths_differ) ≡ record_found E T
  unfolding record_found or_else
  record-lengths h = sym (rw h)

  pub record-rest : (b : Bool) → b ≡ record_bad (size E) T → lengths_differ E ≡ false → refused_if b tally.bad_record ≡ record_found E T
  unfolding record_found or_else
  record-rest b e h = rw e (sym (rw h))

-- a record that may be that of its list
pub record RecordOk (E : EdgeList) (T : Tally) : Type 0 where
  pub cols : length E.cols ≡ size E
  pub orientations : length E.orientations ≡ size E
  pub bits : length E.bits ≡ size E
  pub confidences : length E.confidences ≡ size E
  pub few : T.edges ≤ size E
  pub adds : Adds T

pub record-ok : (E : EdgeList) (T : Tally) → record_found E T ≡ accepted → RecordOk E T
unfolding record_found lengths_differ record_bad
record-ok E T h =
    let k = both-accepted (refused_if (lengths_differ E) why.lengths_differ) _ h in
    let n = size E in
    let e1 = and-true (eqb n (length E.cols)) _ (not-false _ (if-accepted (lengths_differ E) why.lengths_differ k.0)) in
    let e2 = and-true (eqb n (length E.orientations)) _ e1.1 in
    let e3 = and-true (eqb n (length E.bits)) _ e2.1 in
    let b = or-false (ltb n T.edges) _ (if-accepted (record_bad n T) tally.bad_record k.1) in
    record {
      cols = sym (eqb-true _ _ e1.0);
      orientations = sym (eqb-true _ _ e2.0);
      bits = sym (eqb-true _ _ e3.0);
      confidences = sym (eqb-true _ _ e3.1);
      few = ltb-false _ _ b.0;
      adds = eqb-true _ _ (not-false _ b.1);
    }

-- ---- a refusal moved
module _ (position number : ℕ) (place : (Option EdgePlace)) where
  pub moved_nowhere : place ≡ None → numbered number ≡ moved_to position number place
  unfolding moved_to
  moved_nowhere h = sym (rw h)

  pub moved_at : (p : EdgePlace) → place ≡ Some p → edge_refusal number list.Only position ≡ moved_to position number place
  unfolding moved_to
  moved_at p h = sym (rw h)

-- ---- what a judgement tells
taken_refused : (a : Admission) (h : Bool) (r : Refusal) → Err r ≡ taken a h → a ≡ Err r
unfolding taken
taken_refused (Ok _) h r e = let z : ◌≡◌ {A = ℕ} 0 1 = cc in absurd (omega arith)
taken_refused (Err x) h r e = let k : r ≡ x = cc in ap Err (sym k)

pub taken-taken : (a : Admission) (h b : Bool) → Ok b ≡ taken a h → (a ≡ accepted) × (b ≡ h)
unfolding taken
taken-taken (Ok _) h b e = (refl, cc)
taken-taken (Err x) h b e = let z : ◌≡◌ {A = ℕ} 0 1 = cc in absurd (omega arith)

-- an edge with nothing wrong
abbrev pub good : Edge
good = record { row = pos 0; col = pos 0; orientation = 0; bit = 0 }

good-found : (position : ℕ) → edge_found good zero_f position ≡ accepted
unfolding edge_found first_of or_else far in_range lib.Ieee.le
good-found position = refl

-- the first of two decides where it refuses, and else the second
first-refused : (a b : Admission) (h : Bool) (r : Refusal) → a ≡ Err r → Err r ≡ taken (or_else a b) h
unfolding taken or_else
first-refused a b h r e = sym (rw e)

then-rest : (a b : Admission) (h : Bool) → a ≡ accepted → taken b h ≡ taken (or_else a b) h
unfolding or_else
then-rest a b h e = sym (rw e)

if-so : (b : Bool) (n : ℕ) (h : Bool) → b ≡ true → Err (numbered n) ≡ taken (refused_if b n) h
unfolding taken
if-so b n h e = sym (rw e)

if-not : (b : Bool) (n : ℕ) (h : Bool) → b ≡ false → Ok h ≡ taken (refused_if b n) h
unfolding taken
if-not b n h e = sym (rw e)

-- what is refused in any case is no hit or miss
never : (a : Admission) (r : Refusal) (h k : Bool) → taken (or_else a (Err r)) h ≡ taken (or_else a (Err r)) k
unfolding taken or_else
never (Ok _) r h k = refl
never (Err x) r h k = refl

-- ---- no edge at the position
module _ (position : ℕ) (q : Square) (B : Board) (j : Judged) (given : j ≡ judged_edge good zero_f position q B) where
  told-good : placing_found q B ≡ or_else (edge_found good zero_f position) (placing_found q B)
  told-good = else-accepted (edge_found good zero_f position) (placing_found q B) (good-found position)

  pub missing-refused : (r : Refusal) → j ≡ Err r → Err r ≡ judged_missing q B
  unfolding judged_edge judged_missing found_missing
  missing-refused r h = first-refused (placing_found q B) _ false r (told-good ∙ taken_refused (or_else (edge_found good zero_f position) (placing_found q B)) (edge_hit B good q) r (sym h ∙ given))

  pub missing-taken : (b : Bool) → j ≡ Ok b → Err (numbered tally.no_such_edge) ≡ judged_missing q B
  unfolding judged_edge judged_missing found_missing taken
  missing-taken b h = then-rest (placing_found q B) (Err (numbered tally.no_such_edge)) false (told-good ∙ (taken-taken (or_else (edge_found good zero_f position) (placing_found q B)) (edge_hit B good q) b (sym h ∙ given)).0)

-- ---- the edge at the position
module _ (e : Edge) (w : Float) (position : ℕ) (T : Tally) (B : Board) (j : Judged) (given : j ≡ judged_edge e w position T.square B) where
  abbrev both : Admission
  both = or_else (edge_found e w position) (placing_found T.square B)

  abbrev at : Bool
  at = edge_hit B e T.square

  pub there-refused : (r : Refusal) → j ≡ Err r → Err r ≡ judged_there e w position T B
  unfolding judged_edge judged_there found_there
  there-refused r h = first-refused both _ at r (taken_refused both at r (sym h ∙ given))

  module _ (b : Bool) (h : j ≡ Ok b) where
    told : (both ≡ accepted) × (b ≡ at)
    unfolding judged_edge
    told = taken-taken both at b (sym h ∙ given)

    pub there-none : (n : ℕ) → n ≡ count_of T e.orientation b → n ≡ 0 → Err (numbered tally.bad_record) ≡ judged_there e w position T B
    unfolding judged_there found_there
    there-none n k z =
        if-so (eqb (count_of T e.orientation at) 0) tally.bad_record at (eq-eqb _ _ (ap (count_of T e.orientation) (sym told.1) ∙ sym k ∙ z))
        ∙ then-rest both (refused_if (eqb (count_of T e.orientation at) 0) tally.bad_record) at told.0

    pub there-taken : (n : ℕ) → n ≡ count_of T e.orientation b → (n ≡ 0 → ⊥) → Ok b ≡ judged_there e w position T B
    unfolding judged_there found_there
    there-taken n k z =
        ap Ok told.1
        ∙ if-not (eqb (count_of T e.orientation at) 0) tally.bad_record at (ne_eqb _ _ (λ x. z (k ∙ ap (count_of T e.orientation) told.1 ∙ x)))
        ∙ then-rest both (refused_if (eqb (count_of T e.orientation at) 0) tally.bad_record) at told.0

-- ---- an edge to be added
module _ (E : EdgeList) (T : Tally) (e : Edge) (w : Float) (B : Board) (a : Admission) (given : a ≡ record_found E T) where
  pub add-record : (r : Refusal) → a ≡ Err r → Err r ≡ judged_add E T e w B
  unfolding judged_add add_found
  add-record r h = first-refused (record_found E T) _ (edge_hit B e T.square) r (sym given ∙ h)

  module _ (h : a ≡ accepted) where
    rest : taken (or_else (refused_if (full (size E) T.edges) why.list_size) (or_else (edge_found e w T.edges) (placing_found T.square B))) (edge_hit B e T.square) ≡ judged_add E T e w B
    unfolding judged_add add_found
    rest = then-rest (record_found E T) _ (edge_hit B e T.square) (sym given ∙ h)

    pub add-full : full (size E) T.edges ≡ true → Err (numbered why.list_size) ≡ judged_add E T e w B
    add-full f = first-refused (refused_if (full (size E) T.edges) why.list_size) _ (edge_hit B e T.square) _ (rw f) ∙ rest

    pub add-edge : full (size E) T.edges ≡ false → judged_edge e w T.edges T.square B ≡ judged_add E T e w B
    unfolding judged_edge
    add-edge f = then-rest (refused_if (full (size E) T.edges) why.list_size) _ (edge_hit B e T.square) (rw f) ∙ rest

-- ---- an edge to be removed or flipped
module _ (E : EdgeList) (T : Tally) (position : ℕ) (B : Board) (a : Admission) (given : a ≡ record_found E T) where
  abbrev here : Bool
  here = hit_at B E T.square position

  pub named-record : (r : Refusal) → a ≡ Err r → Err r ≡ judged_named E T position B
  unfolding judged_named named_found
  named-record r h = first-refused (record_found E T) _ here r (sym given ∙ h)

  module _ (h : a ≡ accepted) where
    pub named-missing : T.edges ≤ position → judged_missing T.square B ≡ judged_named E T position B
    unfolding judged_named named_found judged_missing found_missing
    named-missing l =
        never (placing_found T.square B) (numbered tally.no_such_edge) false here
        ∙ sym (ap (λ (b : Bool). taken (cond b (found_there (edge_at E position) (confidence_at E position) position T B) (found_missing T.square B)) here) (le-ltb position T.edges l))
        ∙ then-rest (record_found E T) _ here (sym given ∙ h)

    pub named-there : position < T.edges → judged_there (edge_at E position) (confidence_at E position) position T B ≡ judged_named E T position B
    unfolding judged_named named_found judged_there
    named-there l =
        ap (taken (found_there (edge_at E position) (confidence_at E position) position T B)) (hit-edge B E T.square.transform T.square.row T.square.col position)
        ∙ sym (ap (λ (b : Bool). taken (cond b (found_there (edge_at E position) (confidence_at E position) position T B) (found_missing T.square B)) here) (lt-ltb position T.edges l))
        ∙ then-rest (record_found E T) _ here (sym given ∙ h)

-- ---- what is known of an edit that was taken
pub add_ok : (E : EdgeList) (T : Tally) (e : Edge) (w : Float) (B : Board) → add_found E T e w B ≡ accepted → RecordOk E T × ((T.edges < size E) × (T.edges < 8192))
unfolding add_found full
add_ok E T e w B h =
    let k = both-accepted (record_found E T) _ h in
    let m = both-accepted (refused_if (full (size E) T.edges) why.list_size) _ k.1 in
    let f = or-false (leb (size E) T.edges) (leb 8192 T.edges) (if-accepted (full (size E) T.edges) why.list_size m.0) in
    (record-ok E T k.0, (leb-false _ _ f.0, leb-false _ _ f.1))

there-accepted : (number position : ℕ) (bad : Bool) → refused_there number position bad ≡ accepted → bad ≡ false
there-accepted number position true h = no-refusal _ (sym h)
there-accepted number position false h = refl

-- the orientation and the bit of an edge with nothing wrong
pub edge-fields : (e : Edge) (w : Float) (position : ℕ) → edge_found e w position ≡ accepted → (e.orientation < 2) × (e.bit < 2)
unfolding edge_found first_of
edge-fields e w position h =
    let a = both-accepted (refused_there why.bad_coordinate position (far e.row || far e.col)) _ h in
    let b = both-accepted (refused_there why.bad_orientation position (ltb 1 e.orientation)) _ a.1 in
    let c = both-accepted (refused_there why.bad_bit position (ltb 1 e.bit)) _ b.1 in
    let o = ltb-false 1 e.orientation (there-accepted why.bad_orientation position (ltb 1 e.orientation) b.0) in
    let t = ltb-false 1 e.bit (there-accepted why.bad_bit position (ltb 1 e.bit) c.0) in
    (omega arith, omega arith)

pub record NamedOk (E : EdgeList) (T : Tally) (position : ℕ) (B : Board) : Type 0 where
  pub kept : RecordOk E T
  pub exists : position < T.edges
  pub orientation : listed_as E position < 2
  pub bit : get_or E.bits position 0 < 2
  pub some : 0 < count_of T (listed_as E position) (hit_at B E T.square position)

not-zero : (n : ℕ) → eqb n 0 ≡ false → 0 < n
not-zero zero h = clash refl h
not-zero (suc n) h = omega arith

pub named_ok : (E : EdgeList) (T : Tally) (position : ℕ) (B : Board) → named_found E T position B ≡ accepted → NamedOk E T position B
unfolding named_found found_there found_missing
named_ok E T position B h = go (ltb position T.edges) refl (both-accepted (record_found E T) _ h)
  where
    go : (b : Bool) → ltb position T.edges ≡ b → (record_found E T ≡ accepted) × (cond b (found_there (edge_at E position) (confidence_at E position) position T B) (found_missing T.square B) ≡ accepted) → NamedOk E T position B
    go false e k = no-refusal _ (sym (both-accepted (placing_found T.square B) _ k.1).1)
    go true e k =
        let m = both-accepted (or_else (edge_found (edge_at E position) (confidence_at E position) position) (placing_found T.square B)) _ k.1 in
        let f = edge-fields (edge_at E position) (confidence_at E position) position (both-accepted (edge_found (edge_at E position) (confidence_at E position) position) _ m.0).0 in
        let z = not-zero (count_of T (listed_as E position) (edge_hit B (edge_at E position) T.square)) (if-accepted (eqb (count_of T (listed_as E position) (edge_hit B (edge_at E position) T.square)) 0) tally.bad_record m.1) in
        let y = ap (count_of T (listed_as E position)) (hit-edge B E T.square.transform T.square.row T.square.col position) in
        record { kept = record-ok E T k.0; exists = ltb-true _ _ e; orientation = f.0; bit = f.1; some = omega (arith, z, y) }

-- by their judgements
pub add-taken-ok : (E : EdgeList) (T : Tally) (e : Edge) (w : Float) (B : Board) (b : Bool) → Ok b ≡ judged_add E T e w B → RecordOk E T × ((T.edges < size E) × (T.edges < 8192))
unfolding judged_add
add-taken-ok E T e w B b h = add_ok E T e w B (taken-taken (add_found E T e w B) (edge_hit B e T.square) b h).0

pub named-taken-ok : (E : EdgeList) (T : Tally) (position : ℕ) (B : Board) (b : Bool) → Ok b ≡ judged_named E T position B → NamedOk E T position B × (b ≡ hit_at B E T.square position)
unfolding judged_named
named-taken-ok E T position B b h =
    let k = taken-taken (named_found E T position B) (hit_at B E T.square position) b h in
    (named_ok E T position B k.0, k.1)
