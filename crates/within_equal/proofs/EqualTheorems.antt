-- C-18: the number read is the least for which the answer is certain; the answer is that of match statistics' rate on the full list; and what was not read does not matter.
use Rattle.std.specs.Prelude.{◌≡◌, Bool, ◌||◌, eqb, get_or, length, Float, Err, Ok}
use Rattle.std.proofs.Math.Path.{refl, sym, ap}
use Rattle.std.proofs.Common.{ap₂, ◌∙◌, true≢false}
use Rattle.std.proofs.Math.Bool.{true, false, not, cond}
use Rattle.std.proofs.Math.Logic.{⊎_elim}
use Prim.Native.Nat.{ℕ, ◌+◌, ◌-◌, ◌≤◌, ◌<◌}
use native.Mathlib.Omega.{arith}
use Rattle.std.specs.Float.{nan}
use Rattle.std.specs.Float.Ieee.{le}
use borrow.Author.Tests.{ltb-false, eq-eqb, not-true, not-false}
use Rattle.laws.specs.Tests.{clash, cases, compared, or-true, or-false}
use Rattle.laws.specs.Words.{count, one, one_f}
use Rattle.laws.specs.First.{first-le, first_passes, first-before, first-least, first-none}
use Rattle.laws.specs.Counting.{count-le}
use Rattle.laws.specs.DoubleCounting.{fold-ext}
use Rattle.board.specs.declared.edge.Edge.{Edge}
use Rattle.board.specs.Hits.{EdgeList, Board, size, edge_at, edge_hit, hit, hits}
use Rattle.board.proofs.HitsLaws.{hit-edge}
use Rattle.refusals.specs.declared.Refusal.{Refusal}
use Rattle.refusals.specs.Admission.{Admission, accepted}
use Rattle.refusals.specs.declared.ListName.TheVariants as list
use Rattle.refusals.specs.Numbers.{edge_refusal}
use Rattle.answer.specs.declared.MatchStats.{MatchStats}
use Rattle.answer.specs.Answers.{StatsAnswer}
use Rattle.checks.specs.Checks.{far_at, bad_coordinate, first_bad_coordinate}
use Rattle.ranges.specs.Ranges.{bad_byte, bad_confidence, first_bad_byte, first_bad_confidence, in_range}
use Rattle.findings.specs.Findings.{or_else, first_of, first_found, settings_findings}
use Rattle.findings.specs.FindingsLaws.{same_length}
use Rattle.admission.specs.Refusals.{stats_admission}
use Rattle.admission.specs.Accepted.{stats-tests-of}
use Rattle.stats.specs.Stats.{stats_of, stats_answer, or_counted}
use Rattle.within_answer.specs.declared.LimitTest.{LimitTest}
use Rattle.within_answer.specs.Answers.{WithinAnswer}
use Rattle.within_admission.specs.WithinAdmission.{fault_of, fault_at, within_admission}
use Rattle.within_admission.specs.WithinAdmissionLaws.{no-fault, within-accepted}
use Rattle.within.specs.declared.Stop.{Stop}
use Rattle.within.specs.Within.{allowed, certain, concluded, hits_to, stops_at, read_to, stop_of, judged_of, or_judged, within_answer}
use Rattle.within.specs.WithinLaws.{none_here}
use Rattle.within_equal.specs.Equal.{Agree, certain_after, LeastRead, Reached}
use Rattle.within_equal.proofs.RateLaws.{more-allowed, fewer-not, one-allows, rate-none, hits-least, hits-most}

-- ---- a judged answer is no refusal, and has one test
abbrev test_of : WithinAnswer → LimitTest → LimitTest
test_of (Ok j) d = j
test_of (Err r) d = d

abbrev is_judged : WithinAnswer → Bool
is_judged (Ok j) = true
is_judged (Err r) = false

one-test : (i j : LimitTest) → ◌≡◌ {A = WithinAnswer} (Ok i) (Ok j) → i ≡ j
one-test i j e = ap (λ (a : WithinAnswer). test_of a i) e

abbrev refusal_of : WithinAnswer → Refusal → Refusal
refusal_of (Ok j) d = d
refusal_of (Err r) d = r

-- ---- what is told at a stop
module _ (E : EdgeList) (limit : Float) (s : Stop) where
  abbrev n : ℕ
  n = size E

  -- certain: yes or no
  judged-when : certain n limit s.read s.hits ≡ true → concluded E limit s ≡ Ok (record { within = allowed n limit s.hits; read = s.read })
  unfolding concluded certain
  judged-when e = go (allowed n limit s.hits) (allowed n limit (s.hits + (n - s.read))) e
    where
      go : (a b : Bool) → (a || not b) ≡ true
          → cond {A = WithinAnswer} a (Ok (record { within = true; read = s.read })) (cond b (Err (edge_refusal (fault_at E s.read) list.Only s.read)) (Ok (record { within = false; read = s.read })))
          ≡ Ok (record { within = a; read = s.read })
      go true b h = refl
      go false true h = clash h refl
      go false false h = refl

  -- not certain: the edge there
  refused-when : certain n limit s.read s.hits ≡ false → concluded E limit s ≡ Err (edge_refusal (fault_at E s.read) list.Only s.read)
  unfolding concluded certain
  refused-when e = go (allowed n limit s.hits) (allowed n limit (s.hits + (n - s.read))) e
    where
      go : (a b : Bool) → (a || not b) ≡ false
          → cond {A = WithinAnswer} a (Ok (record { within = true; read = s.read })) (cond b (Err (edge_refusal (fault_at E s.read) list.Only s.read)) (Ok (record { within = false; read = s.read })))
          ≡ Err (edge_refusal (fault_at E s.read) list.Only s.read)
      go true b h = clash refl h
      go false true h = refl
      go false false h = clash refl h

  told-judged : (j : LimitTest) → concluded E limit s ≡ Ok j → (certain n limit s.read s.hits ≡ true) × (j ≡ record { within = allowed n limit s.hits; read = s.read })
  told-judged j e = ⊎_elim
      (λ t. (t, one-test j _ (sym e ∙ judged-when t)))
      (λ t. absurd (true≢false (ap is_judged (sym e ∙ refused-when t))))
      (cases (certain n limit s.read s.hits))

  told-refused : (r : Refusal) → concluded E limit s ≡ Err r → (certain n limit s.read s.hits ≡ false) × (r ≡ edge_refusal (fault_at E s.read) list.Only s.read)
  told-refused r e = ⊎_elim
      (λ t. absurd (true≢false (ap is_judged (sym (judged-when t) ∙ e))))
      (λ t. (t, ap (λ (a : WithinAnswer). refusal_of a r) (sym e ∙ refused-when t)))
      (cases (certain n limit s.read s.hits))

-- at the end of a list the answer is certain
certain-end : (n : ℕ) (limit : Float) (h : ℕ) → certain n limit n h ≡ true
unfolding certain
certain-end n limit h = let e : h + (n - n) ≡ h = omega arith in ap (λ (k : ℕ). allowed n limit h || not (allowed n limit k)) e ∙ go (allowed n limit h)
  where
    go : (b : Bool) → (b || not b) ≡ true
    go true = refl
    go false = refl

-- ---- the answer of a call that was accepted
answer-parts : (a : Admission) (x : WithinAnswer) (j : LimitTest) → or_judged a x ≡ Ok j → (a ≡ accepted) × (x ≡ Ok j)
answer-parts (Ok _) x j e = (refl, e)
answer-parts (Err r) x j e = absurd (true≢false (ap is_judged (sym e)))

module _ (E : EdgeList) (t row col : ℕ) (B : Board) (limit : Float) where
  abbrev r : ℕ
  r = read_to E t row col B limit

  abbrev stops : ℕ → Bool
  stops = stops_at E t row col B limit

  -- before the stop nothing is certain and no edge is bad
  before-open : (i : ℕ) → i < r → certain_after E t row col B limit i ≡ false
  unfolding read_to stops_at
  before-open i l = (or-false (certain_after E t row col B limit i) _ (first-before stops (size E) i l)).0

  before-good : (i : ℕ) → i < r → fault_at E i ≡ 0
  unfolding read_to
  before-good i l = none_here E t row col B limit i (first-before stops (size E) i l)

  read-inside : r ≤ size E
  unfolding read_to
  read-inside = first-le stops (size E)

  -- at the stop the answer is certain, or the edge is bad
  at-stop : certain_after E t row col B limit r ≡ false → (r < size E) × (fault_at E r ≡ 0 → ⊥)
  unfolding read_to stops_at
  at-stop e = ⊎_elim
      (λ l. (l, λ z. ⊎_elim (λ c. clash c e) (λ f. clash (eq-eqb (fault_at E r) 0 z) (not-true _ f)) (or-true (certain_after E t row col B limit r) _ (first_passes stops (size E) l))))
      (λ l. let q : r ≡ size E = omega (arith, read-inside) in clash (rw q (certain-end (size E) limit (hits_to E t row col B (size E)))) e)
      (compared r (size E))

  -- THE NUMBER READ IS THE LEAST: after what was read the answer is certain, and after fewer edges it is not
  pub least-read : (j : LimitTest) → within_answer E t row col B limit ≡ Ok j → LeastRead E t row col B limit j
  unfolding within_answer judged_of stop_of
  least-read j e =
      let a = answer-parts (within_admission E t row col B limit) (judged_of E t row col B limit) j e in
      let k = told-judged E limit (stop_of E t row col B limit) j a.1 in
      rw k.1 (record { inside = read-inside; enough = k.0; not_before = before-open; good = before-good; answer = refl })

  -- A BAD EDGE IS REFUSED ONLY WHERE IT IS REACHED: by its number and its place, and no answer was certain before it
  pub reached : within_admission E t row col B limit ≡ accepted → (x : Refusal) → within_answer E t row col B limit ≡ Err x
      → (p : ℕ) × (x ≡ edge_refusal (fault_at E p) list.Only p) × Reached E t row col B limit p
  unfolding within_answer judged_of stop_of
  reached h x e =
      let f : concluded E limit (stop_of E t row col B limit) ≡ Err x = ap (λ (a : Admission). or_judged a (judged_of E t row col B limit)) (sym h) ∙ e in
      let k = told-refused E limit (stop_of E t row col B limit) x f in
      let s = at-stop k.0 in
      (r, k.1, record { inside = s.0; bad = s.1; undecided = λ i l. ⊎_elim (λ m. before-open i m) (λ m. let q : i ≡ r = omega arith in rw q k.0) (compared i r); good = before-good })

  -- a judged call was accepted
  pub judged-accepted : (j : LimitTest) → within_answer E t row col B limit ≡ Ok j → within_admission E t row col B limit ≡ accepted
  unfolding within_answer
  judged-accepted j e = (answer-parts (within_admission E t row col B limit) (judged_of E t row col B limit) j e).0

  -- ---- what is certain is so of the full list
  module _ (few : size E ≤ 8192) (limited : in_range one_f limit ≡ true) where
    certain-tells : (i : ℕ) → i ≤ size E → certain_after E t row col B limit i ≡ true → allowed (size E) limit (hits_to E t row col B i) ≡ allowed (size E) limit (hits B E t row col)
    unfolding certain hits_to hits
    certain-tells i l e =
        let p = hit B E t row col in
        let lo = hits-least p i (size E) l in
        let hi = hits-most p i (size E) l in
        ⊎_elim
        (λ y. y ∙ sym (more-allowed (size E) limit (count i p) (count (size E) p) few limited lo (count-le p (size E)) y))
        (λ y. y ∙ sym (fewer-not (size E) limit (count (size E) p) (count i p + (size E - i)) few limited hi (omega (arith, count-le p i)) (no (allowed (size E) limit (count i p)) (allowed (size E) limit (count i p + (size E - i))) y e)))
        (cases (allowed (size E) limit (count i p)))
      where
        no : (a b : Bool) → a ≡ false → (a || not b) ≡ true → b ≡ false
        no true b f g = clash refl f
        no false true f g = clash g refl
        no false false f g = refl

  -- the answer is of all edges, also where some were not read
  pub of-all-edges : (j : LimitTest) → within_answer E t row col B limit ≡ Ok j → j.within ≡ allowed (size E) limit (hits B E t row col)
  of-all-edges j e =
      let L = least-read j e in
      let a = within-accepted E t row col B limit (judged-accepted j e) in
      L.answer ∙ certain-tells a.columns.few a.limited j.read L.inside L.enough

  -- ---- a list that match statistics take
  abbrev counted_of : StatsAnswer → MatchStats → MatchStats
  counted_of (Ok s) d = s
  counted_of (Err x) d = d

  abbrev is_counted : StatsAnswer → Bool
  is_counted (Ok s) = true
  is_counted (Err x) = false

  stats-parts : (s : MatchStats) → stats_answer E t row col B ≡ Ok s → (stats_admission E t row col B ≡ accepted) × (s ≡ stats_of E t row col B)
  unfolding stats_answer
  stats-parts s e = go (stats_admission E t row col B) e
    where
      go : (a : Admission) → or_counted a (stats_of E t row col B) ≡ Ok s → (a ≡ accepted) × (s ≡ stats_of E t row col B)
      go (Ok _) h = (refl, sym (ap (λ (x : StatsAnswer). counted_of x s) h))
      go (Err x) h = absurd (true≢false (ap is_counted (sym h)))

  -- its rate is the one that is held to the limit
  pub stats-allowed : (s : MatchStats) → stats_answer E t row col B ≡ Ok s → allowed (size E) limit (hits B E t row col) ≡ le s.error_rate limit
  unfolding allowed stats_of
  stats-allowed s e = ap (λ (x : MatchStats). le x.error_rate limit) (sym (stats-parts s e).1)

  -- it is accepted here too
  pub stats-admitted : (s : MatchStats) → stats_answer E t row col B ≡ Ok s → in_range one_f limit ≡ true → within_admission E t row col B limit ≡ accepted
  unfolding within_admission first_found first_of or_else settings_findings
  stats-admitted s e h =
      let k = stats-tests-of E t row col B (stats-parts s e).0 in
      rw (k.list.lengths, k.list.sizes, k.transform, k.tables, k.origin, h) refl

  -- and none of its edges is bad
  stats-good : (s : MatchStats) → stats_answer E t row col B ≡ Ok s → (i : ℕ) → i < size E → fault_at E i ≡ 0
  unfolding first_bad_coordinate first_bad_byte first_bad_confidence
  stats-good s e i l =
      let k = (stats-tests-of E t row col B (stats-parts s e).0).list in
      let m = same_length E k.lengths in
      let c = or-false (far_at E.rows i) (far_at E.cols i) (first-none (bad_coordinate E.rows E.cols) (size E) (ltb-false _ _ k.coordinates) i l) in
      no-fault (edge_at E i) (get_or E.confidences i nan) (record {
        row = c.0;
        col = c.1;
        orientation = first-none (bad_byte 1 E.orientations) (length E.orientations) (ltb-false _ _ k.orientations) i (omega (arith, m.0));
        bit = first-none (bad_byte 1 E.bits) (length E.bits) (ltb-false _ _ k.bits) i (omega (arith, m.1));
        confidence = not-false _ (first-none (bad_confidence E.confidences) (length E.confidences) (ltb-false _ _ k.confidences) i (omega (arith, m.2)));
      })

  -- AS MATCH STATISTICS: of a list that they take the answer is yes exactly where their rate is at most the limit
  pub as-match-stats : (s : MatchStats) → stats_answer E t row col B ≡ Ok s → in_range one_f limit ≡ true
      → within_answer E t row col B limit ≡ Ok (record { within = le s.error_rate limit; read = read_to E t row col B limit })
  unfolding within_answer judged_of stop_of
  as-match-stats s e h =
      let a = stats-admitted s e h in
      let c : certain_after E t row col B limit r ≡ true = ⊎_elim (λ y. y) (λ y. let z = at-stop y in absurd (z.1 (stats-good s e r z.0))) (cases (certain_after E t row col B limit r)) in
      let w = judged-when E limit (stop_of E t row col B limit) c in
      let k : within_answer E t row col B limit ≡ Ok (record { within = allowed (size E) limit (hits_to E t row col B r); read = r }) = ap (λ (x : Admission). or_judged x (judged_of E t row col B limit)) a ∙ w in
      k ∙ ap (λ (b : Bool). Ok (record { within = b; read = r })) (of-all-edges _ k ∙ stats-allowed s e)

-- ---- lists that agree on what was read
module _ (E F : EdgeList) (t row col : ℕ) (B : Board) (limit : Float) (m : ℕ) (same : Agree m E F) where
  agree-hits : (i : ℕ) → i ≤ m → hits_to F t row col B i ≡ hits_to E t row col B i
  unfolding hits_to
  agree-hits i l = fold-ext ◌+◌ 0 i (hit B F t row col) (hit B E t row col) one one (λ k h. here k (omega arith)) (λ k h. refl)
    where
      here : (k : ℕ) → k < m → hit B F t row col k ≡ hit B E t row col k
      here k h = sym (hit-edge B F t row col k) ∙ ap (λ (e : Edge). edge_hit B e (record { transform = t; row = row; col = col })) (same.edge k h) ∙ hit-edge B E t row col k

  agree-certain : (i : ℕ) → i ≤ m → certain_after F t row col B limit i ≡ certain_after E t row col B limit i
  agree-certain i l = ap₂ (λ (n h : ℕ). certain n limit i h) same.size (agree-hits i l)

  agree-fault : (i : ℕ) → i < m → fault_at F i ≡ fault_at E i
  agree-fault i l = ap₂ fault_of (same.edge i l) (same.confidence i l)

-- NOTHING ELSE WAS READ: a list of the same length that agrees on the edges read has the same answer, whatever stands in its other edges
pub nothing-else-read : (E F : EdgeList) (t row col : ℕ) (B : Board) (limit : Float) (j : LimitTest) → within_answer E t row col B limit ≡ Ok j → Agree j.read E F
    → within_admission F t row col B limit ≡ accepted → within_answer F t row col B limit ≡ Ok j
unfolding within_answer judged_of stop_of read_to stops_at
nothing-else-read E F t row col B limit j e same h =
    let L = least-read E t row col B limit j e in
    let m = j.read in
    let c : certain_after F t row col B limit m ≡ true = agree-certain E F t row col B limit m same m (omega arith) ∙ L.enough in
    let q : read_to F t row col B limit ≡ m = first-least (stops_at F t row col B limit) (size F) m (omega (arith, L.inside, same.size))
    (λ i l. neither (certain_after F t row col B limit i) (fault_at F i) (agree-certain E F t row col B limit m same i (omega arith) ∙ L.not_before i l) (agree-fault E F t row col B limit m same i l ∙ L.good i l))
    (λ l. either (certain_after F t row col B limit m) (not (eqb (fault_at F m) 0)) c) in
    let s : stop_of F t row col B limit ≡ record { read = m; hits = hits_to F t row col B m } = ap (λ (k : ℕ). record { read = k; hits = hits_to F t row col B k }) q in
    let w = judged-when F limit (record { read = m; hits = hits_to F t row col B m }) c in
    let b : allowed (size F) limit (hits_to F t row col B m) ≡ j.within = ap₂ (λ (n k : ℕ). allowed n limit k) same.size (agree-hits E F t row col B limit m same m (omega arith)) ∙ sym L.answer in
    ap (λ (x : Admission). or_judged x (judged_of F t row col B limit)) h ∙ ap (concluded F limit) s ∙ w ∙ ap (λ (x : Bool). Ok (record { within = x; read = m })) b
  where
    neither : (a : Bool) (k : ℕ) → a ≡ false → k ≡ 0 → (a || not (eqb k 0)) ≡ false
    neither a k p z = rw (p, eq-eqb k 0 z) refl

    either : (a b : Bool) → a ≡ true → (a || b) ≡ true
    either a b p = rw p refl

-- ---- nothing to read
module _ (E : EdgeList) (t row col : ℕ) (B : Board) (limit : Float) (h : within_admission E t row col B limit ≡ accepted) where
  -- an answer that is certain at once
  at_once : (b : Bool) → certain_after E t row col B limit 0 ≡ true → allowed (size E) limit (hits_to E t row col B 0) ≡ b → within_answer E t row col B limit ≡ Ok (record { within = b; read = 0 })
  unfolding within_answer judged_of stop_of read_to stops_at
  at_once b c q =
      let z : read_to E t row col B limit ≡ 0 = first-least (stops_at E t row col B limit) (size E) 0 (omega arith) (λ i l. absurd (omega arith)) (λ l. rw c refl) in
      let s : stop_of E t row col B limit ≡ record { read = 0; hits = hits_to E t row col B 0 } = ap (λ (k : ℕ). record { read = k; hits = hits_to E t row col B k }) z in
      ap (λ (x : Admission). or_judged x (judged_of E t row col B limit)) h ∙ ap (concluded E limit) s ∙ judged-when E limit (record { read = 0; hits = hits_to E t row col B 0 }) c
      ∙ ap (λ (x : Bool). Ok (record { within = x; read = 0 })) q

  -- THE EMPTY LIST answers by rate 1
  pub empty-by-one : size E ≡ 0 → within_answer E t row col B limit ≡ Ok (record { within = le one_f limit; read = 0 })
  unfolding allowed
  empty-by-one z = at_once (le one_f limit) (rw z (certain-end 0 limit (hits_to E t row col B 0))) (ap (λ (x : Float). le x limit) (rate-none (size E) (hits_to E t row col B 0) z))

  -- WITH THE LIMIT 1 nothing is read: every rate is within it
  pub one-reads-nothing : limit ≡ one_f → within_answer E t row col B limit ≡ Ok (record { within = true; read = 0 })
  unfolding certain
  one-reads-nothing q =
      let f = (within-accepted E t row col B limit h).columns.few in
      let a : allowed (size E) limit (hits_to E t row col B 0) ≡ true = ap (λ (x : Float). allowed (size E) x (hits_to E t row col B 0)) q ∙ one-allows (size E) (hits_to E t row col B 0) f in
      at_once true (rw a refl) a
