-- C-20, one list, in terms of placings: what is selected is the winner over the part (`part-winner`), there is only one (`part-winner-once`), what is shown beside it is the
-- runner-up, and none is shown only where the part has one placing.
use Rattle.part_select.specs.Kinds.{PartSelection}
use Rattle.std.proofs.Math.Path.{◌≡◌, refl, ap₂}
use Rattle.std.proofs.Common.{sym, ap, subst, ◌∙◌}
use Rattle.std.specs.Prelude.{Bool, List, ℕ, ◌+◌, ◌*◌, ◌/◌, ◌%◌, ◌^◌, ◌≤◌, ◌<◌, get_or, length, Float, Err, None, Ok, Some}
use Rattle.std.proofs.Math.Bool.{true, false, cond, ◌&&◌}
use native.Mathlib.Omega.{arith}
use Rattle.laws.specs.Tests.{and-true}
use Rattle.laws.specs.Words.{fold}
use Rattle.refusals.specs.Numbers.{numbered}
use Rattle.refusals.specs.Numbers as why
use Rattle.board.specs.declared.edge.Placing.{Placing}
use Rattle.board.specs.Hits.{EdgeList, Board, size, hit, hits, hits_at}
use Rattle.board.specs.Sides.{period_of}
use Rattle.board.specs.Domain.{ListOk, BoardOk}
use Rattle.board.proofs.HitsLaws.{hits-le}
use Rattle.scan.specs.Pairs.{ok-first, ok-second}
use Rattle.scan.specs.Scan.{over_limit}
use Rattle.hard.specs.RateLaws.{fewer-over}
use Rattle.unit_terms.specs.Values.{one_hit}
use Rattle.units.specs.Units.{unit_at}
use Rattle.values.specs.Values.{hits_of, weight_of}
use Rattle.exact_scan.specs.declared.kept.ExactWinner.{ExactWinner}
use Rattle.exact.specs.Select.{no_units}
use Rattle.exact.specs.Winner.{weight_at}
use Rattle.demand.specs.Demand.{Same}
use Rattle.part.specs.declared.Part.{Part}
use Rattle.part.specs.Part.{InSide, OnPart, PartOk, runs_of, in_runs}
use Rattle.part.specs.PartLaws.{runs-in, in-runs, side-below, side-one}
use Rattle.part_scan.specs.declared.kept.Offer.{Offer}
use Rattle.part_scan.specs.declared.kept.PartKept.{PartKept}
use Rattle.part_scan.specs.declared.kept.PartKept.TheVariants.{Nobody, One, Two}
use Rattle.part_scan.specs.Kept.{walked, Wins, RunsUp, Leads}
use Rattle.part_scan.specs.KeptTheorems.{walk-leads}
use Rattle.part_scan.specs.Walk.{row_at, col_at, in_both}
use Rattle.part_select.specs.Kinds.{PartNext}
use Rattle.part_select.specs.Select.{placing_of, list_value, part_scan_of, winner_of, finished_with, part_finished, part_scan, part_selection}
use Rattle.part_select.proofs.SelectLaws.{hits_below, weight_below, number-value, number-weight, value-hits, value-weight}
use Rattle.part_select.specs.PartWinner.{NoLater, IsPartWinner, IsPartNext}

-- ---- only one placing is the winner
pub part-winner-once : (B : Board) (E : EdgeList) (ts : List ℕ) (part : Part) (P Q : Placing) → IsPartWinner B E ts part P → IsPartWinner B E ts part Q → Same P Q
part-winner-once B E ts part P Q p q =
    let h : hits_at B E ts P ≡ hits_at B E ts Q = omega (arith, p.most_hits Q q.on_part, q.most_hits P p.on_part) in
    let w : weight_at B E ts P ≡ weight_at B E ts Q = omega (arith, p.most_weight Q q.on_part (sym h), q.most_weight P p.on_part h) in
    same_place P Q (p.earliest Q q.on_part (sym h) (sym w)) (q.earliest P p.on_part h w)
  where
    same_place : (P Q : Placing) → NoLater P Q → NoLater Q P → Same P Q
    same_place P Q a b =
        let l : P.listed ≡ Q.listed = omega (arith, a.listed, b.listed) in
        let r : P.row ≡ Q.row = omega (arith, a.row (sym l), b.row l) in
        let c : P.col ≡ Q.col = omega (arith, a.col (sym l) (sym r), b.col l r) in
        (l, r, c)

-- ---- the start of a part, and a part of one placing
-- a part in range has a placing wherever a transform is listed: its start
pub start-on : (ts : List ℕ) (part : Part) → PartOk part → (p : ℕ) → p < length ts → OnPart ts part (record { listed = p; row = part.row; col = part.col })
start-on ts part ok p l = (l, ((0, ok.down.some, first_of part.row ok.down.begins), (0, ok.across.some, first_of part.col ok.across.begins)))
  where
    first_of : (x : ℕ) → x ≤ 500 → x ≡ (x + 0) % 501
    first_of x l = omega arith

-- a part of one origin, where one transform is listed, has one placing
pub one-origin : (ts : List ℕ) (part : Part) → PartOk part → length ts ≡ 1 → part.rows ≡ 1 → part.cols ≡ 1 → (P Q : Placing) → OnPart ts part P → OnPart ts part Q → Same P Q
one-origin ts part ok one r c P Q p q = (omega (arith, p.0, q.0, one), row_of P p ∙ sym (row_of Q q), col-of P p ∙ sym (col-of Q q))
  where
    row_of : (R : Placing) → OnPart ts part R → R.row ≡ part.row
    row_of R o = side-one part.row R.row ok.down.begins (subst (λ (k : ℕ). InSide part.row k R.row) r o.1.0)

    col-of : (R : Placing) → OnPart ts part R → R.col ≡ part.col
    col-of R o = side-one part.col R.col ok.across.begins (subst (λ (k : ℕ). InSide part.col k R.col) c o.1.1)

-- ---- a placing and its number
abbrev number_of : Placing → ℕ
number_of P = P.listed * 251001 + P.row * 501 + P.col

-- the parts of a number
number-parts : (l r c : ℕ) → r < 501 → c < 501 → ((l * 251001 + r * 501 + c) / 251001 ≡ l) × (row_at (l * 251001 + r * 501 + c) ≡ r) × (col_at (l * 251001 + r * 501 + c) ≡ c)
number-parts l r c a b =
    let k : (l * 251001 + r * 501 + c) % 251001 ≡ r * 501 + c = omega arith in
    (omega arith, ap (λ (x : ℕ). x / 501) k ∙ omega arith, ap (λ (x : ℕ). x % 501) k ∙ omega arith)

-- put together again
number-whole : (m : ℕ) → m / 251001 * 251001 + row_at m * 501 + col_at m ≡ m
number-whole m =
    let a : m % 251001 / 501 * 501 + m % 251001 % 501 ≡ m % 251001 = pieces (m % 251001) in
    let b : m / 251001 * 251001 + m % 251001 ≡ m = omega arith in
    omega (arith, a, b)
  where
    pieces : (k : ℕ) → k / 501 * 501 + k % 501 ≡ k
    pieces k = omega arith

-- the same placing has the same number, and the same number names the same placing
same_number : (P Q : Placing) → Same P Q → number_of P ≡ number_of Q
same_number P Q (l, r, c) = omega arith

parted : (m : ℕ) (Q : Placing) → number_of Q ≡ m → (number_of Q / 251001 ≡ Q.listed) × (row_at (number_of Q) ≡ Q.row) × (col_at (number_of Q) ≡ Q.col) → Same Q (placing_of m)
unfolding placing_of
parted m Q e n = (sym n.0 ∙ ap (λ (x : ℕ). x / 251001) e, sym n.1 ∙ ap row_at e, sym n.2 ∙ ap col_at e)

-- the lower number stands no later
lower : (P Q : Placing) → P.row < 501 → P.col < 501 → Q.row < 501 → Q.col < 501 → number_of P ≤ number_of Q → NoLater P Q
lower P Q a b c d l = record { listed = omega arith; row = λ e. omega arith; col = λ e f. omega arith }

module _ (B : Board) (E : EdgeList) (ts : List ℕ) (board : BoardOk B) (list : ListOk E) (h : period_of B true ≡ 167) (v : period_of B false ≡ 167) (part : Part) (ok : PartOk part) where
  abbrev inside : ℕ → Bool
  inside = in_both (runs_of part.row part.rows) (runs_of part.col part.cols)

  abbrev val : ℕ → ℕ
  val = list_value B E ts

  abbrev all : ℕ
  all = length ts * 251001

  -- a number inside names a placing of the part
  named-on : (m : ℕ) → m < all → inside m ≡ true → OnPart ts part (placing_of m)
  unfolding placing_of in_both
  named-on m l e =
      let a = and-true (in_runs (runs_of part.row part.rows) (row_at m)) (in_runs (runs_of part.col part.cols) (col_at m)) e in
      (omega arith, (runs-in part.row part.rows ok.down (row_at m) a.0, runs-in part.col part.cols ok.across (col_at m) a.1))

  module _ (Q : Placing) (o : OnPart ts part Q) where
    row_in : Q.row < 501
    row_in = side-below part.row part.rows Q.row o.1.0

    col-in : Q.col < 501
    col-in = side-below part.col part.cols Q.col o.1.1

    P-parts : (number_of Q / 251001 ≡ Q.listed) × (row_at (number_of Q) ≡ Q.row) × (col_at (number_of Q) ≡ Q.col)
    P-parts = number-parts Q.listed Q.row Q.col row_in col-in

    -- and a placing of the part has a number inside
    number-below : number_of Q < all
    number-below = omega (arith, o.0, row_in, col-in)

    number-inside : inside (number_of Q) ≡ true
    unfolding in_both
    number-inside =
        ap₂ (λ (x y : ℕ). in_runs (runs_of part.row part.rows) x && in_runs (runs_of part.col part.cols) y) P-parts.1 P-parts.2
        ∙ ap₂ ◌&&◌ (in-runs part.row part.rows ok.down Q.row o.1.0) (in-runs part.col part.cols ok.across Q.col o.1.1)

    hits-of : hits_below B E ts board list h v (number_of Q) ≡ hits_at B E ts Q
    hits-of = ap (λ (p : ℕ). hits B E (get_or ts p 0) (row_at (number_of Q)) (col_at (number_of Q))) P-parts.0 ∙ ap₂ (λ (x y : ℕ). hits B E (get_or ts Q.listed 0) x y) P-parts.1 P-parts.2

    weight-of : weight_below B E ts board list h v (number_of Q) ≡ weight_at B E ts Q
    weight-of =
        ap (λ (p : ℕ). fold ◌+◌ 0 (size E) (hit B E (get_or ts p 0) (row_at (number_of Q)) (col_at (number_of Q))) (unit_at E)) P-parts.0
        ∙ ap₂ (λ (x y : ℕ). fold ◌+◌ 0 (size E) (hit B E (get_or ts Q.listed 0) x y) (unit_at E)) P-parts.1 P-parts.2

    -- its value is its hits and its weight
    value_of : val (number_of Q) ≡ hits_at B E ts Q * one_hit + weight_at B E ts Q
    value_of = number-value B E ts board list h v (number_of Q) ∙ ap₂ (λ (x y : ℕ). x * one_hit + y) hits-of weight-of

    weight-few : weight_at B E ts Q ≤ 2 ^ 37
    weight-few = omega (arith, weight-of, number-weight B E ts board list h v (number_of Q))

    hits-val : hits_of (val (number_of Q)) ≡ hits_at B E ts Q
    hits-val = value-hits B E ts board list h v (number_of Q) ∙ hits-of

  -- numbers: values are ordered by hits and then by weight
  more-hits : (a w b x : ℕ) → x ≤ 2 ^ 37 → a * one_hit + w ≤ b * one_hit + x → a ≤ b
  more-hits a w b x l e = omega arith

  more-weight : (a w b x : ℕ) → a ≡ b → a * one_hit + w ≤ b * one_hit + x → w ≤ x
  more-weight a w b x l e = omega arith

  -- the number of a named placing
  back : (m : ℕ) → number_of (placing_of m) ≡ m
  unfolding placing_of
  back m = number-whole m

  module _ (w : Offer) (W : Wins inside val all w) where
    abbrev P : Placing
    P = placing_of w.number

    on : OnPart ts part P
    on = named-on w.number W.under W.here

    value-is : w.value ≡ hits_at B E ts P * one_hit + weight_at B E ts P
    value-is = W.at ∙ ap val (sym (back w.number)) ∙ value_of P on

    no-greater : (Q : Placing) → OnPart ts part Q → hits_at B E ts Q * one_hit + weight_at B E ts Q ≤ hits_at B E ts P * one_hit + weight_at B E ts P
    no-greater Q o = omega (arith, value_of Q o, value-is, W.most (number_of Q) (number-below Q o) (number-inside Q o))

    -- THE FIRST NUMBER OF GREATEST VALUE NAMES THE WINNER OVER THE PART
    pub wins-part : IsPartWinner B E ts part P
    wins-part = record {
      on_part = on;
      most_hits = λ Q o. more-hits (hits_at B E ts Q) (weight_at B E ts Q) (hits_at B E ts P) (weight_at B E ts P) (weight-few P on) (no-greater Q o);
      most_weight = λ Q o e. more-weight (hits_at B E ts Q) (weight_at B E ts Q) (hits_at B E ts P) (weight_at B E ts P) e (no-greater Q o);
      earliest = λ Q o e f. lower P Q (row_in P on) (col-in P on) (row_in Q o) (col-in Q o) (omega (arith, back w.number, W.first (number_of Q) (number-below Q o) (number-inside Q o) (value_of Q o ∙ ap₂ (λ (x y : ℕ). x * one_hit + y) e f ∙ sym value-is)));
    }

    pub hits-are : hits_of w.value ≡ hits_at B E ts P
    hits-are = ap hits_of (W.at ∙ ap val (sym (back w.number))) ∙ hits-val P on

    pub weight_is : weight_of w.value ≡ weight_at B E ts P
    weight_is = ap weight_of (W.at ∙ ap val (sym (back w.number))) ∙ value-weight B E ts board list h v (number_of P) ∙ weight-of P on

    -- another placing has another number
    apart-numbers : (Q : Placing) → OnPart ts part Q → (Same Q P → ⊥) → number_of Q ≡ w.number → ⊥
    apart-numbers Q o d e = d (parted w.number Q e (P-parts Q o))

    -- THE FIRST OTHER NUMBER OF MOST HITS NAMES THE RUNNER-UP
    module _ (r : Offer) (N : RunsUp inside val all w.number r) where
      abbrev R : Placing
      R = placing_of r.number

      next-on : OnPart ts part R
      next-on = named-on r.number N.under N.here

      pub next-hits : hits_of r.value ≡ hits_at B E ts R
      next-hits = ap hits_of (N.at ∙ ap val (sym (back r.number))) ∙ hits-val R next-on

      pub next-weight : weight_of r.value ≡ weight_at B E ts R
      next-weight = ap weight_of (N.at ∙ ap val (sym (back r.number))) ∙ value-weight B E ts board list h v (number_of R) ∙ weight-of R next-on

      pub next-part : IsPartNext B E ts part P R
      next-part = record {
        on_part = next-on;
        other = λ s. N.other (sym (back r.number) ∙ same_number R P s ∙ back w.number);
        no_third = λ Q o d. omega (arith, next-hits, hits-val Q o, N.most (number_of Q) (number-below Q o) (number-inside Q o) (apart-numbers Q o d));
        earliest = λ Q o d e. lower R Q (row_in R next-on) (col-in R next-on) (row_in Q o) (col-in Q o) (omega (arith, back r.number, N.first (number_of Q) (number-below Q o) (number-inside Q o) (apart-numbers Q o d) (hits-val Q o ∙ e ∙ sym next-hits)));
      }

    -- the only number names the only placing
    pub only_part : ((k : ℕ) → k < all → inside k ≡ true → k ≡ w.number) → (Q : Placing) → OnPart ts part Q → Same Q P
    only_part only Q o = parted w.number Q (only (number_of Q) (number-below Q o) (number-inside Q o)) (P-parts Q o)

  -- ---- what is selected
  -- a kept placing is told as it is: hits, weight and place
  pub record ToldAs (P : Placing) (w : ExactWinner) : Type 0 where
    pub place : w.placing ≡ P
    pub hits : w.hits ≡ hits_at B E ts P
    pub weight : w.weight ≡ weight_at B E ts P

  -- what is shown beside the winner P: none where P is the only placing of the part, else the runner-up
  abbrev pub ShownRight : Placing → PartNext → Type 0
  ShownRight P None = (Q : Placing) → OnPart ts part Q → Same Q P
  ShownRight P (Some r) = IsPartNext B E ts part P r.placing × ToldAs r.placing r

  -- a selection that is right: the winner over the part, within the limit, and what is shown beside it
  pub record PartSelected (limit : Float) (w : ExactWinner) (next : PartNext) : Type 0 where
    pub winner : IsPartWinner B E ts part w.placing
    pub told : ToldAs w.placing w
    pub within : over_limit (size E) limit (hits_at B E ts w.placing) ≡ false
    pub shown : ShownRight w.placing next

  module _ (limit : Float) where
    -- from what is kept
    told-winner : (c : Offer) (next : PartNext) (W : Wins inside val all c) → ShownRight (placing_of c.number) next → (w : ExactWinner) (n : PartNext) → finished_with (size E) limit c next ≡ Ok (w, n) → PartSelected limit w n
    unfolding finished_with winner_of
    told-winner c next W S w n e = go (over_limit (size E) limit (hits_of c.value)) refl e
      where
        X : ExactWinner
        X = record { hits = hits_of c.value; weight = weight_of c.value; placing = placing_of c.number }

        right : over_limit (size E) limit (hits_of c.value) ≡ false → PartSelected limit X next
        right f = record {
          winner = wins-part c W;
          told = record { place = refl; hits = hits-are c W; weight = weight_is c W };
          within = ap (over_limit (size E) limit) (sym (hits-are c W)) ∙ f;
          shown = S;
        }

        go : (b : Bool) → over_limit (size E) limit (hits_of c.value) ≡ b → cond {A = PartSelection} b (Err (numbered why.none_within_limit)) (Ok (X, next)) ≡ Ok (w, n) → PartSelected limit w n
        go true f d = let z : ◌≡◌ {A = ℕ} 0 1 = cc in absurd (omega arith)
        go false f d =
            let x : X ≡ w = ok-first d in
            let y : next ≡ n = ok-second d in
            subst (λ (k : PartNext). PartSelected limit w k) y (subst (λ (k : ExactWinner). PartSelected limit k next) x (right f))

    from-kept : (K : PartKept) → Leads inside val all K → (w : ExactWinner) (n : PartNext) → part_finished (size E) limit K ≡ Ok (w, n) → PartSelected limit w n
    unfolding winner_of
    from-kept Nobody L w n e = let z : ◌≡◌ {A = ℕ} 0 1 = cc in absurd (omega arith)
    from-kept (One c) L w n e = told-winner c None L.0 (only_part c L.0 L.1) w n e
    from-kept (Two c r) L w n e =
        told-winner c (Some (record { hits = hits_of r.value; weight = weight_of r.value; placing = placing_of r.number })) L.0
        (next-part c L.0 r L.1, record { place = refl; hits = next-hits c L.0 r L.1; weight = next-weight c L.0 r L.1 }) w n e

    -- WHAT IS SELECTED IS THE WINNER OVER THE PART, WITH ITS RUNNER-UP, AND NONE IS SHOWN ONLY WHERE THERE IS NO OTHER PLACING
    pub part-winner : (w : ExactWinner) (n : PartNext) → part_selection B E ts part limit ≡ Ok (w, n) → PartSelected limit w n
    unfolding part_selection part_scan part_scan_of
    part-winner w n e = go (no_units E) e
      where
        go : (b : Bool) → cond b (Err (numbered why.no_confidence)) (part_finished (size E) limit (part_scan B E ts part)) ≡ Ok (w, n) → PartSelected limit w n
        go true d = let z : ◌≡◌ {A = ℕ} 0 1 = cc in absurd (omega arith)
        go false d = from-kept (part_scan B E ts part) (walk-leads inside val all) w n d

    -- ---- 10 and 11
    -- the start of the part, at the first list position
    abbrev start : Placing
    start = record { listed = 0; row = part.row; col = part.col }

    -- EVERY LIST HAS A WINNER OVER THE PART, with units or without
    pub part-winner-exists : 0 < length ts → (P : Placing) × IsPartWinner B E ts part P
    part-winner-exists some = go (walked inside val Nobody 0 all) (walk-leads inside val all)
      where
        go : (K : PartKept) → Leads inside val all K → (P : Placing) × IsPartWinner B E ts part P
        go Nobody L = absurd (L (number_of start) (number-below start (start-on ts part ok 0 some)) (number-inside start (start-on ts part ok 0 some)))
        go (One c) L = (placing_of c.number, wins-part c L.0)
        go (Two c r) L = (placing_of c.number, wins-part c L.0)

    -- where the winner is over the limit, all are
    over-all : (c : Offer) → Wins inside val all c → (next : PartNext) → finished_with (size E) limit c next ≡ Err (numbered why.none_within_limit) → (Q : Placing) → OnPart ts part Q → over_limit (size E) limit (hits_at B E ts Q) ≡ true
    unfolding finished_with
    over-all c W next e Q o =
        fewer-over (size E) limit (hits_at B E ts Q) (hits_at B E ts (placing_of c.number)) list.few ((wins-part c W).most_hits Q o) (hits-le B E (get_or ts (placing_of c.number).listed 0) (placing_of c.number).row (placing_of c.number).col)
        (ap (over_limit (size E) limit) (sym (hits-are c W)) ∙ go (over_limit (size E) limit (hits_of c.value)) refl e)
      where
        go : (b : Bool) → over_limit (size E) limit (hits_of c.value) ≡ b → cond {A = PartSelection} b (Err (numbered why.none_within_limit)) (Ok ((winner_of c), next)) ≡ Err (numbered why.none_within_limit) → over_limit (size E) limit (hits_of c.value) ≡ true
        go true f d = f
        go false f d = let z : ◌≡◌ {A = ℕ} 0 1 = cc in absurd (omega arith)

    -- and a winner over the limit is refused
    over-one : (c : Offer) (next : PartNext) → over_limit (size E) limit (hits_of c.value) ≡ true → finished_with (size E) limit c next ≡ Err (numbered why.none_within_limit)
    unfolding finished_with
    over-one c next t = rw t

    -- so somebody is kept
    kept-over : 0 < length ts → (K : PartKept) → Leads inside val all K → part_finished (size E) limit K ≡ Err (numbered why.none_within_limit) → (Q : Placing) → OnPart ts part Q → over_limit (size E) limit (hits_at B E ts Q) ≡ true
    unfolding finished_with
    kept-over some Nobody L e Q o = absurd (L (number_of start) (number-below start (start-on ts part ok 0 some)) (number-inside start (start-on ts part ok 0 some)))
    kept-over some (One c) L e Q o = over-all c L.0 None e Q o
    kept-over some (Two c r) L e Q o = over-all c L.0 (Some (winner_of r)) e Q o

    -- 11 ONLY WHERE NO PLACING OF THE PART IS WITHIN THE LIMIT
    pub part-11 : 0 < length ts → no_units E ≡ false → part_selection B E ts part limit ≡ Err (numbered why.none_within_limit) → (Q : Placing) → OnPart ts part Q → over_limit (size E) limit (hits_at B E ts Q) ≡ true
    unfolding part_selection part_scan part_scan_of
    part-11 some u e = kept-over some (part_scan B E ts part) (walk-leads inside val all) (rw u at e)

    -- 11 WHEREVER NO PLACING OF THE PART IS WITHIN THE LIMIT
    pub part-11-given : no_units E ≡ false → ((Q : Placing) → OnPart ts part Q → over_limit (size E) limit (hits_at B E ts Q) ≡ true) → part_selection B E ts part limit ≡ Err (numbered why.none_within_limit)
    unfolding part_selection part_scan part_scan_of
    part-11-given u over = rw u (all-over (part_scan B E ts part) (walk-leads inside val all))
      where
        one-over : (c : Offer) (next : PartNext) → Wins inside val all c → finished_with (size E) limit c next ≡ Err (numbered why.none_within_limit)
        one-over c next W = over-one c next (ap (over_limit (size E) limit) (hits-are c W) ∙ over (placing_of c.number) (wins-part c W).on_part)

        all-over : (K : PartKept) → Leads inside val all K → part_finished (size E) limit K ≡ Err (numbered why.none_within_limit)
        all-over Nobody L = refl
        all-over (One c) L = one-over c None L.0
        all-over (Two c r) L = one-over c (Some (winner_of r)) L.0

    -- WITH ONE ORIGIN AND ONE LIST POSITION NO RUNNER-UP IS SHOWN
    pub part-alone : length ts ≡ 1 → part.rows ≡ 1 → part.cols ≡ 1 → (w : ExactWinner) (n : PartNext) → part_selection B E ts part limit ≡ Ok (w, n) → n ≡ None
    part-alone one r c w n e = go n (part-winner w n e)
      where
        go : (k : PartNext) → PartSelected limit w k → k ≡ None
        go None S = refl
        go (Some s) S = absurd (S.shown.0.other (one-origin ts part ok one r c s.placing w.placing S.shown.0.on_part S.winner.on_part))
