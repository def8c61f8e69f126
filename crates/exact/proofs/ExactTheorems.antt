-- C-15, one list, in terms of placings: what is selected is the winner, with its hits and its weight (`exact-winner`); there is one (`winner-exists`) and only one (`winner-once`); 10 and 11 mean what
-- they say (`exact-10`, `exact-11`, `exact-selects`); and another placing has the runner-up's hits, and no third more (`exact-runner-up`).
use Rattle.exact_scan.specs.Kinds.{ExactSelection}
use Rattle.std.proofs.Math.Path.{◌≡◌, refl, sym, ap}
use Rattle.std.proofs.Common.{ap₂, subst, ◌∙◌, ⊎_elim, mul-le-mul_right, arith}
use Rattle.std.specs.Prelude.{Bool, List, ℕ, suc, ◌+◌, ◌*◌, ◌^◌, ◌≤◌, ◌<◌, length, Float, Err, Ok}
use Rattle.std.proofs.Math.Bool.{true, false, cond}
use Rattle.std.proofs.Math.ListN.{get_or}
use borrow.Author.Tests.{eqb-true}
use Rattle.laws.specs.Tests.{compared}
use Rattle.laws.specs.Words.{fold}
use Rattle.refusals.specs.Numbers.{numbered}
use Rattle.refusals.specs.Numbers as why
use Rattle.refusals.specs.declared.Refusal.{Refusal}
use Rattle.board.specs.declared.edge.Placing.{Placing}
use Rattle.board.specs.Hits.{EdgeList, Board, size, hit, hits, hits_at}
use Rattle.board.proofs.HitsLaws.{hits-le}
use Rattle.board.specs.Sides.{period_of}
use Rattle.board.specs.Domain.{ListOk, BoardOk}
use Rattle.grid.specs.BoardGrid.{period-h, period-v}
use Rattle.scan.specs.Pairs.{ok-first, ok-second}
use Rattle.scan.specs.Scan.{over_limit, runner_up_of}
use Rattle.scan.specs.declared.scan.RunnerUp.{RunnerUp}
use Rattle.hard.specs.OneList.{origin_number}
use Rattle.hard.specs.Placings.{MostOther}
use Rattle.hard.specs.PlacingsLaws.{most-other-ext}
use Rattle.hard.specs.RateLaws.{fewer-over, more_within}
use Rattle.hard.proofs.SelectTheorems.{hits_at_key}
use Rattle.unit_terms.specs.Values.{one_hit}
use Rattle.units.specs.Units.{unit_at}
use Rattle.units.specs.UnitsTheorems.{value-reads}
use Rattle.values.specs.Values.{hits_of, weight_of}
use Rattle.exact_scan.specs.Exact.{ValuesOk, finished_one}
use Rattle.exact_scan.specs.FirstLaws.{value_by, hits_by, First, runner-up-other, runner-up-place, runner-up-own}
use Rattle.exact_scan.specs.declared.kept.ExactScan.{ExactScan}
use Rattle.exact_scan.specs.declared.kept.ExactWinner.{ExactWinner}
use Rattle.demand.specs.Demand.{OnBoard, Same, WithinLimit, RunsUp, RunnerUpExists}
use Rattle.demand.specs.DemandLaws.{key_of, key_below, row_back, col-back, same_key, hits-key, placing-on, most-runs-up, most-exists}
use Rattle.demand.specs.Winners.{runner_at}
use Rattle.exact.specs.Select.{units_to, no_units, exact_scan_of, exact_selection}
use Rattle.exact.specs.SelectLaws.{origin-value, weight-few, origin-hits, tables-ok, tab, kept, scan-first, kept-count, selection-is}
use Rattle.exact.specs.Winner.{weight_at, IsWinner}

-- ---- only one placing is the winner
pub winner-once : (B : Board) (E : EdgeList) (ts : List ℕ) (P Q : Placing) → IsWinner B E ts P → IsWinner B E ts Q → Same P Q
winner-once B E ts P Q p q =
    let h : hits_at B E ts P ≡ hits_at B E ts Q = omega (arith, p.most_hits Q q.on-board, q.most_hits P p.on-board) in
    let w : weight_at B E ts P ≡ weight_at B E ts Q = omega (arith, p.most_weight Q q.on-board (sym h), q.most_weight P p.on-board h) in
    let l : P.listed ≡ Q.listed = omega (arith, p.earliest Q q.on-board (sym h) (sym w), q.earliest P p.on-board h w) in
    let r : P.row ≡ Q.row = omega (arith, p.first_row Q q.on-board (sym h) (sym w) (sym l), q.first_row P p.on-board h w l) in
    let c : P.col ≡ Q.col = omega (arith, p.first-col Q q.on-board (sym h) (sym w) (sym l) (sym r), q.first-col P p.on-board h w l r) in
    (l, r, c)

-- ---- numbers: values are ordered by hits and then by weight, and keys by row and then by column
more-hits : (h w g v : ℕ) → v ≤ 2 ^ 37 → h * one_hit + w ≤ g * one_hit + v → h ≤ g
more-hits h w g v l e = omega arith

more-weight : (h w g v : ℕ) → h ≡ g → h * one_hit + w ≤ g * one_hit + v → w ≤ v
more-weight h w g v l e = omega arith

apart-rows : (r c s d n : ℕ) → d < n → r * n + c ≤ s * n + d → r ≤ s
apart-rows r c s d n l e = ⊎_elim (λ g. absurd (below g)) (λ g. g) (compared s r)
  where
    below : s < r → ⊥
    below g = let m : suc s * n ≤ r * n = mul-le-mul_right n g in omega (arith, m)

same_row : (r c s d n : ℕ) → s ≡ r → r * n + c ≤ s * n + d → c ≤ d
same_row r c s d n l e = let m : s * n ≡ r * n = ap (λ (x : ℕ). x * n) l in omega (arith, m)

-- ---- an accepted list, with one to eight transforms
module _ (B : Board) (E : EdgeList) (ts : List ℕ) (board : BoardOk B) (list : ListOk E) (some : 0 < length ts) where
  abbrev L : ℕ
  L = period_of B true

  abbrev M : ℕ
  M = period_of B false

  abbrev key : Placing → ℕ
  key = key_of B board

  -- the placing that is kept
  abbrev pub P : Placing
  P = (kept B E ts board list some).placing

  F : First L M (λ p. get_or ts p 0) (tab B E ts board list some) (length ts) (kept B E ts board list some)
  F = scan-first B E ts board list some

  pub kept_on : OnBoard B ts P
  kept_on = record { in_list = F.in_list; row = F.own.row; col = F.own.col }

  -- the value of a placing is its hits and its weight
  placing-value : (Q : Placing) → OnBoard B ts Q → value_by L M (tab B E ts board list some Q.listed) (key Q) ≡ hits_at B E ts Q * one_hit + weight_at B E ts Q
  placing-value Q o =
      origin-value B E (get_or ts Q.listed 0) board list (key Q)
      ∙ ap₂ (λ (r c : ℕ). hits B E (get_or ts Q.listed 0) r c * one_hit + fold ◌+◌ 0 (size E) (hit B E (get_or ts Q.listed 0) r c) (unit_at E)) (row_back B board ts Q o) (col-back B board ts Q o)

  placing-weight : (Q : Placing) → OnBoard B ts Q → weight_at B E ts Q ≤ 2 ^ 37
  placing-weight Q o =
      subst (λ (x : ℕ). x ≤ 2 ^ 37)
      (ap₂ (λ (r c : ℕ). fold ◌+◌ 0 (size E) (hit B E (get_or ts Q.listed 0) r c) (unit_at E)) (row_back B board ts Q o) (col-back B board ts Q o))
      (weight-few B E (get_or ts Q.listed 0) board list (key Q))

  kept-value : (kept B E ts board list some).value ≡ hits_at B E ts P * one_hit + weight_at B E ts P
  kept-value = sym F.own.at ∙ placing-value P kept_on

  -- no placing's value is greater
  no-greater : (Q : Placing) → OnBoard B ts Q → hits_at B E ts Q * one_hit + weight_at B E ts Q ≤ hits_at B E ts P * one_hit + weight_at B E ts P
  no-greater Q o = subst (λ (x : ℕ). x ≤ hits_at B E ts P * one_hit + weight_at B E ts P) (placing-value Q o) (subst (λ (x : ℕ). value_by L M (tab B E ts board list some Q.listed) (key Q) ≤ x) kept-value (F.most Q.listed (key Q) o.in_list))

  -- of those with as great a value the kept one stands first
  stands-first : (Q : Placing) → OnBoard B ts Q → hits_at B E ts Q ≡ hits_at B E ts P → weight_at B E ts Q ≡ weight_at B E ts P → (P.listed ≤ Q.listed) × (Q.listed ≡ P.listed → key P ≤ key Q)
  stands-first Q o h w = F.earliest Q.listed (key Q) o.in_list (key_below B board ts Q o) (placing-value Q o ∙ ap₂ (λ (x y : ℕ). x * one_hit + y) h w ∙ sym kept-value)

  -- THE WINNER EXISTS: it is the placing that the scan keeps
  pub winner-exists : IsWinner B E ts P
  winner-exists = record {
    on-board = kept_on;
    most_hits = λ Q o. more-hits (hits_at B E ts Q) (weight_at B E ts Q) (hits_at B E ts P) (weight_at B E ts P) (placing-weight P kept_on) (no-greater Q o);
    most_weight = λ Q o h. more-weight (hits_at B E ts Q) (weight_at B E ts Q) (hits_at B E ts P) (weight_at B E ts P) h (no-greater Q o);
    earliest = λ Q o h w. (stands-first Q o h w).0;
    first_row = λ Q o h w l. apart-rows P.row P.col Q.row Q.col (3 * M) o.col ((stands-first Q o h w).1 l);
    first-col = λ Q o h w l r. same_row P.row P.col Q.row Q.col (3 * M) r ((stands-first Q o h w).1 l);
  }

  kept-hits-at : hits_of (kept B E ts board list some).value ≡ hits_at B E ts P
  kept-hits-at = ap hits_of kept-value ∙ (value-reads (hits_at B E ts P) (weight_at B E ts P) (omega (arith, placing-weight P kept_on))).0

  kept-weight-at : weight_of (kept B E ts board list some).value ≡ weight_at B E ts P
  kept-weight-at = ap weight_of kept-value ∙ (value-reads (hits_at B E ts P) (weight_at B E ts P) (omega (arith, placing-weight P kept_on))).1

  -- ---- what the selection comes to
  module _ (limit : Float) where
    abbrev over : Bool
    over = over_limit (size E) limit (hits_of (kept B E ts board list some).value)

    abbrev scan : ExactScan
    scan = exact_scan_of B E ts (length ts)

    -- what is kept, as a winner, and what the selection comes to
    abbrev W : ExactWinner
    W = let c = kept B E ts board list some in record { hits = hits_of c.value; weight = weight_of c.value; placing = c.placing }

    comes-to : exact_selection B E ts limit ≡ cond (no_units E) (Err (numbered why.no_confidence)) (cond over (Err (numbered why.none_within_limit)) (Ok (W, (runner_up_of scan.positions.summaries P.listed scan.positions.count))))
    unfolding finished_one
    comes-to = selection-is B E ts board list some limit

    -- 10 exactly when the unit sum is 0
    pub exact-10 : (exact_selection B E ts limit ≡ Err (numbered why.no_confidence) → units_to E.confidences (length E.confidences) ≡ 0) × (units_to E.confidences (length E.confidences) ≡ 0 → exact_selection B E ts limit ≡ Err (numbered why.no_confidence))
    unfolding no_units
    exact-10 = (λ e. eqb-true (units_to E.confidences (length E.confidences)) 0 (go (no_units E) over refl (sym comes-to ∙ e)), λ h. comes-to ∙ rw h)
      where
        go : (b o : Bool) → no_units E ≡ b → cond {A = ExactSelection} b (Err (numbered why.no_confidence)) (cond o (Err (numbered why.none_within_limit)) (Ok (W, (runner_up_of scan.positions.summaries P.listed scan.positions.count)))) ≡ Err (numbered why.no_confidence) → no_units E ≡ true
        go true o q e = q
        go false true q e = let z : numbered why.none_within_limit ≡ numbered why.no_confidence = cc in let n : why.none_within_limit ≡ why.no_confidence = ap (λ (r : Refusal). r.number) z in absurd (omega arith)
        go false false q e = let z : ◌≡◌ {A = ℕ} 0 1 = cc in absurd (omega arith)

    -- 11 exactly when there are units and no placing is within the limit
    pub exact-11 : no_units E ≡ false
        → (exact_selection B E ts limit ≡ Err (numbered why.none_within_limit) → (Q : Placing) → OnBoard B ts Q → over_limit (size E) limit (hits_at B E ts Q) ≡ true)
        × (((Q : Placing) → OnBoard B ts Q → over_limit (size E) limit (hits_at B E ts Q) ≡ true) → exact_selection B E ts limit ≡ Err (numbered why.none_within_limit))
    exact-11 u = (
      λ e Q o. fewer-over (size E) limit (hits_at B E ts Q) (hits_at B E ts P) list.few (winner-exists.most_hits Q o) (hits-le B E (get_or ts P.listed 0) P.row P.col) (ap (over_limit (size E) limit) (sym kept-hits-at) ∙ go over refl (rw u at (sym comes-to ∙ e))),
      λ all. comes-to ∙ rw (u, kept-hits-at, all P kept_on),
    )
      where
        go : (o : Bool) → over ≡ o → cond {A = ExactSelection} o (Err (numbered why.none_within_limit)) (Ok (W, (runner_up_of scan.positions.summaries P.listed scan.positions.count))) ≡ Err (numbered why.none_within_limit) → over ≡ true
        go true q e = q
        go false q e = let z : ◌≡◌ {A = ℕ} 0 1 = cc in absurd (omega arith)

    -- and where a placing is within the limit, one is selected
    pub exact-selects : no_units E ≡ false → (Q : Placing) → WithinLimit B E ts limit Q → (w : ExactWinner) × (r : RunnerUp) × (exact_selection B E ts limit ≡ Ok (w, r))
    exact-selects u Q q = (W, runner_up_of scan.positions.summaries P.listed scan.positions.count, comes-to ∙ rw (u, within))
      where
        within : over ≡ false
        within = ap (over_limit (size E) limit) kept-hits-at ∙ more_within (size E) limit (hits_at B E ts Q) (hits_at B E ts P) list.few (winner-exists.most_hits Q q.0) (hits-le B E (get_or ts P.listed 0) P.row P.col) q.1

    -- what is selected, off the scan
    module _ (w : ExactWinner) (r : RunnerUp) (e : exact_selection B E ts limit ≡ Ok (w, r)) where
      told : (no_units E ≡ false) × (over ≡ false) × (W ≡ w) × (runner_up_of scan.positions.summaries P.listed scan.positions.count ≡ r)
      told = go (no_units E) over refl refl (sym comes-to ∙ e)
        where
          go : (b o : Bool) → no_units E ≡ b → over ≡ o → cond {A = ExactSelection} b (Err (numbered why.no_confidence)) (cond o (Err (numbered why.none_within_limit)) (Ok (W, (runner_up_of scan.positions.summaries P.listed scan.positions.count)))) ≡ Ok (w, r)
              → (no_units E ≡ false) × (over ≡ false) × (W ≡ w) × (runner_up_of scan.positions.summaries P.listed scan.positions.count ≡ r)
          go true o q s d = let z : ◌≡◌ {A = ℕ} 0 1 = cc in absurd (omega arith)
          go false true q s d = let z : ◌≡◌ {A = ℕ} 0 1 = cc in absurd (omega arith)
          go false false q s d = (q, s, ok-first d, ok-second d)

      -- THE SELECTED PLACING IS THE WINNER, with its hits and its weight, and is within the limit
      pub exact-winner : IsWinner B E ts w.placing × (w.hits ≡ hits_at B E ts w.placing) × (w.weight ≡ weight_at B E ts w.placing) × (over_limit (size E) limit (hits_at B E ts w.placing) ≡ false)
      exact-winner =
          subst (λ (x : ExactWinner). IsWinner B E ts x.placing × (x.hits ≡ hits_at B E ts x.placing) × (x.weight ≡ weight_at B E ts x.placing) × (over_limit (size E) limit (hits_at B E ts x.placing) ≡ false)) told.2
          (winner-exists, kept-hits-at, kept-weight-at, ap (over_limit (size E) limit) (sym kept-hits-at) ∙ told.1)

      -- ---- the runner-up
      module _ (few : length ts ≤ 8) where
        abbrev runner : RunnerUp
        runner = runner_up_of scan.positions.summaries P.listed (length ts)

        runner-is : runner ≡ r
        runner-is = ap (runner_up_of scan.positions.summaries P.listed) (sym (kept-count B E ts board list some)) ∙ told.3

        abbrev all-ok : (i : ℕ) → i < length ts → ValuesOk L M (tab B E ts board list some i)
        all-ok i l = tables-ok B E (get_or ts i 0) board list

        most_other : MostOther (length ts) (origin_number L M) (size E) limit (hits_at_key B E ts) P.listed (key P) runner.hits
        unfolding exact_scan_of
        most_other =
            most-other-ext (length ts) (origin_number L M) (size E) limit (λ i k. hits_by L M (tab B E ts board list some i) k) (hits_at_key B E ts) (λ i k hi hk. origin-hits B E (get_or ts i 0) board list k) P.listed (key P) runner.hits
            (runner-up-other L M (λ p. get_or ts p 0) (tab B E ts board list some) (period-h B board) (period-v B board) (length ts) few all-ok (kept B E ts board list some) F (size E) limit)

        -- ANOTHER PLACING HAS THE RUNNER-UP'S HITS, AND NO THIRD HAS MORE
        pub exact-runner-up : RunnerUpExists B E ts w.placing r.hits
        exact-runner-up =
            subst (λ (x : ExactWinner). RunnerUpExists B E ts x.placing r.hits) told.2
            (subst (λ (x : RunnerUp). RunnerUpExists B E ts P x.hits) runner-is (most-exists B board ts E limit P runner.hits kept_on most_other))

        -- the runner-up names a listed transform and an origin on the board
        on : (p : ℕ) × (p < length ts) × (get_or ts p 0 ≡ runner.transform) × (runner.row < 3 * L) × (runner.col < 3 * M)
        unfolding exact_scan_of
        on =
            let n = runner-up-place L M (λ p. get_or ts p 0) (tab B E ts board list some) (period-h B board) (period-v B board) (length ts) few all-ok (kept B E ts board list some) F in
            let o = placing-on B board ts n.0 n.1 n.2 n.3 in
            (n.0, n.2, n.4, omega (arith, n.5, o.row), omega (arith, n.6, o.col))

        pub exact-runner-up-on : (p : ℕ) × (p < length ts) × (get_or ts p 0 ≡ r.transform) × (r.row < 3 * L) × (r.col < 3 * M)
        exact-runner-up-on = subst (λ (x : RunnerUp). (p : ℕ) × (p < length ts) × (get_or ts p 0 ≡ x.transform) × (x.row < 3 * L) × (x.col < 3 * M)) runner-is on

        -- and, where it has fewer hits than the winner, it names such a placing itself
        abbrev Named : Placing → RunnerUp → Type 0
        Named Q x = (p : ℕ) × (p < length ts) × (get_or ts p 0 ≡ x.transform) × RunsUp B E ts Q (runner_at p x) × (hits_at B E ts (runner_at p x) ≡ x.hits)

        own : runner.hits < hits_at B E ts P → Named P runner
        unfolding exact_scan_of
        own b =
            let c = kept B E ts board list some in
            let t = origin-hits B E (get_or ts P.listed 0) board list (key P) ∙ hits-key B board ts E limit P kept_on in
            let n = runner-up-own L M (λ p. get_or ts p 0) (tab B E ts board list some) (period-h B board) (period-v B board) (length ts) few all-ok c F (omega (arith, b, t)) in
            let Q = runner_at n.0 runner in
            let o : OnBoard B ts Q = record { in_list = n.1; row = on.3; col = on.4 } in
            let h = sym (hits-key B board ts E limit Q o) ∙ sym (origin-hits B E (get_or ts n.0 0) board list (key Q)) ∙ n.5 in
            (n.0, n.1, n.2, most-runs-up B board ts E limit P Q runner.hits kept_on o (λ s. n.4 (same_key B board ts Q P s)) h most_other, h)

        pub exact-runner-up-named : r.hits < w.hits → (p : ℕ) × (p < length ts) × (get_or ts p 0 ≡ r.transform) × RunsUp B E ts w.placing (runner_at p r) × (hits_at B E ts (runner_at p r) ≡ r.hits)
        exact-runner-up-named l =
            subst (λ (x : ExactWinner). Named x.placing r) told.2
            (subst (λ (x : RunnerUp). Named P x) runner-is
            (own (omega (arith, l, exact-winner.1, ap (λ (x : RunnerUp). x.hits) runner-is, ap (λ (x : ExactWinner). hits_at B E ts x.placing) told.2))))
