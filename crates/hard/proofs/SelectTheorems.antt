-- The selection on one list in terms of board's hits: a placing is a list position with the key of an origin, and its hits are counted edge by edge.
use Rattle.std.proofs.Math.Path.{◌≡◌, refl, sym}
use Rattle.std.proofs.Common.{ap, subst, ◌∙◌, le_of_eq, arith}
use Rattle.std.specs.Prelude.{Bool, cond, List, ℕ, ◌*◌, ◌/◌, ◌%◌, ◌≤◌, ◌<◌, length, Float, Err, None, Ok, Some}
use Rattle.std.proofs.Math.Bool.{true, false}
use Rattle.std.proofs.Math.Nat.{le_trans}
use Rattle.std.proofs.Math.ListN.{get_or}
use Rattle.laws.specs.Tests.{clash}
use Rattle.board.specs.Hits.{EdgeList, Board, size, hits}
use Rattle.board.specs.Sides.{period_of}
use Rattle.board.specs.Domain.{ListOk, BoardOk}
use Rattle.tables.specs.TablesTheorems.{key-hits}
use Rattle.best.specs.CellTables.{CellTables, TablesOk}
use Rattle.figures.specs.Gate.{passed}
use Rattle.scan.specs.Scan.{over_limit, chosen}
use Rattle.hard.specs.Placings.{not-far-ahead, found, Right, Sole, MostOther}
use Rattle.hard.specs.PlacingsLaws.{right-ext, sole-only, most-other-ext}
use Rattle.hard.specs.OneList.{hits_of, key_at, origin_number, outcome_of, InRange}
use Rattle.hard.specs.OneListLaws.{one_list_lem, runner-up-exists, choice-in-range, choice-most, reported}
use Rattle.scan.specs.declared.scan.Candidate.{Candidate}
use Rattle.scan.specs.declared.scan.RunnerUp.{RunnerUp}
use Rattle.scan.specs.Kinds.{Choice}
use Rattle.refusals.specs.declared.Refusal.{Refusal}
use Rattle.refusals.specs.Numbers.{numbered}
use Rattle.refusals.specs.Numbers as why
use Rattle.figures.specs.Figures.{total_confidence, no_confidence}
use Rattle.hard.specs.Select.{tables_of, scan_of, of_choice, or_refused, selection}
use Rattle.grid.specs.BoardGrid.{period-h, period-v}
use Rattle.hard.specs.SelectLaws.{tables-ok}

-- the hits of the origin with the key k under the transform at list position p, counted edge by edge: k stands for row k / 3 M and column k mod 3 M
abbrev pub hits_at_key : Board → EdgeList → List ℕ → ℕ → ℕ → ℕ
hits_at_key B E ts p k = hits B E (get_or ts p 0) (k / (3 * period_of B false)) (k % (3 * period_of B false))

-- ---- from a selection to the choice behind it
of-selected : (x : Choice) (w : Candidate) (r : RunnerUp) → of_choice x ≡ Ok (w, r) → x ≡ Some (w, r)
of-selected None w r e = let z : ◌≡◌ {A = ℕ} 0 1 = cc in absurd (omega arith)
of-selected (Some (c, q)) w r e = cc

of-not-10 : (x : Choice) → of_choice x ≡ Err (numbered why.no_confidence) → ⊥
of-not-10 None e = let z : numbered why.none_within_limit ≡ numbered why.no_confidence = cc in let n : why.none_within_limit ≡ why.no_confidence = ap (λ (r : Refusal). r.number) z in omega arith
of-not-10 (Some (c, q)) e = let z : ◌≡◌ {A = ℕ} 0 1 = cc in omega arith

module _ (B : Board) (E : EdgeList) (ts : List ℕ) (limit : Float) where
  -- 10 exactly when the total confidence is 0
  pub refuses-10 : (selection B E ts limit ≡ Err (numbered why.no_confidence) → no_confidence E ≡ true) × (no_confidence E ≡ true → selection B E ts limit ≡ Err (numbered why.no_confidence))
  unfolding selection
  refuses-10 = (λ e. go (no_confidence E) refl e, λ h. rw h)
    where
      go : (b : Bool) → no_confidence E ≡ b → or_refused b (chosen (scan_of B E ts limit (length ts))) ≡ Err (numbered why.no_confidence) → no_confidence E ≡ true
      go true q e = q
      go false q e = absurd (of-not-10 (chosen (scan_of B E ts limit (length ts))) e)

  -- else it is what the scan chose
  pub selection-is : no_confidence E ≡ false → selection B E ts limit ≡ of_choice (chosen (scan_of B E ts limit (length ts)))
  unfolding selection
  selection-is h = rw h

  pub selected-chosen : (w : Candidate) (r : RunnerUp) → selection B E ts limit ≡ Ok (w, r) → (no_confidence E ≡ false) × (chosen (scan_of B E ts limit (length ts)) ≡ Some (w, r))
  unfolding selection
  selected-chosen w r e = go (no_confidence E) refl e
    where
      go : (b : Bool) → no_confidence E ≡ b → or_refused b (chosen (scan_of B E ts limit (length ts))) ≡ Ok (w, r) → (no_confidence E ≡ false) × (chosen (scan_of B E ts limit (length ts)) ≡ Some (w, r))
      go true q e = let z : ◌≡◌ {A = ℕ} 0 1 = cc in absurd (omega arith)
      go false q e = (q, of-selected (chosen (scan_of B E ts limit (length ts))) w r e)

  module _ (board : BoardOk B) (list : ListOk E) (few : length ts ≤ 8) where
    abbrev L : ℕ
    L = period_of B true

    abbrev M : ℕ
    M = period_of B false

    abbrev tab : ℕ → CellTables
    tab p = tables_of B E (get_or ts p 0)

    all-ok : (p : ℕ) → p < length ts → TablesOk L M (size E) (tab p)
    all-ok p h = tables-ok B E (get_or ts p 0) board list

    -- the tables' hits are board's
    counted : (p k : ℕ) → hits_of L M tab p k ≡ hits_at_key B E ts p k
    unfolding tables_of
    counted p k = sym (key-hits B E (get_or ts p 0) board k)

    -- ONE LIST, BY HITS ALONE: what the scan chose, with the gate, is the right outcome (Placings.antt: 11 exactly when no placing is within the limit, 13 exactly
    -- when some are but none is ahead of every other by more than its own misses, else that one placing, its hits and the most hits of any other)
    pub one-list-by-hits : Right (length ts) (origin_number L M) (size E) limit (hits_at_key B E ts) (outcome_of M (size E) (chosen (scan_of B E ts limit (length ts))))
    unfolding scan_of
    one-list-by-hits =
        right-ext (length ts) (origin_number L M) (size E) limit (hits_of L M tab) (hits_at_key B E ts) (λ p k hp hk. counted p k) (outcome_of M (size E) (chosen (scan_of B E ts limit (length ts))))
        (one_list_lem L M (size E) (total_confidence E) limit (λ p. get_or ts p 0) tab (length ts) (period-h B board) (period-v B board) few all-ok)

    -- a winner and its runner-up are placings of the list
    pub selected-in-range : (w : Candidate) (r : RunnerUp) → selection B E ts limit ≡ Ok (w, r) → InRange L M (size E) (total_confidence E) limit (λ p. get_or ts p 0) tab (length ts) w r
    unfolding scan_of
    selected-in-range w r e =
        choice-in-range L M (size E) (total_confidence E) limit (λ p. get_or ts p 0) tab (length ts) (period-h B board) (period-v B board) few all-ok w r (selected-chosen w r e).1

    -- a winner has the hits that it says, and no placing within the limit has more
    pub selected-most : (w : Candidate) (r : RunnerUp) → selection B E ts limit ≡ Ok (w, r)
        → (hits_at_key B E ts w.placing.listed (key_at M w.placing.row w.placing.col) ≡ w.hits) × ((p k : ℕ) → p < length ts → k < origin_number L M → over_limit (size E) limit (hits_at_key B E ts p k) ≡ false → hits_at_key B E ts p k ≤ w.hits)
    unfolding scan_of
    selected-most w r e =
        let m = choice-most L M (size E) (total_confidence E) limit (λ p. get_or ts p 0) tab (length ts) (period-h B board) (period-v B board) few all-ok w r (selected-chosen w r e).1 in (
          sym (counted w.placing.listed (key_at M w.placing.row w.placing.col)) ∙ m.0,
          λ p k hp hk h. le_trans (le_of_eq (sym (counted p k))) (m.1 p k hp hk (ap (over_limit (size E) limit) (counted p k) ∙ h)),
        )

    abbrev none : ℕ
    none = origin_number L M

    abbrev SoleOne : ℕ → ℕ → Type 0
    SoleOne = Sole (length ts) none (size E) limit (hits_at_key B E ts)

    -- a winner that passes the gate is the right one
    pub selected-right : (w : Candidate) (r : RunnerUp) → selection B E ts limit ≡ Ok (w, r) → passed (size E) w.hits r.hits ≡ true
        → SoleOne w.placing.listed (key_at M w.placing.row w.placing.col) × (w.hits ≡ hits_at_key B E ts w.placing.listed (key_at M w.placing.row w.placing.col)) × MostOther (length ts) none (size E) limit (hits_at_key B E ts) w.placing.listed (key_at M w.placing.row w.placing.col) r.hits
    selected-right w r e g = rw g at (subst (λ (x : Choice). Right (length ts) none (size E) limit (hits_at_key B E ts) (outcome_of M (size E) x)) (selected-chosen w r e).1 one-list-by-hits)

    -- and its runner-up names another placing with as many hits as it says
    pub selected-runner-up : (w : Candidate) (r : RunnerUp) → selection B E ts limit ≡ Ok (w, r) → passed (size E) w.hits r.hits ≡ true
        → (p : ℕ) × (p < length ts) × (get_or ts p 0 ≡ r.transform) × ((p ≡ w.placing.listed) × (key_at M r.row r.col ≡ key_at M w.placing.row w.placing.col) → ⊥) × (hits_at_key B E ts p (key_at M r.row r.col) ≡ r.hits)
    unfolding scan_of
    selected-runner-up w r e g =
        let n = (reported L M (size E) (total_confidence E) limit (λ p. get_or ts p 0) tab (length ts) (period-h B board) (period-v B board) few all-ok w r (selected-chosen w r e).1 g).named in
        (n.0, n.1, n.2, n.4, sym (counted n.0 (key_at M r.row r.col)) ∙ n.5)

    -- passed by the gate or not, a winner's runner-up has the most hits of any other placing: "In the domain a runner-up always exists"
    pub selected-most-other : (w : Candidate) (r : RunnerUp) → selection B E ts limit ≡ Ok (w, r)
        → MostOther (length ts) none (size E) limit (hits_at_key B E ts) w.placing.listed (key_at M w.placing.row w.placing.col) r.hits
    unfolding scan_of
    selected-most-other w r e =
        most-other-ext (length ts) none (size E) limit (hits_of L M tab) (hits_at_key B E ts) (λ p k hp hk. counted p k) w.placing.listed (key_at M w.placing.row w.placing.col) r.hits
        (runner-up-exists L M (size E) (total_confidence E) limit (λ p. get_or ts p 0) tab (length ts) (period-h B board) (period-v B board) few all-ok w r (selected-chosen w r e).1)

    -- a placing that is sole is selected, and passes the gate
    pub sole-selected : no_confidence E ≡ false → (p k : ℕ) → SoleOne p k
        → (w : Candidate) × (r : RunnerUp) × (selection B E ts limit ≡ Ok (w, r)) × (passed (size E) w.hits r.hits ≡ true) × (p ≡ w.placing.listed) × (k ≡ key_at M w.placing.row w.placing.col)
    sole-selected h p k S = go (chosen (scan_of B E ts limit (length ts))) refl one-list-by-hits
      where
        only : (w : Candidate) (r : RunnerUp) (t : Bool) → passed (size E) w.hits r.hits ≡ t → chosen (scan_of B E ts limit (length ts)) ≡ Some (w, r)
            → Right (length ts) none (size E) limit (hits_at_key B E ts) (cond t (found w.placing.listed (key_at M w.placing.row w.placing.col) w.hits r.hits) not-far-ahead)
            → (w : Candidate) × (r : RunnerUp) × (selection B E ts limit ≡ Ok (w, r)) × (passed (size E) w.hits r.hits ≡ true) × (p ≡ w.placing.listed) × (k ≡ key_at M w.placing.row w.placing.col)
        only w r true g e R =
            let o = sole-only (length ts) none (size E) limit (hits_at_key B E ts) p k w.placing.listed (key_at M w.placing.row w.placing.col) S R.0 in
            (w, r, selection-is h ∙ ap of_choice e, g, o.0, o.1)
        only w r false g e R = absurd (R.1 p k S)

        go : (x : Choice) → chosen (scan_of B E ts limit (length ts)) ≡ x → Right (length ts) none (size E) limit (hits_at_key B E ts) (outcome_of M (size E) x)
            → (w : Candidate) × (r : RunnerUp) × (selection B E ts limit ≡ Ok (w, r)) × (passed (size E) w.hits r.hits ≡ true) × (p ≡ w.placing.listed) × (k ≡ key_at M w.placing.row w.placing.col)
        go None e R = clash (R p k S.listed S.key) S.allowed
        go (Some (w, r)) e R = only w r (passed (size E) w.hits r.hits) refl e R
