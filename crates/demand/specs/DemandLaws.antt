-- A placing by row and column, and by key: a lead on one list is a sole placing of hard selection, and what is reported of one list is told by placings.
use Rattle.std.specs.Prelude.{◌≡◌, refl, Bool, true, false, List, ◌⊎◌, ℕ, ◌*◌, ◌/◌, ◌%◌, ◌<◌, eqb, get_or, length, Float}
use Rattle.std.proofs.Common.{sym, ap, ap₂, ◌∙◌, inl, inr, ⊎_elim, mod-lt, div-lt_iff_lt-mul, div-add-mod', arith, eqb-true}
use Rattle.std.proofs.Math.Arith.{digits_div, digits_mod, digits_lt}
use Rattle.std.proofs.lemmas.Bool.{eqb-false}
use Rattle.board.specs.declared.edge.Placing.{Placing}
use Rattle.board.specs.Hits.{EdgeList, Board, size, hits, hits_at}
use Rattle.board.specs.Sides.{period_of}
use Rattle.board.specs.Domain.{BoardOk}
use Rattle.scan.specs.Scan.{over_limit}
use Rattle.hard.specs.Placings.{Sole, MostOther}
use Rattle.hard.specs.OneList.{origin_number, key_at}
use Rattle.hard.proofs.SelectTheorems.{hits_at_key}
use Rattle.answer.specs.declared.Square.{Square}
use Rattle.demand.specs.Demand.{OnBoard, Same, Leads, RunsUp, RunnerUpExists, Names}

-- ---- one list has one leading placing
-- two placings are the same one, or not
pub same_or_not : (P Q : Placing) → Same P Q ⊎ (Same P Q → ⊥)
same_or_not P Q = go (eqb P.listed Q.listed) (eqb P.row Q.row) (eqb P.col Q.col) refl refl refl
  where
    go : (x y z : Bool) → eqb P.listed Q.listed ≡ x → eqb P.row Q.row ≡ y → eqb P.col Q.col ≡ z → Same P Q ⊎ (Same P Q → ⊥)
    go true true true e f g = inl (eqb-true P.listed Q.listed e, eqb-true P.row Q.row f, eqb-true P.col Q.col g)
    go false y z e f g = inr (λ s. eqb-false P.listed Q.listed e s.0)
    go true false z e f g = inr (λ s. eqb-false P.row Q.row f s.1)
    go true true false e f g = inr (λ s. eqb-false P.col Q.col g s.2)

-- no two placings of one list lead
pub leads-once : (B : Board) (E : EdgeList) (ts : List ℕ) (limit : Float) (P Q : Placing) → Leads B E ts limit P → Leads B E ts limit Q → Same P Q
leads-once B E ts limit P Q l m =
    ⊎_elim (λ s. s) (λ n. absurd (omega (arith, l.ahead Q m.on-board (λ s. n (sym s.0, sym s.1, sym s.2)), m.ahead P l.on-board n))) (same_or_not P Q)

-- the square that one leading placing names is named by every leading one
pub leader-named : (B : Board) (E : EdgeList) (ts : List ℕ) (limit : Float) (P Q : Placing) (s : Square) → Leads B E ts limit P → Leads B E ts limit Q → Names ts Q s → Names ts P s
leader-named B E ts limit P Q s l m n =
    let e = leads-once B E ts limit P Q l m in (ap (λ (p : ℕ). get_or ts p 0) e.0 ∙ n.0, e.1 ∙ n.1, e.2 ∙ n.2)

-- ---- placings and keys
module _ (B : Board) (board : BoardOk B) where
  abbrev pub rows : ℕ
  rows = 3 * period_of B true

  abbrev pub columns : ℕ
  columns = 3 * period_of B false

  wide : 0 < 3 * period_of B false
  wide = omega (arith, board.v.some)

  -- the key of a placing's origin, and the placing with a key
  abbrev pub key_of : Placing → ℕ
  key_of P = key_at (period_of B false) P.row P.col

  abbrev pub placing : ℕ → ℕ → Placing
  placing p k = record { listed = p; row = k / (3 * period_of B false); col = k % (3 * period_of B false) }

  module _ (ts : List ℕ) where
    pub key_below : (P : Placing) → OnBoard B ts P → key_of P < origin_number (period_of B true) (period_of B false)
    key_below P o = digits_lt o.row o.col

    pub placing-on : (p k : ℕ) → p < length ts → k < origin_number (period_of B true) (period_of B false) → OnBoard B ts (placing p k)
    placing-on p k h l = record { in_list = h; row = (div-lt_iff_lt-mul wide).1 l; col = mod-lt k wide }

    -- a placing comes back from its key
    pub row_back : (P : Placing) → OnBoard B ts P → key_of P / (3 * period_of B false) ≡ P.row
    row_back P o = digits_div P.row o.col

    pub col-back : (P : Placing) → OnBoard B ts P → key_of P % (3 * period_of B false) ≡ P.col
    col-back P o = digits_mod P.row o.col

    pub key_back : (p k : ℕ) → key_of (placing p k) ≡ k
    key_back p k = div-add-mod' k (3 * period_of B false)

    -- the same placing, by key
    pub same_key : (P Q : Placing) → Same P Q → (P.listed ≡ Q.listed) × (key_of P ≡ key_of Q)
    same_key P Q s = (s.0, ap₂ (key_at (period_of B false)) s.1 s.2)

    pub key-same : (P Q : Placing) → OnBoard B ts P → OnBoard B ts Q → (P.listed ≡ Q.listed) × (key_of P ≡ key_of Q) → Same P Q
    key-same P Q o u s = (
      s.0,
      sym (row_back P o) ∙ ap (λ (k : ℕ). k / (3 * period_of B false)) s.1 ∙ row_back Q u,
      sym (col-back P o) ∙ ap (λ (k : ℕ). k % (3 * period_of B false)) s.1 ∙ col-back Q u,
    )

    module _ (E : EdgeList) (limit : Float) where
      -- its hits, by key
      pub hits-key : (P : Placing) → OnBoard B ts P → hits_at_key B E ts P.listed (key_of P) ≡ hits_at B E ts P
      hits-key P o = ap₂ (hits B E (get_or ts P.listed 0)) (row_back P o) (col-back P o)

      abbrev SoleAt : ℕ → ℕ → Type 0
      SoleAt = Sole (length ts) (origin_number (period_of B true) (period_of B false)) (size E) limit (hits_at_key B E ts)

      -- a lead is a sole placing, both ways
      pub leads-sole : (P : Placing) → Leads B E ts limit P → SoleAt P.listed (key_of P)
      leads-sole P l =
          let o = l.on-board in
          let e = hits-key P o in
          record {
            listed = o.in_list;
            key = key_below P o;
            allowed = ap (over_limit (size E) limit) e ∙ l.within;
            ahead = λ q j hq hj ne.
                let u = placing-on q j hq hj in
                let a = l.ahead (placing q j) u (λ s. let t = same_key (placing q j) P s in ne (t.0, sym (key_back q j) ∙ t.1)) in
                omega (arith, e);
          }

      pub sole-leads : (P : Placing) → OnBoard B ts P → SoleAt P.listed (key_of P) → Leads B E ts limit P
      sole-leads P o s =
          let e = hits-key P o in
          record {
            on-board = o;
            within = ap (over_limit (size E) limit) (sym e) ∙ s.allowed;
            ahead = λ Q u ne. omega (arith, e, hits-key Q u, s.ahead Q.listed (key_of Q) u.in_list (key_below Q u) (λ t. ne (key-same Q P u o t)));
          }

      -- the most hits of any other placing are a runner-up's
      pub most-runs-up : (P Q : Placing) (r : ℕ) → OnBoard B ts P → OnBoard B ts Q → (Same Q P → ⊥) → hits_at B E ts Q ≡ r
          → MostOther (length ts) (origin_number (period_of B true) (period_of B false)) (size E) limit (hits_at_key B E ts) P.listed (key_of P) r → RunsUp B E ts P Q
      most-runs-up P Q r o u ne e m = record {
        on-board = u;
        other = ne;
        no_third = λ R v nr. omega (arith, hits-key R v, m.most R.listed (key_of R) v.in_list (key_below R v) (λ t. nr (key-same R P v o t)));
      }

      -- and there is one
      pub most-exists : (P : Placing) (r : ℕ) → OnBoard B ts P → MostOther (length ts) (origin_number (period_of B true) (period_of B false)) (size E) limit (hits_at_key B E ts) P.listed (key_of P) r → RunnerUpExists B E ts P r
      most-exists P r o m =
          let w = m.reached in
          let Q = placing w.0 w.1 in
          let other : Same Q P → ⊥ = λ s. let k = same_key Q P s in w.4 (k.0, sym (key_back w.0 w.1) ∙ k.1) in
          record { one = Q; runs_up = most-runs-up P Q r o (placing-on w.0 w.1 w.2 w.3) other w.5 m; with_hits = w.5 }
