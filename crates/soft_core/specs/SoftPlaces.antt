-- First and second place by likelihood, over rows and columns (SoftDemand.antt), are what soft selection keeps by keys and cells (BestPlacing.antt of soft): the two
-- that it keeps have them, one placing alone has first place, and all that have second place after it have one total.
use Rattle.std.specs.Prelude.{◌≡◌, refl, true, false, List, ◌⊎◌, ℕ, suc, ◌+◌, ◌*◌, ◌/◌, ◌%◌, ◌≤◌, ◌<◌, get_or, length, ℤ, Float}
use Rattle.std.proofs.Common.{sym, ap, ap₂, ◌∙◌, inl, inr, ⊎_elim, mul-le-mul_right, suc-mul, div-add-mod', arith}
use Rattle.std.specs.Int.Signed.{lt_z}
use Rattle.std.specs.Float.Ieee.{lt}
use Rattle.laws.specs.Tests.{apart}
use Rattle.laws.specs.Words.{origins}
use Rattle.board.specs.declared.edge.Placing.{Placing}
use Rattle.board.specs.Hits.{EdgeList, Board}
use Rattle.board.specs.Sides.{period_of}
use Rattle.board.specs.Domain.{BoardOk, ListOk}
use Rattle.likelihood.specs.Likelihood.{dequantised}
use Rattle.sums.specs.Sums.{Likelihoods, LikelihoodsOk, score}
use Rattle.soft.specs.BestPlacing.{FirstPlace, SecondPlace}
use Rattle.soft.specs.BestPlacingUnique.{first-only}
use Rattle.soft.specs.SelectLaws.{score_at_key}
use Rattle.soft.specs.TotalLaws.{total-level, score-small}
use Rattle.demand.specs.Demand.{OnBoard, Same}
use Rattle.demand.specs.DemandLaws.{key_of, placing, key_below, placing-on, row_back, col-back, same_key, key-same}
use Rattle.soft_core.specs.SoftDemand.{whole_sum, total, FirstByLikelihood, SecondByLikelihood, BestByLikelihood}

-- ---- row by row, by one number: w columns
row_before : (w r c row col : ℕ) → c < w → (r < row) ⊎ ((r ≡ row) × (c < col)) → r * w + c < row * w + col
row_before w r c row col h (inl l) = let k : suc r * w ≤ row * w = mul-le-mul_right w l in omega (arith, suc-mul r w)
row_before w r c row col h (inr l) = let k : r * w ≡ row * w = ap (λ (x : ℕ). x * w) l.0 in omega (arith, l.1)

before-row : (w i row col : ℕ) → col < w → i < row * w + col → (i / w < row) ⊎ ((i / w ≡ row) × (i % w < col))
before-row w i row col h l = ⊎_elim
    (λ e. let k : i / w * w ≡ row * w = ap (λ (x : ℕ). x * w) e in inr (e, omega (arith, div-add-mod' i w)))
    (⊎_elim inl (λ m. let k : suc row * w ≤ i / w * w = mul-le-mul_right w m in absurd (omega (arith, suc-mul row w, div-add-mod' i w))))
    (apart (i / w) row)

module _ (B : Board) (E : EdgeList) (X : Likelihoods) (ts : List ℕ) (board : BoardOk B) where
  -- first and second place by keys
  abbrev First : ℕ → ℕ → Type 0
  First = FirstPlace (origins (period_of B true) (period_of B false)) (length ts) (score_at_key B E X ts)

  abbrev Second : ℕ → ℕ → ℕ → ℕ → Type 0
  Second = SecondPlace (origins (period_of B true) (period_of B false)) (length ts) (score_at_key B E X ts)

  -- the whole sum of a placing, by its key
  sum-key : (Q : Placing) → OnBoard B ts Q → (p : ℕ) → Q.listed ≡ p → score_at_key B E X ts p (key_of B board Q) ≡ whole_sum B E X ts Q
  sum-key Q o p e = λ i. score B E X (get_or ts (sym e i) 0) (row_back B board ts Q o i) (col-back B board ts Q o i)

  total-key : (Q : Placing) → OnBoard B ts Q → dequantised (score_at_key B E X ts Q.listed (key_of B board Q)) ≡ total B E X ts Q
  total-key Q o = ap dequantised (sum-key Q o Q.listed refl)

  module _ (P : Placing) (o : OnBoard B ts P) where
    -- first place by keys is first place by rows and columns, both ways
    first-by-rows : First P.listed (key_of B board P) → FirstByLikelihood B E X ts P
    first-by-rows A = record {
      on-board = o;
      greatest_total = λ Q u. sym (ap₂ lt (total-key P o) (total-key Q u)) ∙ A.greatest Q.listed (key_of B board Q) u.in_list (key_below B board ts Q u);
      largest_sum = λ Q u e. sym (ap₂ lt_z (sum-key P o P.listed refl) (sum-key Q u P.listed e)) ∙ A.own.largest (key_of B board Q) (key_below B board ts Q u);
      row_major_first = λ Q u e b. sym (ap₂ lt_z (sum-key Q u P.listed e) (sum-key P o P.listed refl)) ∙ A.own.first (key_of B board Q) (row_before (3 * period_of B false) Q.row Q.col P.row P.col u.col b);
      earliest_listed = λ Q u l. sym (ap₂ lt (total-key Q u) (total-key P o)) ∙ A.earliest Q.listed (key_of B board Q) l (key_below B board ts Q u);
    }

    second-by-rows : (Q : Placing) → OnBoard B ts Q → Second P.listed (key_of B board P) Q.listed (key_of B board Q) → SecondByLikelihood B E X ts P Q
    second-by-rows Q u A = record {
      on-board = u;
      other = λ s. A.other (same_key B board ts Q P s);
      greatest_total = λ R v n. sym (ap₂ lt (total-key Q u) (total-key R v)) ∙ A.greatest R.listed (key_of B board R) v.in_list (key_below B board ts R v) (λ t. n (key-same B board ts R P v o t));
    }

  pub first-by-keys : (P : Placing) → FirstByLikelihood B E X ts P → First P.listed (key_of B board P)
  first-by-keys P A =
      let o = A.on-board in
      let p = P.listed in
      let sum = sum-key P o p refl in
      let on = placing-on B board ts in
      record {
        listed = o.in_list;
        own = record {
          key = key_below B board ts P o;
          largest = λ i l. ap (λ (z : ℤ). lt_z z (score_at_key B E X ts p i)) sum ∙ A.largest_sum (placing B board p i) (on p i o.in_list l) refl;
          first = λ i l. ap (λ (z : ℤ). lt_z (score_at_key B E X ts p i) z) sum ∙ A.row_major_first (placing B board p i) (on p i o.in_list (below i l)) refl (before-row (3 * period_of B false) i P.row P.col o.col l);
        };
        greatest = λ r i l m. ap (λ (x : Float). lt x (dequantised (score_at_key B E X ts r i))) (total-key P o) ∙ A.greatest_total (placing B board r i) (on r i l m);
        earliest = λ r i l m. ap (λ (x : Float). lt (dequantised (score_at_key B E X ts r i)) x) (total-key P o) ∙ A.earliest_listed (placing B board r i) (on r i (omega (arith, o.in_list)) m) l;
      }
    where
      below : (i : ℕ) → i < key_of B board P → i < 3 * period_of B true * (3 * period_of B false)
      below i l = omega (arith, key_below B board ts P A.on-board)

  -- ONE PLACING HAS FIRST PLACE
  pub first-once : (P Q : Placing) → FirstByLikelihood B E X ts P → FirstByLikelihood B E X ts Q → Same P Q
  first-once P Q A C =
      key-same B board ts P Q A.on-board C.on-board
      (first-only (origins (period_of B true) (period_of B false)) (length ts) (score_at_key B E X ts) P.listed (key_of B board P) Q.listed (key_of B board Q) (first-by-keys P A) (first-by-keys Q C))

  -- THE TWO THAT SOFT SELECTION KEEPS have first and second place, and whoever has first place is the first of them
  pub best-by-rows : (P Q : Placing) → BestByLikelihood B E X ts P Q → FirstByLikelihood B E X ts P × SecondByLikelihood B E X ts P Q
  best-by-rows P Q b = (first-by-rows P b.on-board b.first, second-by-rows P b.on-board Q b.second_on b.second)

  -- ALL THAT HAVE SECOND PLACE HAVE ONE TOTAL
  pub second-total : ListOk E → LikelihoodsOk E X → (P Q R : Placing) → SecondByLikelihood B E X ts P Q → SecondByLikelihood B E X ts P R → total B E X ts Q ≡ total B E X ts R
  second-total list ok P Q R A C =
      total-level (whole_sum B E X ts Q) (whole_sum B E X ts R) (score-small B E X (get_or ts Q.listed 0) Q.row Q.col list ok) (score-small B E X (get_or ts R.listed 0) R.row R.col list ok)
      (A.greatest_total R C.on-board C.other) (C.greatest_total Q A.on-board A.other)
