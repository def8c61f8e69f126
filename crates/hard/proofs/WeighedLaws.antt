-- What a winner weighs: its weight is the rounded sum of the weights of two cells, and its score is that over the total confidence. So both are finite: the weight is
-- at most the number of edges, and the score at most twice that, however small the confidences are.
use Rattle.std.proofs.Math.Path.{◌≡◌, refl, ap, subst}
use Rattle.std.proofs.Common.{sym, ◌∙◌, arith}
use Rattle.std.proofs.Math.Bool.{true, false}
use Rattle.std.specs.Prelude.{List, ℕ, ◌+◌, ◌*◌, ◌≤◌, ◌<◌, Float, None, Ok, Some}
use Rattle.std.proofs.Math.Logic.{⊎_elim}
use Rattle.std.proofs.Math.ListN.{get_or, length}
use Rattle.std.specs.Float.{nan}
use Rattle.std.specs.Float.Ieee.{binary32, add, div}
use Rattle.std.specs.Float.Ieee.Back.{round_whole}
use Rattle.laws.specs.Words.{origins}
use Rattle.laws.specs.Weights.{Upto, Within}
use Rattle.laws.specs.WeightLaws.{Bounds, by-counts}
use Rattle.laws.specs.WithinLaws.{upto-within, within_more}
use Rattle.laws.specs.ShareLaws.{magnitude-of, by-shares, share-within}
use Rattle.board.specs.Hits.{EdgeList, Board, size}
use Rattle.board.specs.Sides.{period_of}
use Rattle.board.specs.Domain.{ListOk, BoardOk}
use Rattle.figures.specs.Figures.{confidence_to, total_confidence, no_confidence}
use Rattle.cells.specs.Cells.{counts_of, weights_of}
use Rattle.tables.specs.TablesTheorems.{counts-few, weights-bounded}
use Rattle.best.specs.CellTables.{CellTables, Period, TablesOk, w_at}
use Rattle.best.specs.Lex.{lex_of}
use Rattle.grid.specs.BoardGrid.{grid, period-h, period-v}
use Rattle.scan.specs.Pairs.{some-first}
use Rattle.scan.specs.Scan.{chosen, chosen_by}
use Rattle.direct.specs.Direct.{origin_candidate}
use Rattle.folding.specs.Transform.{selected}
use Rattle.folding.specs.TransformLaws.{best-ok}
use Rattle.folding.proofs.KeptLaws.{MostOf, Offers, Listed, kept-most}
use Rattle.hard.specs.OneList.{choice}
use Rattle.hard.specs.Select.{tables_of, scan_of, selection}
use Rattle.hard.specs.SelectLaws.{tables-ok}
use Rattle.hard.proofs.SelectTheorems.{selected-chosen}
use Rattle.scan.specs.declared.scan.Candidate.{Candidate}
use Rattle.scan.specs.declared.scan.RunnerUp.{RunnerUp}
use Rattle.scan.specs.Kinds.{Kept}
use Rattle.scan.specs.Kinds.{Choice}

-- the candidate c weighs what the cells h and v of the tables at list position p weigh together
pub record Weighed (L M : ℕ) (confidence : Float) (tab : ℕ → CellTables) (n : ℕ) (c : Candidate) : Type 0 where
  pub p : ℕ
  pub h : ℕ
  pub v : ℕ
  pub in_list : p < n
  pub h-in : h < 3 * L
  pub v-in : v < 3 * M
  pub weight : c.weight ≡ add binary32 (w_at (tab p).hw h) (w_at (tab p).vw v)
  pub score : c.score ≡ div binary32 c.weight confidence

module _ (L M edges : ℕ) (confidence limit : Float) (ts : ℕ → ℕ) (tab : ℕ → CellTables) (n : ℕ) (u : Period L) (v : Period M) (ok : (i : ℕ) → i < n → TablesOk L M edges (tab i)) where
  offer-weighed : (i : ℕ) (c : Candidate) → i < n → Offers L M edges confidence limit i (tab i) c → Weighed L M confidence tab n c
  unfolding lex_of origin_candidate
  offer-weighed i c l o = ⊎_elim
      (λ s. record {
        p = i;
        h = (lex_of (tab i).hc (tab i).hw).cell;
        v = (lex_of (tab i).vc (tab i).vw).cell;
        in_list = l;
        h-in = (best-ok L M u v edges (tab i) (ok i l)).h-cell;
        v-in = (best-ok L M u v edges (tab i) (ok i l)).v-cell;
        weight = ap (λ (d : Candidate). d.weight) s.1;
        score = ap (λ (d : Candidate). d.score) s.1 ∙ ap (λ (x : Float). div binary32 x confidence) (sym (ap (λ (d : Candidate). d.weight) s.1));
      })
      (λ s. let t = s.1 in record {
        p = i;
        h = (origins L M).h_of t.0;
        v = (origins L M).v_of t.0;
        in_list = l;
        h-in = (grid L M u v).h-in t.0;
        v-in = (grid L M u v).v-in t.0;
        weight = ap (λ (d : Candidate). d.weight) t.3;
        score = ap (λ (d : Candidate). d.score) t.3 ∙ ap (λ (x : Float). div binary32 x confidence) (sym (ap (λ (d : Candidate). d.weight) t.3));
      })
      o.1

  -- so does the winner
  chosen-weighed : (x : Choice) → choice L M edges confidence limit ts tab n ≡ x → (c : Candidate) (r : RunnerUp) → x ≡ Some (c, r) → Weighed L M confidence tab n c
  unfolding chosen
  chosen-weighed x e c r k = go (selected L M edges confidence limit ts tab n).best (kept-most L M edges confidence limit ts tab n) (e ∙ k)
    where
      go : (o : Kept) → MostOf (Listed L M edges confidence limit ts tab n) o → chosen_by (selected L M edges confidence limit ts tab n) o ≡ Some (c, r) → Weighed L M confidence tab n c
      go None m q = let z : ◌≡◌ {A = ℕ} 0 1 = cc in absurd (omega arith)
      go (Some d) m q = let z : d ≡ c = some-first q in subst (λ (y : Candidate). Weighed L M confidence tab n y) z (offer-weighed m.0.0 d m.0.1 m.0.2)

-- ---- on a board
module _ (B : Board) (E : EdgeList) (board : BoardOk B) (list : ListOk E) where
  -- two cells together, bounded as the confidences are
  module _ (t h v : ℕ) (lh : h < 3 * period_of B true) (lv : v < 3 * period_of B false) where
    abbrev pair : Float
    pair = add binary32 (w_at (tables_of B E t).hw h) (w_at (tables_of B E t).vw v)

    abbrev number : ℕ
    number = get_or (counts_of B E t true) h 0 + get_or (counts_of B E t false) v 0

    few : get_or (counts_of B E t true) h 0 + get_or (counts_of B E t false) v 0 ≤ size E
    few = counts-few B E t h v lh lv

    pair-bounded : (U W : Float → ℕ → Type 0) → Bounds U W → ((i : ℕ) → i < size E → W (get_or E.confidences i nan) 1) → U pair number
    unfolding tables_of
    pair-bounded U W K each =
        K.more (get_or (weights_of B E t true) h nan) (get_or (weights_of B E t false) v nan) (get_or (counts_of B E t true) h 0) (get_or (counts_of B E t false) v 0)
        (weights-bounded B E t board list true h lh U W K each)
        (K.again (get_or (weights_of B E t false) v nan) (get_or (counts_of B E t false) v 0) (weights-bounded B E t board list false v lv U W K each))
        (omega (arith, few, list.few))

    -- at most the number of edges
    pub pair-within : Within (add binary32 (w_at (tables_of B E t).hw h) (w_at (tables_of B E t).vw v)) (size E)
    pair-within = within_more pair number (size E) few (upto-within pair number (pair-bounded Upto _ by-counts list.confidence))

    -- over the total confidence at most twice that
    pub pair-share : no_confidence E ≡ false → Within (div binary32 pair (total_confidence E)) (2 * size E)
    unfolding no_confidence confidence_to
    pair-share k =
        let s : length E.confidences ≡ size E = list.confidences in
        let u = magnitude-of (λ i. get_or E.confidences i nan) (length E.confidences) (omega (arith, list.few)) (λ i l. list.confidence i (omega arith)) k in
        within_more (div binary32 pair (total_confidence E)) (2 * number) (2 * size E) (omega (arith, few))
        (share-within pair (total_confidence E) number u.q (round_whole binary32 false (2 * number) (omega (arith, few, list.few)))
        (pair-bounded _ _ (by-shares u.q u.small) (λ i l. u.each i (omega arith))) u.reaches)

  -- THE WINNER'S FIGURES ARE FINITE: its weight is at most the number of edges, and its score at most twice that
  pub winner-within : (ts : List ℕ) (limit : Float) (w : Candidate) (r : RunnerUp) → selection B E ts limit ≡ Ok (w, r) → Within w.weight (size E) × Within w.score (2 * size E)
  unfolding scan_of
  winner-within ts limit w r e =
      let c = selected-chosen B E ts limit w r e in
      let a = chosen-weighed (period_of B true) (period_of B false) (size E) (total_confidence E) limit (λ p. get_or ts p 0) (λ p. tables_of B E (get_or ts p 0)) (length ts) (period-h B board) (period-v B board) (λ i l. tables-ok B E (get_or ts i 0) board list) _ refl w r c.1 in
      let t = get_or ts a.p 0 in (
        subst (λ (x : Float). Within x (size E)) (sym a.weight) (pair-within t a.h a.v a.h-in a.v-in),
        subst (λ (x : Float). Within x (2 * size E)) (sym (a.score ∙ ap (λ (x : Float). div binary32 x (total_confidence E)) a.weight)) (pair-share t a.h a.v a.h-in a.v-in c.0),
      )
