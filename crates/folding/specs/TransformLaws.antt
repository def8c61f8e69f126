-- Laws of one transform's fold: what is known of its two tables, how large its keys are, and the fold case by case and put together.
use Rattle.std.specs.Prelude.{◌≡◌, Bool, true, false, cond, List, ℕ, suc, ◌+◌, ◌*◌, ◌≤◌, ◌<◌, T, ltb, get_or, Float}
use Rattle.std.proofs.Math.Path.{refl}
use Rattle.std.proofs.Common.{sym, ap, ◌∙◌, arith, add-one}
use Rattle.std.proofs.Math.ListN.{length}
use borrow.Author.Tests.{lt-ltb, le-ltb}
use Rattle.laws.specs.Words.{count, origins}
use Rattle.laws.specs.Counting.{count-le}
use Rattle.laws.specs.Weights.{weightlike}
use Rattle.best.specs.CellTables.{CellTables, Period, TablesOk, c_at, w_at}
use Rattle.best.specs.Lex.{TableOk, tied_count, optimal, lex_best, lex_second, lex_of}
use Rattle.best.specs.LexLaws.{cell_in, best-optimal, second-inside}
use Rattle.grid.specs.BoardGrid.{grid, none-small}
use Rattle.grid.specs.RowMajorLaws.{major-none, major-only}
use Rattle.scan.specs.Scan.{over_limit, replaced, no_summary, empty_scan, pushed}
use Rattle.scan.specs.ScanLaws.{pushed-count, pushed-summary}
use Rattle.direct.specs.Direct.{tried}
use Rattle.folding.specs.Transform.{BestOk, first_of, best_origin, best_hits, best_candidate, pairs_tied, runner_up_within, summary_of, transform_summary, offered_by, fold_transform, selected, separation_product_cap}
use Rattle.best.specs.declared.lex.LexMax.{LexMax}
use Rattle.scan.specs.declared.scan.TransformSummary.{TransformSummary}
use Rattle.scan.specs.declared.scan.HardScan.{HardScan}
use Rattle.scan.specs.Kinds.{Kept}
use Rattle.folding.specs.declared.transform.Ranked.{Ranked}

-- what is known of a transform's two tables a and b and of its best origin: in range, at most `edges` hits, and a small key
pub record SaidOk (L M edges : ℕ) (a b : LexMax) (first : ℕ) : Type 0 where
  pub best : BestOk L M a b
  pub most : best_hits a b ≤ edges
  pub first_small : first ≤ 2250000

-- what one table of n cells says of its best cell: inside, optimal itself, and how many cells are optimal
pub record CellOk (n : ℕ) (cs : List ℕ) (ws : List Float) (a : LexMax) : Type 0 where
  pub counts : length cs ≡ n
  pub weights : length ws ≡ n
  pub inside : a.cell < n
  pub itself : optimal cs ws a.count a.weight a.cell ≡ true
  pub number : a.optimal ≡ count n (optimal cs ws a.count a.weight)

-- the same of both tables
abbrev pub PairOk : ℕ → ℕ → CellTables → LexMax → LexMax → Type 0
PairOk L M X a b = CellOk (3 * L) X.hc X.hw a × CellOk (3 * M) X.vc X.vw b

-- the best cell of a table is optimal, and the optimal cells are counted
cell-ok : (n : ℕ) (cs : List ℕ) (ws : List Float) → 1 < length cs → length cs ≡ n → length ws ≡ n → ((i : ℕ) → i < n → T (weightlike (w_at ws i))) → CellOk n cs ws (lex_of cs ws)
unfolding lex_of
cell-ok n cs ws two c w ok = record {
  counts = c;
  weights = w;
  inside = omega (arith, c, cell_in cs ws two);
  itself = best-optimal cs ws two (λ i h. ok i (omega (arith, c)));
  number = ap (λ (x : ℕ). count x (optimal cs ws (c_at cs (lex_best cs ws)) (w_at ws (lex_best cs ws)))) c;
}

module _ (L M : ℕ) (p : Period L) (q : Period M) where
  -- where each table has one optimal cell, the best origin is theirs
  pub sole-pair : (X : CellTables) (a b : LexMax) → PairOk L M X a b → a.optimal ≡ 1 → b.optimal ≡ 1 → (origins L M).key a.cell b.cell ≡ first_of (origins L M) X a b
  sole-pair X a b ok one sole =
      let h = ok.0 in
      let v = ok.1 in
      rw (h.counts, v.counts) (sym (major-only (origins L M) (3 * M) (optimal X.hc X.hw a.count a.weight) (optimal X.vc X.vw b.count b.weight) (3 * L) a.cell b.cell h.inside v.inside h.itself v.itself (sym h.number ∙ one) (sym v.number ∙ sole) ((grid L M p q).under a.cell b.cell h.inside v.inside)))

  module _ (edges : ℕ) (X : CellTables) (ok : TablesOk L M edges X) where
    pub h-table : TableOk X.hc X.hw
    h-table = record { two = omega (arith, ok.hcs, p.more); same = ok.hws ∙ sym ok.hcs }

    pub v-table : TableOk X.vc X.vw
    v-table = record { two = omega (arith, ok.vcs, q.more); same = ok.vws ∙ sym ok.vcs }

    -- what the two tables say is in range
    pub best-ok : BestOk L M (lex_of X.hc X.hw) (lex_of X.vc X.vw)
    unfolding lex_of
    best-ok =
        let hi = cell_in X.hc X.hw h-table.two in
        let vi = cell_in X.vc X.vw v-table.two in
        let hj = second-inside X.hc (lex_best X.hc X.hw) h-table.two in
        let vj = second-inside X.vc (lex_best X.vc X.vw) v-table.two in
        record {
          h-cell = omega (arith, ok.hcs);
          h_second = omega (arith, ok.hcs);
          v-cell = omega (arith, ok.vcs);
          v_second = omega (arith, ok.vcs);
          h_tied = omega (arith, ok.hcs, p.few, count-le (tied_count X.hc (c_at X.hc (lex_best X.hc X.hw))) (length X.hc));
          v_tied = omega (arith, ok.vcs, q.few, count-le (tied_count X.vc (c_at X.vc (lex_best X.vc X.vw))) (length X.vc));
          h_optimal = omega (arith, ok.hcs, p.few, count-le (optimal X.hc X.hw (c_at X.hc (lex_best X.hc X.hw)) (w_at X.hw (lex_best X.hc X.hw))) (length X.hc));
          v_optimal = omega (arith, ok.vcs, q.few, count-le (optimal X.vc X.vw (c_at X.vc (lex_best X.vc X.vw)) (w_at X.vw (lex_best X.vc X.vw))) (length X.vc));
          top = both (lex_best X.hc X.hw) (lex_best X.vc X.vw) hi vi;
          across = both (lex_second X.hc (lex_best X.hc X.hw)) (lex_best X.vc X.vw) hj vi;
          down = both (lex_best X.hc X.hw) (lex_second X.vc (lex_best X.vc X.vw)) hi vj;
        }
      where
        both : (i j : ℕ) → i < length X.hc → j < length X.vc → c_at X.hc i + c_at X.vc j ≤ 8192
        both i j h v = omega (arith, ok.few, ok.bounded i j (omega (arith, ok.hcs)) (omega (arith, ok.vcs)))

    -- the best hits are at most the edges
    pub best-under : best_hits (lex_of X.hc X.hw) (lex_of X.vc X.vw) ≤ edges
    unfolding lex_of
    best-under = ok.bounded (lex_best X.hc X.hw) (lex_best X.vc X.vw) (omega (arith, ok.hcs, cell_in X.hc X.hw h-table.two)) (omega (arith, ok.vcs, cell_in X.vc X.vw v-table.two))

    -- the best cell of each table is optimal, and the optimal cells are counted
    pair_ok : PairOk L M X (lex_of X.hc X.hw) (lex_of X.vc X.vw)
    unfolding lex_of
    pair_ok = (cell-ok (3 * L) X.hc X.hw h-table.two ok.hcs ok.hws ok.hweights, cell-ok (3 * M) X.vc X.vw v-table.two ok.vcs ok.vws ok.vweights)

    pub said-pair : (a b : LexMax) → a ≡ lex_of X.hc X.hw → b ≡ lex_of X.vc X.vw → PairOk L M X a b
    said-pair a b ea eb = rw (ea, eb) pair_ok

    -- the same of values that are known to be what the tables say
    pub said_ok : (a b : LexMax) (first : ℕ)
        → a ≡ lex_of X.hc X.hw
        → b ≡ lex_of X.vc X.vw
        → first ≡ first_of (origins L M) X a b
        → SaidOk L M edges a b first
    said_ok a b first ea eb ef =
        record {
          best = rw (ea, eb) best-ok;
          most = rw (ea, eb) best-under;
          first_small = omega (
            arith,
            none-small L M p q,
            major-none (origins L M) (length X.vc) (optimal X.hc X.hw a.count a.weight) (optimal X.vc X.vw b.count b.weight) (length X.hc),
          );
        }

  -- the runner-up inside a transform is named by a key as small
  pub within-small : (edges : ℕ) (a b : LexMax) (first : ℕ) (within : Ranked) → SaidOk L M edges a b first → within ≡ runner_up_within L M a b first → within.key ≤ 2250000
  unfolding runner_up_within
  within-small edges a b first within ok e = rw e (go (pairs_tied a b) (ltb (a.under + b.count) (a.count + b.under)))
    where
      under : (h v : ℕ) → h < 3 * L → v < 3 * M → (origins L M).key h v ≤ 2250000
      under h v i j = omega (arith, (grid L M p q).under h v i j, none-small L M p q)

      go : (s t : Bool)
          → Ranked.key (cond s (record { hits = best_hits a b; key = first }) (cond t (record { hits = a.count + b.under; key = (origins L M).key a.cell b.second }) (record { hits = a.under + b.count; key = (origins L M).key a.second b.cell })))
          ≤ 2250000
      go true t = ok.first_small
      go false true = under a.cell b.second ok.best.h-cell ok.best.v_second
      go false false = under a.second b.cell ok.best.h_second ok.best.v-cell

module _ (L M edges : ℕ) (confidence limit : Float) where
  -- ---- what is kept after a transform, case by case
  module _ (listed : ℕ) (X : CellTables) (a b : LexMax) (first : ℕ) (kept : Kept) where
    pub by-none : over_limit edges limit (best_hits a b) ≡ true → offered_by L M edges confidence limit listed X a b first kept ≡ kept
    unfolding offered_by
    by-none e = rw e

    pub by-direct : over_limit edges limit (best_hits a b) ≡ false → separation_product_cap < a.optimal * b.optimal
        → offered_by L M edges confidence limit listed X a b first kept ≡ tried L M edges confidence limit listed X 0 kept (3 * L * (3 * M))
    unfolding offered_by
    by-direct e l = rw (e, lt-ltb separation_product_cap (a.optimal * b.optimal) l)

    pub by-best : over_limit edges limit (best_hits a b) ≡ false → a.optimal * b.optimal ≤ separation_product_cap
        → offered_by L M edges confidence limit listed X a b first kept ≡ replaced kept (best_candidate M confidence listed a b first)
    unfolding offered_by
    by-best e l = rw (e, le-ltb separation_product_cap (a.optimal * b.optimal) l)

  -- ---- the fold from its parts
  pub folded : (t : ℕ) (X : CellTables) (scan : HardScan) (a b : LexMax) (first : ℕ) (within : Ranked) (s : TransformSummary) (kept : Kept)
      → a ≡ lex_of X.hc X.hw
      → b ≡ lex_of X.vc X.vw
      → first ≡ first_of (origins L M) X a b
      → within ≡ runner_up_within L M a b first
      → s ≡ summary_of M (record { hits = best_hits a b; key = first }) within t
      → kept ≡ offered_by L M edges confidence limit scan.count X a b first scan.best
      → pushed scan s kept ≡ fold_transform L M edges confidence limit t X scan
  unfolding fold_transform transform_summary best_origin
  folded t X scan a b first within s kept ea eb ef en es ek = rw (es, ek, en, ef, ea, eb)

  -- ---- one list position more
  pub selected-more : (ts : ℕ → ℕ) (tab : ℕ → CellTables) (n : ℕ) (x : HardScan) → x ≡ selected L M edges confidence limit ts tab n
      → fold_transform L M edges confidence limit (ts n) (tab n) x ≡ selected L M edges confidence limit ts tab (n + 1)
  unfolding selected
  selected-more ts tab n x e = rw (add-one n, ← e)

  pub selected-none : (ts : ℕ → ℕ) (tab : ℕ → CellTables) → selected L M edges confidence limit ts tab 0 ≡ empty_scan
  unfolding selected
  selected-none ts tab = refl

  -- what is kept after one list position more
  abbrev pub kept_at : (ℕ → CellTables) → ℕ → Kept → Kept
  kept_at tab p kept = offered_by L M edges confidence limit p (tab p) (lex_of (tab p).hc (tab p).hw) (lex_of (tab p).vc (tab p).vw) (best_origin (origins L M) (tab p)) kept

  -- the count is the number of list positions
  pub selected-count : (ts : ℕ → ℕ) (tab : ℕ → CellTables) (n : ℕ) → (selected L M edges confidence limit ts tab n).count ≡ n
  unfolding selected fold_transform pushed
  selected-count ts tab = pushed-count (selected L M edges confidence limit ts tab) (λ p. transform_summary L M (ts p) (tab p)) refl (λ n. refl)

  pub selected-best : (ts : ℕ → ℕ) (tab : ℕ → CellTables) (n : ℕ) → (selected L M edges confidence limit ts tab (suc n)).best ≡ kept_at tab n (selected L M edges confidence limit ts tab n).best
  unfolding selected fold_transform pushed
  selected-best ts tab n = rw (selected-count ts tab n)

  -- each position's summary stays where it was stored
  pub summary-at : (ts : ℕ → ℕ) (tab : ℕ → CellTables) (n p : ℕ) → p < n → n ≤ 8 → get_or (selected L M edges confidence limit ts tab n).summaries p no_summary ≡ transform_summary L M (ts p) (tab p)
  unfolding selected fold_transform pushed
  summary-at ts tab = pushed-summary (selected L M edges confidence limit ts tab) (λ p. transform_summary L M (ts p) (tab p)) refl (λ n. refl)
