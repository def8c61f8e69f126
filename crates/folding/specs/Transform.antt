-- Document 01, 'Hard selection': what one transform's tables come to, and the scan over the listed transforms.
use Rattle.std.specs.Prelude.{Bool, cond, ltb, length, Float}
use Prim.Native.Nat.{ℕ, zero, suc, ◌+◌, ◌*◌, ◌/◌, ◌%◌, ◌≤◌, ◌<◌}
use Rattle.std.specs.Float.Ieee.{add}
use Rattle.std.specs.Float.{binary32}
use Rattle.laws.specs.Words.{Grid, origins}
use Rattle.best.specs.CellTables.{Period, CellTables, TablesOk}
use Rattle.best.specs.Lex.{optimal, lex_of}
use Rattle.grid.specs.RowMajor.{row_major}
use Rattle.scan.specs.Scan.{over_limit, replaced, empty_scan, pushed}
use Rattle.direct.specs.Direct.{hard_candidate, tried}
use Rattle.best.specs.declared.lex.LexMax.{LexMax}
use Rattle.scan.specs.declared.scan.Candidate.{Candidate}
use Rattle.scan.specs.declared.scan.RunnerUp.{RunnerUp}
use Rattle.scan.specs.declared.scan.TransformSummary.{TransformSummary}
use Rattle.scan.specs.declared.scan.HardScan.{HardScan}
use Rattle.scan.specs.Kinds.{Kept}
use Rattle.folding.specs.declared.transform.Ranked.{Ranked}

-- what two tables of 3 L and 3 M cells say: cells inside, numbers of cells and counts of no more than there are
pub record BestOk (L M : ℕ) (a b : LexMax) : Type 0 where
  pub h-cell : a.cell < 3 * L
  pub h_second : a.second < 3 * L
  pub v-cell : b.cell < 3 * M
  pub v_second : b.second < 3 * M
  pub h_tied : a.tied ≤ 1500
  pub v_tied : b.tied ≤ 1500
  pub h_optimal : a.optimal ≤ 1500
  pub v_optimal : b.optimal ≤ 1500
  pub top : a.count + b.count ≤ 8192
  pub across : a.under + b.count ≤ 8192
  pub down : a.count + b.under ≤ 8192

-- "its best origin is the row-major first over optimal pairs", on the grid G, where the tables say a and b
abbrev pub first_of : Grid → CellTables → LexMax → LexMax → ℕ
first_of G X a b = row_major G (length X.vc) (optimal X.hc X.hw a.count a.weight) (optimal X.vc X.vw b.count b.weight) (length X.hc)

unfoldable pub best_origin : Grid → CellTables → ℕ
unfolding lex_of
best_origin G X = first_of G X (lex_of X.hc X.hw) (lex_of X.vc X.vw)

-- "The transform's best hits are the two counts' sum"
abbrev pub best_hits : LexMax → LexMax → ℕ
best_hits a b = a.count + b.count

-- the same at list position p, of the tables tab
abbrev pub best_at : (ℕ → CellTables) → ℕ → ℕ
best_at tab p = best_hits (lex_of (tab p).hc (tab p).hw) (lex_of (tab p).vc (tab p).vw)

-- "if more than one cell pair has the largest counts"
abbrev pub pairs_tied : LexMax → LexMax → Bool
pairs_tied a b = ltb 1 (a.tied * b.tied)

-- "inside the winner's transform, if more than one cell pair has the largest counts, hits equal the best (its place never shows, for the gate refuses). Else
-- the better of (first second-best horizontal, best vertical) and (best horizontal, first second-best vertical), horizontal on a tie."
unfoldable pub runner_up_within : ℕ → ℕ → LexMax → LexMax → ℕ → Ranked
runner_up_within L M a b first =
    cond (pairs_tied a b)
    (record { hits = best_hits a b; key = first })
    (cond (ltb (a.under + b.count) (a.count + b.under))
    (record { hits = a.count + b.under; key = (origins L M).key a.cell b.second })
    (record { hits = a.under + b.count; key = (origins L M).key a.second b.cell }))

-- an origin of the transform t by row and column
unfoldable pub competitor_of : ℕ → ℕ → Ranked → RunnerUp
competitor_of M t origin = record { hits = origin.hits; row = origin.key / (3 * M); col = origin.key % (3 * M); transform = t }

-- the best origin and the runner-up within
unfoldable pub summary_of : ℕ → Ranked → Ranked → ℕ → TransformSummary
unfolding competitor_of
summary_of M first other t = record { best = competitor_of M t first; within = competitor_of M t other }

-- the summary of the transform t with the tables X
unfoldable pub transform_summary : ℕ → ℕ → ℕ → CellTables → TransformSummary
unfolding best_origin runner_up_within competitor_of summary_of
transform_summary L M t X =
    let a = lex_of X.hc X.hw in
    let b = lex_of X.vc X.vw in
    let k = best_origin (origins L M) X in
    summary_of M (record { hits = best_hits a b; key = k }) (runner_up_within L M a b k) t

-- "the best origin is the candidate, weight the rounded sum of both"
abbrev pub best_candidate : ℕ → Float → ℕ → LexMax → LexMax → ℕ → Candidate
best_candidate M confidence listed a b first = hard_candidate (best_hits a b) (add binary32 a.weight b.weight) confidence (first / (3 * M)) (first % (3 * M)) listed

-- "If the product of the two optimal class numbers is at most 1,024": the Rust's SEPARATION_PRODUCT_CAP
abbrev pub separation_product_cap : ℕ
separation_product_cap = 1024

module _ (L M edges : ℕ) (confidence limit : Float) where
  -- "rate over the limit: the transform offers no candidate. If the product of the two optimal class numbers is at most 1,024, the best origin is the
  -- candidate .. From 1,025, all origins are tried in row-major order"
  unfoldable pub offered_by : ℕ → CellTables → LexMax → LexMax → ℕ → Kept → Kept
  offered_by listed X a b first kept =
      cond (over_limit edges limit (best_hits a b)) kept
      (cond (ltb separation_product_cap (a.optimal * b.optimal))
      (tried L M edges confidence limit listed X 0 kept (3 * L * (3 * M)))
      (replaced kept (best_candidate M confidence listed a b first)))

  -- the transform t, with the tables X, at the scan's next list position
  unfoldable pub fold_transform : ℕ → CellTables → HardScan → HardScan
  unfolding transform_summary offered_by
  fold_transform t X scan =
      pushed scan (transform_summary L M t X) (offered_by scan.count X (lex_of X.hc X.hw) (lex_of X.vc X.vw) (best_origin (origins L M) X) scan.best)

  -- "One list, in transform order": the first n list positions, of which position p has the transform ts p and the tables tab p
  unfoldable pub selected : (ℕ → ℕ) → (ℕ → CellTables) → ℕ → HardScan
  unfolding fold_transform
  selected ts tab zero = empty_scan
  selected ts tab (suc p) = fold_transform (ts p) (tab p) (selected ts tab p)

-- what folding a transform asks: tables of a list over two periods, and a place left in the scan
abbrev pub FoldReady : ℕ → ℕ → ℕ → CellTables → HardScan → Type 0
FoldReady L M edges X scan = (Period L × Period M × TablesOk L M edges X) × (scan.count < 8)
