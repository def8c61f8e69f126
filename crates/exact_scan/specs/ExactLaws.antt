-- Laws of the exact scan: what is known of a transform's two tables of values, how large its keys are, what is kept, and the fold put together.
use Rattle.std.specs.Prelude.{◌≡◌, true, false, List, ℕ, ◌+◌, ◌*◌, ◌≤◌, ◌<◌, length, Float, Err, None, Ok}
use Rattle.std.proofs.Common.{arith, le-leb}
use Rattle.std.proofs.lemmas.Bool.{lt-leb}
use Rattle.refusals.specs.Numbers.{numbered}
use Rattle.refusals.specs.Numbers as why
use Rattle.laws.specs.Words.{origins}
use Rattle.laws.specs.Counting.{count-le}
use Rattle.best.specs.CellTables.{Period}
use Rattle.best.specs.declared.lex.LexMax.{LexMax}
use Rattle.grid.specs.BoardGrid.{none-small}
use Rattle.grid.specs.RowMajorLaws.{major-none}
use Rattle.scan.specs.Scan.{over_limit, pushed, runner_up_of}
use Rattle.scan.specs.declared.scan.TransformSummary.{TransformSummary}
use Rattle.scan.specs.declared.scan.HardScan.{HardScan}
use Rattle.scan.specs.declared.scan.RunnerUp.{RunnerUp}
use Rattle.folding.specs.Transform.{BestOk, best_hits, runner_up_within, competitor_of, summary_of}
use Rattle.folding.specs.TransformLaws.{within-small}
use Rattle.folding.specs.declared.transform.Ranked.{Ranked}
use Rattle.unit_terms.specs.Values.{one_hit}
use Rattle.values.specs.Values.{hits_of, weight_of, v_at, n_at, value_best, value_second, tied_value, held_hits, value_of, first_origin, best_value, by_hits}
use Rattle.values.specs.ValuesLaws.{PairTop, cell_in, cell-top, second-inside}
use Rattle.values.specs.declared.table.ValueMax.{ValueMax}
use Rattle.exact_scan.specs.Exact.{ValueTables, ValuesOk, summary_by, exact_origin, exact_summary, candidate_at, exact_candidate, better_of, taken, fold_exact, finished_one}
use Rattle.exact_scan.specs.declared.kept.ExactCandidate.{ExactCandidate}
use Rattle.exact_scan.specs.Kinds.{ExactKept}
use Rattle.exact_scan.specs.declared.kept.ExactScan.{ExactScan}

-- ---- the tables
-- what is known of what two tables say, and of their best origin
pub record ExactSaid (L M : ℕ) (a b : ValueMax) (first : ℕ) : Type 0 where
  pub best : BestOk L M (by_hits a) (by_hits b)
  pub value : a.top + b.top ≤ 2 * 4503599627370496
  pub small : first ≤ 2250000

module _ (L M : ℕ) (p : Period L) (q : Period M) (X : ValueTables) (ok : ValuesOk L M X) where
  abbrev hs : List ℕ
  hs = X.hs

  abbrev vs : List ℕ
  vs = X.vs

  pub h-two : 1 < length hs
  h-two = omega (arith, ok.hcells, p.more)

  pub v-two : 1 < length vs
  v-two = omega (arith, ok.vcells, q.more)

  pub said-top : (a b : ValueMax) → a ≡ value_of hs → b ≡ value_of vs → PairTop L M hs vs a b
  said-top a b e d = rw (e, d) (cell-top (3 * L) hs (omega (arith, p.more)) ok.hcells, cell-top (3 * M) vs (omega (arith, q.more)) ok.vcells)

  abbrev h : ℕ
  h = value_best hs

  abbrev v : ℕ
  v = value_best vs

  h-in : h < 3 * L
  h-in = omega (arith, ok.hcells, cell_in hs h-two)

  v-in : v < 3 * M
  v-in = omega (arith, ok.vcells, cell_in vs v-two)

  best-ok : BestOk L M (by_hits (value_of hs)) (by_hits (value_of vs))
  unfolding value_of
  best-ok =
      let i : value_second hs h < 3 * L = omega (arith, ok.hcells, second-inside hs h-two h) in
      let j : value_second vs v < 3 * M = omega (arith, ok.vcells, second-inside vs v-two v) in
      record {
        h-cell = h-in;
        h_second = i;
        v-cell = v-in;
        v_second = j;
        h_tied = omega (arith, ok.hcells, p.few, count-le (held_hits hs (n_at hs h)) (length hs));
        v_tied = omega (arith, ok.vcells, q.few, count-le (held_hits vs (n_at vs v)) (length vs));
        h_optimal = omega (arith, ok.hcells, p.few, count-le (tied_value hs (v_at hs h)) (length hs));
        v_optimal = omega (arith, ok.vcells, q.few, count-le (tied_value vs (v_at vs v)) (length vs));
        top = ok.bounded h v h-in v-in;
        across = ok.bounded (value_second hs h) v i v-in;
        down = ok.bounded h (value_second vs v) h-in j;
      }

  -- hits and weights of a pair add up
  together : (x y : ℕ) → hits_of x + hits_of y ≤ 8192 → weight_of x + weight_of y < one_hit → x + y ≤ 2 * 4503599627370496
  together x y n m = omega arith

  value-ok : (value_of hs).top + (value_of vs).top ≤ 2 * 4503599627370496
  unfolding value_of
  value-ok = together (v_at hs h) (v_at vs v) (ok.bounded h v h-in v-in) (ok.adds h v h-in v-in)

  pub said_ok : (a b : ValueMax) (first : ℕ) → a ≡ value_of hs → b ≡ value_of vs → first ≡ first_origin L M hs vs a b → ExactSaid L M a b first
  said_ok a b first e d f = record {
    best = rw (e, d) best-ok;
    value = rw (e, d) value-ok;
    small = omega (arith, f, none-small L M p q, major-none (origins L M) (length vs) (tied_value hs a.top) (tied_value vs b.top) (length hs));
  }

  -- ---- the fold from its parts
  pub folded : (t : ℕ) (scan : ExactScan) (a b : ValueMax) (first : ℕ) (s : TransformSummary) (best : ExactKept) (positions : HardScan)
      → a ≡ value_of hs
      → b ≡ value_of vs
      → first ≡ first_origin L M hs vs a b
      → s ≡ summary_by L M t (by_hits a) (by_hits b) first
      → best ≡ taken scan.best (record { value = best_value a b; placing = record { listed = scan.positions.count; row = s.best.row; col = s.best.col } })
      → positions ≡ pushed scan.positions s None
      → record { positions = positions; best = best } ≡ fold_exact L M t X scan
  unfolding fold_exact exact_summary exact_candidate exact_origin candidate_at summary_by summary_of competitor_of
  folded t scan a b first s best positions ea eb ef es ek ep = rw (ep, ek, es, ef, ea, eb)

-- ---- the summary by hits, from its parts
module _ (L M : ℕ) (p : Period L) (q : Period M) (a b x y : LexMax) (first : ℕ) (within : Ranked) (ok : BestOk L M a b) (small : first ≤ 2250000) (ex : x ≡ a) (ey : y ≡ b) where
  pub parts-ok : BestOk L M x y
  parts-ok = rw (ex, ey) ok

  -- the runner-up inside is named by a key as small
  pub parts-small : within ≡ runner_up_within L M x y first → within.key ≤ 2250000
  parts-small e = within-small L M p q 8192 x y first within (record { best = parts-ok; most = parts-ok.top; first_small = small }) e

  pub summarized : (t : ℕ) (s : TransformSummary) → within ≡ runner_up_within L M x y first → s ≡ summary_of M (record { hits = best_hits x y; key = first }) within t → s ≡ summary_by L M t a b first
  unfolding summary_by
  summarized t s en es = rw (es, en, ex, ey)

-- ---- the better of two
module _ (k c : ExactCandidate) where
  pub stays : c.value ≤ k.value → k ≡ better_of k c
  unfolding better_of
  stays m = rw (le-leb c.value k.value m)

  pub greater : k.value < c.value → c ≡ better_of k c
  unfolding better_of
  greater m = rw (lt-leb c.value k.value m)

-- ---- what the scan comes to
module _ (edges : ℕ) (limit : Float) (h : HardScan) (c : ExactCandidate) (hits : ℕ) (e : hits ≡ hits_of c.value) where
  pub finish-over : over_limit edges limit hits ≡ true → Err (numbered why.none_within_limit) ≡ finished_one edges limit h c
  unfolding finished_one
  finish-over t = rw (← e, t)

  pub finish-within : (weight : ℕ) (r : RunnerUp) → over_limit edges limit hits ≡ false → weight ≡ weight_of c.value → r ≡ runner_up_of h.summaries c.placing.listed h.count
      → Ok ((record { hits = hits; weight = weight; placing = c.placing }), r) ≡ finished_one edges limit h c
  unfolding finished_one
  finish-within weight r t ew er = rw (← e, t, ← ew, ← er)
