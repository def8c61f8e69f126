-- C-15, one list: the scan over the tables of values of each list position. It keeps the placing of most hits, then most weight, then the earliest list position, then row, then column.
use Rattle.std.specs.Prelude.{cond, ◌≡◌, List, ℕ, zero, suc, ◌+◌, ◌*◌, ◌/◌, ◌%◌, ◌≤◌, ◌<◌, leb, length, Float, Err, None, Ok, Some}
use Rattle.refusals.specs.Numbers.{numbered}
use Rattle.refusals.specs.Numbers as why
use Rattle.best.specs.CellTables.{Period}
use Rattle.best.specs.declared.lex.LexMax.{LexMax}
use Rattle.scan.specs.Scan.{over_limit, empty_scan, pushed, runner_up_of}
use Rattle.scan.specs.declared.scan.TransformSummary.{TransformSummary}
use Rattle.scan.specs.declared.scan.HardScan.{HardScan}
use Rattle.folding.specs.Transform.{best_hits, runner_up_within, summary_of}
use Rattle.unit_terms.specs.Values.{one_hit}
use Rattle.values.specs.Values.{hits_of, weight_of, v_at, n_at, value_of, first_origin, best_value, by_hits}
use Rattle.exact_scan.specs.declared.kept.ExactCandidate.{ExactCandidate}
use Rattle.exact_scan.specs.Kinds.{ExactKept}
use Rattle.exact_scan.specs.declared.kept.ExactScan.{ExactScan}
use Rattle.exact_scan.specs.Kinds.{ExactSelection}

-- the horizontal and the vertical table of values of one transform
pub record ValueTables : Type 0 where
  pub hs : List ℕ
  pub vs : List ℕ

-- the two together
abbrev pub value_tables : List ℕ → List ℕ → ValueTables
value_tables hs vs = record { hs = hs; vs = vs }

-- tables of a list: as long as the periods say, and the weights of two cells are together less than a hit, so that the hits of a sum are the sum of the hits; no pair of cells has more
-- hits than a list may have edges
pub record ValuesOk (L M : ℕ) (X : ValueTables) : Type 0 where
  pub hcells : length X.hs ≡ 3 * L
  pub vcells : length X.vs ≡ 3 * M
  pub adds : (i j : ℕ) → i < 3 * L → j < 3 * M → weight_of (v_at X.hs i) + weight_of (v_at X.vs j) < one_hit
  pub bounded : (i j : ℕ) → i < 3 * L → j < 3 * M → n_at X.hs i + n_at X.vs j ≤ 8192

-- the summary of the transform t by hits alone, from what its two tables say
unfoldable pub summary_by : ℕ → ℕ → ℕ → LexMax → LexMax → ℕ → TransformSummary
unfolding runner_up_within summary_of
summary_by L M t a b first = summary_of M (record { hits = best_hits a b; key = first }) (runner_up_within L M a b first) t

-- the first origin of greatest value
unfoldable pub exact_origin : ℕ → ℕ → ValueTables → ℕ
unfolding value_of
exact_origin L M X = first_origin L M X.hs X.vs (value_of X.hs) (value_of X.vs)

-- the summary of the transform t with the tables X
unfoldable pub exact_summary : ℕ → ℕ → ℕ → ValueTables → TransformSummary
unfolding summary_by exact_origin value_of
exact_summary L M t X = summary_by L M t (by_hits (value_of X.hs)) (by_hits (value_of X.vs)) (exact_origin L M X)

-- the origin with the key k at a list position, with its value
unfoldable pub candidate_at : ℕ → ℕ → ℕ → ℕ → ExactCandidate
candidate_at M listed value k = record { value = value; placing = record { listed = listed; row = k / (3 * M); col = k % (3 * M) } }

-- the best origin of the tables X, at a list position
unfoldable pub exact_candidate : ℕ → ℕ → ℕ → ValueTables → ExactCandidate
unfolding candidate_at exact_origin value_of
exact_candidate L M listed X = candidate_at M listed (best_value (value_of X.hs) (value_of X.vs)) (exact_origin L M X)

-- the earlier list position wins a tie: k stays, unless the later c has a greater value
unfoldable pub better_of : ExactCandidate → ExactCandidate → ExactCandidate
better_of k c = cond (leb c.value k.value) k c

-- what is kept after c: the first one, then the better one
abbrev pub taken : ExactKept → ExactCandidate → ExactKept
taken None c = Some c
taken (Some k) c = Some (better_of k c)

-- ---- the scan
-- of no transforms
unfoldable pub empty_exact : ExactScan
unfolding empty_scan
empty_exact = record { positions = empty_scan; best = None }

-- the transform t, with the tables X, at the scan's next list position
unfoldable pub fold_exact : ℕ → ℕ → ℕ → ValueTables → ExactScan → ExactScan
unfolding exact_summary exact_candidate pushed
fold_exact L M t X scan = record { positions = pushed scan.positions (exact_summary L M t X) None; best = taken scan.best (exact_candidate L M scan.positions.count X) }

-- the first n list positions, of which position p has the transform ts p and the tables tab p
unfoldable pub exact_scanned : ℕ → ℕ → (ℕ → ℕ) → (ℕ → ValueTables) → ℕ → ExactScan
unfolding empty_exact fold_exact
exact_scanned L M ts tab zero = empty_exact
exact_scanned L M ts tab (suc p) = fold_exact L M (ts p) (tab p) (exact_scanned L M ts tab p)

-- what a list of so many edges comes to where c is kept: refused where c is over the limit, else c with its runner-up
unfoldable pub finished_one : ℕ → Float → HardScan → ExactCandidate → ExactSelection
unfolding over_limit runner_up_of
finished_one edges limit h c =
    cond (over_limit edges limit (hits_of c.value))
    (Err (numbered why.none_within_limit))
    (Ok ((record { hits = hits_of c.value; weight = weight_of c.value; placing = c.placing }), (runner_up_of h.summaries c.placing.listed h.count)))

-- and by what is kept: nobody is within any limit
abbrev pub finished_by : ℕ → Float → HardScan → ExactKept → ExactSelection
finished_by edges limit h None = Err (numbered why.none_within_limit)
finished_by edges limit h (Some c) = finished_one edges limit h c

-- what the scan comes to
unfoldable pub finished : ℕ → Float → ExactScan → ExactSelection
unfolding finished_one
finished edges limit scan = finished_by edges limit scan.positions scan.best

-- ---- what folding a transform asks: tables of a list over two periods, and a place left in the scan
abbrev pub ExactReady : ℕ → ℕ → ValueTables → ExactScan → Type 0
ExactReady L M X scan = (Period L × Period M × ValuesOk L M X) × (scan.positions.count < 8)

-- ---- what finishing asks: the kept placing stands at one of at most eight positions, with no more hits than edges
pub record SoundOne (edges : ℕ) (h : HardScan) (c : ExactCandidate) : Type 0 where
  pub few : h.count ≤ 8
  pub listed : c.placing.listed < h.count
  pub hits : hits_of c.value ≤ edges
  pub small : edges ≤ 8192

-- where there is one
abbrev pub SoundKept : ℕ → HardScan → ExactKept → Type 0
SoundKept edges h None = Unit {0}
SoundKept edges h (Some c) = SoundOne edges h c

-- of a scan
abbrev pub SoundExact : ℕ → ExactScan → Type 0
SoundExact edges scan = SoundKept edges scan.positions scan.best
