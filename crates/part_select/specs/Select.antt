-- C-20, one list: the placings of a part over the list's transforms, by number, and what the selection comes to.
use Rattle.std.specs.Prelude.{◌≡◌, true, false, cond, List, ℕ, ◌*◌, ◌/◌, ◌≤◌, ◌<◌, get_or, length, Float, Err, None, Ok, Some}
use Rattle.refusals.specs.Numbers.{numbered}
use Rattle.refusals.specs.Numbers as why
use Rattle.board.specs.Hits.{EdgeList, Board, size}
use Rattle.board.specs.Sides.{period_of}
use Rattle.board.specs.declared.edge.Placing.{Placing}
use Rattle.scan.specs.Scan.{over_limit}
use Rattle.units.specs.Units.{values_of}
use Rattle.values.specs.Values.{hits_of, weight_of}
use Rattle.exact_scan.specs.declared.kept.ExactWinner.{ExactWinner}
use Rattle.exact.specs.Select.{no_units, ExactSelectReady, ValueRoom, values_to}
use Rattle.exact.specs.SelectLaws.{room_values}
use Rattle.part.specs.declared.Part.{Part}
use Rattle.part.specs.declared.Runs.{Runs}
use Rattle.part.specs.Part.{PartOk, runs_of}
use Rattle.part_scan.specs.declared.kept.Offer.{Offer}
use Rattle.part_scan.specs.declared.kept.PartKept.{PartKept}
use Rattle.part_scan.specs.declared.kept.PartKept.TheVariants.{Nobody, One, Two}
use Rattle.part_scan.specs.Kept.{walked}
use Rattle.part_scan.specs.Walk.{row_at, col_at, number_value, in_both}
use Rattle.part_select.specs.Kinds.{PartNext}
use Rattle.part_select.specs.Kinds.{PartSelection}

-- ---- the placings by number
-- the placing with a number
unfoldable pub placing_of : ℕ → Placing
placing_of m = record { listed = m / 251001; row = row_at m; col = col_at m }

-- its value, by the transform t, and by the transform at its list position
unfoldable pub value_under : Board → EdgeList → ℕ → ℕ → ℕ
value_under B E t = number_value (values_of B E t true) (values_of B E t false)

unfoldable pub list_value : Board → EdgeList → List ℕ → ℕ → ℕ
unfolding value_under
list_value B E ts m = value_under B E (get_or ts (m / 251001) 0) m

-- the same, off the tables in a room
unfoldable pub room_number : ℕ → ℕ → List ℕ → ℕ → ℕ
unfolding room_values
room_number L M a = number_value (room_values L M a).hs (room_values L M a).vs

-- the scan over the first n transforms: the placings whose rows and columns are in the runs
unfoldable pub part_scan_of : Board → EdgeList → List ℕ → Runs → Runs → ℕ → PartKept
unfolding list_value
part_scan_of B E ts down across n = walked (in_both down across) (list_value B E ts) Nobody 0 (n * 251001)

-- ---- what the scan comes to
-- a kept placing with its hits, its weight and where it is
unfoldable pub winner_of : Offer → ExactWinner
unfolding placing_of
winner_of c = record { hits = hits_of c.value; weight = weight_of c.value; placing = placing_of c.number }

-- refused where c is over the limit, else c with what is shown beside it
unfoldable pub finished_with : ℕ → Float → Offer → PartNext → PartSelection
unfolding winner_of
finished_with edges limit c next = cond (over_limit edges limit (hits_of c.value)) (Err (numbered why.none_within_limit)) (Ok ((winner_of c), next))

-- by what is kept: no runner-up is shown where there is one placing only
abbrev pub part_finished : ℕ → Float → PartKept → PartSelection
part_finished edges limit Nobody = Err (numbered why.none_within_limit)
part_finished edges limit (One w) = finished_with edges limit w None
part_finished edges limit (Two w r) = finished_with edges limit w (Some (winner_of r))

-- the scan over a part
unfoldable pub part_scan : Board → EdgeList → List ℕ → Part → PartKept
unfolding part_scan_of
part_scan B E ts part = part_scan_of B E ts (runs_of part.row part.rows) (runs_of part.col part.cols) (length ts)

-- the selection on one list over a part: refused without confidence, then where the winner is over the limit
unfoldable pub part_selection : Board → EdgeList → List ℕ → Part → Float → PartSelection
unfolding part_scan
part_selection B E ts part limit = cond (no_units E) (Err (numbered why.no_confidence)) (part_finished (size E) limit (part_scan B E ts part))

-- ---- what is asked, and what was done
-- a kept placing that can be shown: no more hits than edges, and a number of one of eight list positions
pub record OfferOk (edges : ℕ) (c : Offer) : Type 0 where
  pub hits : hits_of c.value ≤ edges
  pub small : edges ≤ 8192
  pub number : c.number < 2008008

-- those that are kept
abbrev pub SoundPart : ℕ → PartKept → Type 0
SoundPart edges Nobody = Unit {0}
SoundPart edges (One w) = OfferOk edges w
SoundPart edges (Two w r) = OfferOk edges w × OfferOk edges r

-- an accepted list on a flat board
pub record FlatReady (B : Board) (E : EdgeList) (ts a : List ℕ) : Type 0 where
  pub ready : ExactSelectReady B E ts a
  pub h : period_of B true ≡ 167
  pub v : period_of B false ≡ 167

-- and a part in range
pub record PartSelectReady (B : Board) (E : EdgeList) (ts : List ℕ) (part : Part) (a : List ℕ) : Type 0 where
  pub flat : FlatReady B E ts a
  pub range : PartOk part

-- what a scan of the first n transforms did
pub record PartScanDone (B : Board) (E : EdgeList) (ts : List ℕ) (down across : Runs) (n : ℕ) (a a' : List ℕ) (r : PartKept) : Type 0 where
  pub answer : r ≡ part_scan_of B E ts down across n
  pub room : ValueRoom B E ts n a a'

-- what a selection did: its answer is the definition's, and the room holds the values of the last transform that was built
pub record PartDone (B : Board) (E : EdgeList) (ts : List ℕ) (part : Part) (limit : Float) (a a' : List ℕ) (r : PartSelection) : Type 0 where
  pub answer : r ≡ part_selection B E ts part limit
  pub room : ValueRoom B E ts (values_to E ts) a a'
