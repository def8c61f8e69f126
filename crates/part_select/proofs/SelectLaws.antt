-- Laws of the selection over a part: the scan one transform further, its value by hits and weight, and the two ends of a selection.
use Rattle.std.specs.Prelude.{◌≡◌, Bool, List, get_or, length, Float, Err, Ok}
use Rattle.std.proofs.Math.Path.{refl, sym, ap, ap₂}
use Rattle.std.proofs.Common.{subst, ◌∙◌}
use Rattle.std.proofs.Math.Bool.{true, false}
use Prim.Native.Nat.{ℕ, ◌+◌, ◌*◌, ◌/◌, ◌%◌, ◌^◌, ◌≤◌, ◌<◌}
use native.Mathlib.Omega.{arith}
use borrow.Author.Tests.{ne_eqb}
use Rattle.laws.specs.Words.{fold, origins}
use Rattle.laws.specs.Cleared.{SameBeyond}
use Rattle.refusals.specs.Numbers.{numbered}
use Rattle.refusals.specs.Numbers as why
use Rattle.board.specs.Hits.{EdgeList, Board, size, hit, hits}
use Rattle.board.proofs.HitsLaws.{hits-le}
use Rattle.board.specs.Sides.{period_of}
use Rattle.board.specs.Domain.{ListOk, BoardOk}
use Rattle.scan.specs.Scan.{over_limit}
use Rattle.room.specs.Room.{used}
use Rattle.unit_terms.specs.Values.{one_hit}
use Rattle.units.specs.Units.{unit_at, values_of, UnitsBuilt}
use Rattle.units.specs.UnitsTheorems.{value-reads}
use Rattle.values.specs.Values.{hits_of, weight_of, v_at, pair_value}
use Rattle.exact_scan.specs.Exact.{ValueTables, ValuesOk}
use Rattle.exact_scan.specs.declared.kept.ExactWinner.{ExactWinner}
use Rattle.exact.specs.Select.{units_to, no_units, value_tables_of, built_at, exact_selection, ExactSelectReady, ValueRoom, values_to}
use Rattle.exact.specs.SelectLaws.{origin-value, weight-few, built-values, value-rooms-ready, value-rooms-more, exact-beyond, exact-unique}
use Rattle.part.specs.declared.Part.{Part}
use Rattle.part.specs.declared.Runs.{Runs}
use Rattle.part.specs.Part.{runs_of}
use Rattle.part_scan.specs.declared.kept.Offer.{Offer}
use Rattle.part_scan.specs.declared.kept.PartKept.{PartKept}
use Rattle.part_scan.specs.declared.kept.PartKept.TheVariants.{Nobody, One, Two}
use Rattle.part_scan.specs.Kept.{walked, Leads}
use Rattle.part_scan.specs.KeptLaws.{walk_none, walk-join, walk-values}
use Rattle.part_scan.specs.KeptTheorems.{walk-leads}
use Rattle.part_scan.specs.Walk.{first_number, row_at, col_at, number_value, in_both, TablesReady}
use Rattle.part_scan.specs.WalkLaws.{position_at, first-listed}
use Rattle.part_select.specs.Kinds.{PartNext}
use Rattle.part_select.specs.Kinds.{PartSelection}
use Rattle.part_select.specs.Select.{value_under, list_value, room_number, part_scan_of, winner_of, finished_with, part_finished, part_scan, part_selection, OfferOk, SoundPart, FlatReady, PartScanDone, PartDone}

-- ---- the tables in a room can be walked
room_small : (x y : ℕ) → hits_of x + hits_of y ≤ 8192 → weight_of x + weight_of y < one_hit → x + y < 18446744073709551616
room_small x y n m = omega arith

pub flat-tables : (L M : ℕ) (X : ValueTables) → L ≡ 167 → M ≡ 167 → ValuesOk L M X → TablesReady X.hs X.vs
flat-tables L M X h v ok = record {
  hcells = omega (arith, ok.hcells);
  vcells = omega (arith, ok.vcells);
  small = λ i j a b.
      let li : i < 3 * L = omega arith in
      let lj : j < 3 * M = omega arith in
      room_small (v_at X.hs i) (v_at X.vs j) (ok.bounded i j li lj) (ok.adds i j li lj);
}

-- ---- the scan
module _ (B : Board) (E : EdgeList) (ts : List ℕ) (down across : Runs) where
  abbrev S : ℕ → PartKept
  S = part_scan_of B E ts down across

  pub part_none : Nobody ≡ S 0
  unfolding part_scan_of
  part_none = sym (walk_none (list_value B E ts) (in_both down across) Nobody 0)

  -- the placings of list position n have the values of its transform
  own_value : (n k : ℕ) → k < 251001 → value_under B E (get_or ts n 0) (first_number n 0 + k) ≡ list_value B E ts (first_number n 0 + k)
  unfolding list_value
  own_value n k l = ap (λ (p : ℕ). value_under B E (get_or ts p 0) (first_number n 0 + k)) (sym (position_at n k l))

  -- one transform further
  pub part-more : (n : ℕ) → walked (in_both down across) (value_under B E (get_or ts n 0)) (S n) (first_number n 0) 251001 ≡ S (n + 1)
  unfolding part_scan_of
  part-more n =
      let z : n * 251001 + 251001 ≡ (n + 1) * 251001 = omega arith in
      walk-values (in_both down across) (value_under B E (get_or ts n 0)) (list_value B E ts) (S n) (first_number n 0) 251001 (own_value n)
      ∙ ap (λ (x : ℕ). walked (in_both down across) (list_value B E ts) (S n) x 251001) (first-listed n)
      ∙ walk-join (list_value B E ts) (in_both down across) Nobody 0 (n * 251001) 251001
      ∙ ap (walked (in_both down across) (list_value B E ts) Nobody 0) z

  module _ (a : List ℕ) (R : FlatReady B E ts a) where
    pub scan-part-none : PartScanDone B E ts down across 0 a a Nobody
    unfolding ValueRoom
    scan-part-none = record { answer = part_none; room = refl }

    -- the values in the room are the transform's
    room-is : (n : ℕ) (a' a'' : List ℕ) → n < length ts → ValueRoom B E ts n a a' → UnitsBuilt B E (built_at ts n) a' a'' → room_number (period_of B true) (period_of B false) a'' ≡ value_under B E (get_or ts n 0)
    unfolding room_number value_under value_tables_of
    room-is n a' a'' l d b = ap (λ (X : ValueTables). number_value X.hs X.vs) (built-values B E (built_at ts n) a' a'' (value-rooms-ready B E ts a R.ready n a' d l) b)

    pub scan-part-more : (n : ℕ) (a' a'' : List ℕ) (r r' : PartKept) → n < length ts → PartScanDone B E ts down across n a a' r → UnitsBuilt B E (built_at ts n) a' a''
        → r' ≡ walked (in_both down across) (room_number (period_of B true) (period_of B false) a'') r (first_number n 0) 251001 → PartScanDone B E ts down across (n + 1) a a'' r'
    scan-part-more n a' a'' r r' l d b e = record {
      answer = e ∙ ap₂ (λ (f : ℕ → ℕ) (x : PartKept). walked (in_both down across) f x (first_number n 0) 251001) (room-is n a' a'' l d.room b) d.answer ∙ part-more n;
      room = value-rooms-more B E ts a R.ready n a' a'' d.room b;
    }

-- ---- the value of a placing by its number: its hits and its weight
module _ (B : Board) (E : EdgeList) (ts : List ℕ) (board : BoardOk B) (list : ListOk E) (h : period_of B true ≡ 167) (v : period_of B false ≡ 167) where
  abbrev t : ℕ → ℕ
  t m = get_or ts (m / 251001) 0

  abbrev pub hits_below : ℕ → ℕ
  hits_below m = hits B E (t m) (row_at m) (col_at m)

  abbrev pub weight_below : ℕ → ℕ
  weight_below m = fold ◌+◌ 0 (size E) (hit B E (t m) (row_at m) (col_at m)) (unit_at E)

  pub number-value : (m : ℕ) → list_value B E ts m ≡ hits_below m * one_hit + weight_below m
  unfolding list_value value_under number_value value_tables_of
  number-value m =
      let k = m % 251001 in
      sym (ap₂ (λ (x y : ℕ). pair_value (origins x y) (values_of B E (t m) true) (values_of B E (t m) false) k) h v)
      ∙ origin-value B E (t m) board list k
      ∙ ap (λ (y : ℕ). hits B E (t m) (k / (3 * y)) (k % (3 * y)) * one_hit + fold ◌+◌ 0 (size E) (hit B E (t m) (k / (3 * y)) (k % (3 * y))) (unit_at E)) v

  pub number-weight : (m : ℕ) → weight_below m ≤ 2 ^ 37
  number-weight m =
      let k = m % 251001 in
      subst (λ (y : ℕ). fold ◌+◌ 0 (size E) (hit B E (t m) (k / (3 * y)) (k % (3 * y))) (unit_at E) ≤ 2 ^ 37) v (weight-few B E (t m) board list k)

  pub value-hits : (m : ℕ) → hits_of (list_value B E ts m) ≡ hits_below m
  value-hits m = ap hits_of (number-value m) ∙ (value-reads (hits_below m) (weight_below m) (omega (arith, number-weight m))).0

  pub value-weight : (m : ℕ) → weight_of (list_value B E ts m) ≡ weight_below m
  value-weight m = ap weight_of (number-value m) ∙ (value-reads (hits_below m) (weight_below m) (omega (arith, number-weight m))).1

  -- what is kept can be shown
  offer-ok : (c : Offer) → length ts ≤ 8 → c.number < length ts * 251001 → c.value ≡ list_value B E ts c.number → OfferOk (size E) c
  offer-ok c few l e = record {
    hits = omega (arith, ap hits_of e, value-hits c.number, hits-le B E (t c.number) (row_at c.number) (col_at c.number));
    small = list.few;
    number = omega arith;
  }

  pub kept-sound : (inside : ℕ → Bool) (K : PartKept) → length ts ≤ 8 → Leads inside (list_value B E ts) (length ts * 251001) K → SoundPart (size E) K
  kept-sound inside Nobody few L = tt
  kept-sound inside (One w) few L = offer-ok w few L.0.under L.0.at
  kept-sound inside (Two w r) few L = (offer-ok w few L.0.under L.0.at, offer-ok r few L.1.under L.1.at)

-- the scan of a list may be finished
pub scan-part-sound : (B : Board) (E : EdgeList) (ts a a' : List ℕ) (down across : Runs) (r : PartKept) → FlatReady B E ts a → PartScanDone B E ts down across (length ts) a a' r → SoundPart (size E) r
unfolding part_scan_of
scan-part-sound B E ts a a' down across r R d =
    subst (SoundPart (size E)) (sym d.answer)
    (kept-sound B E ts R.ready.board R.ready.list R.h R.v (in_both down across) (part_scan_of B E ts down across (length ts)) R.ready.transforms.1 (walk-leads (in_both down across) (list_value B E ts) (length ts * 251001)))

-- ---- the end of a scan
pub winner-few : (edges : ℕ) (c : Offer) (w : ExactWinner) → OfferOk edges c → w ≡ winner_of c → (w.hits ≤ edges) × (edges ≤ 8192)
unfolding winner_of
winner-few edges c w ok e = (omega (arith, ap (λ (x : ExactWinner). x.hits) e, ok.hits), ok.small)

module _ (edges : ℕ) (limit : Float) (c : Offer) (next : PartNext) (w : ExactWinner) (e : w ≡ winner_of c) where
  limit-by : (b : Bool) → over_limit edges limit w.hits ≡ b → over_limit edges limit (hits_of c.value) ≡ b
  unfolding winner_of
  limit-by b t = ap (λ (x : ExactWinner). over_limit edges limit x.hits) (sym e) ∙ t

  pub finish-over : over_limit edges limit w.hits ≡ true → Err (numbered why.none_within_limit) ≡ finished_with edges limit c next
  unfolding finished_with
  finish-over t = rw (limit-by true t)

  pub finish-within : over_limit edges limit w.hits ≡ false → Ok (w, next) ≡ finished_with edges limit c next
  unfolding finished_with
  finish-within t = rw (limit-by false t) (ap (λ (x : ExactWinner). Ok (x, next)) e)

-- ---- the two ends of a selection
module _ (B : Board) (E : EdgeList) (ts : List ℕ) (part : Part) (limit : Float) (a : List ℕ) where
  pub part-refused : units_to E.confidences (length E.confidences) ≡ 0 → PartDone B E ts part limit a a (Err (numbered why.no_confidence))
  unfolding part_selection no_units values_to ValueRoom
  part-refused h = record { answer = rw h; room = rw h refl }

  pub part-finished : (a' : List ℕ) (down across : Runs) (s : PartKept) (r : PartSelection) → (units_to E.confidences (length E.confidences) ≡ 0 → ⊥)
      → down ≡ runs_of part.row part.rows → across ≡ runs_of part.col part.cols → PartScanDone B E ts down across (length ts) a a' s → r ≡ part_finished (size E) limit s → PartDone B E ts part limit a a' r
  unfolding part_selection no_units values_to part_scan
  part-finished a' down across s r h ed ea d e =
      let n = ne_eqb (units_to E.confidences (length E.confidences)) 0 h in
      record {
        answer = rw n (e ∙ ap (part_finished (size E) limit) (d.answer ∙ ap₂ (λ (x y : Runs). part_scan_of B E ts x y (length ts)) ed ea));
        room = rw n d.room;
      }

  -- any two results that it allows are equal, and so are the rooms, which are the exact selection's
  pub part-unique : (a' b' : List ℕ) (r s : PartSelection) → PartDone B E ts part limit a a' r → PartDone B E ts part limit a b' s → (r ≡ s) × (a' ≡ b')
  part-unique a' b' r s p q =
      let x = exact_selection B E ts limit in
      (p.answer ∙ sym q.answer, (exact-unique B E ts limit a a' b' x x (record { answer = refl; room = p.room }) (record { answer = refl; room = q.room })).1)

  -- whatever it comes to, the surplus of the room is what it was
  pub part-beyond : ExactSelectReady B E ts a → (a' : List ℕ) (r : PartSelection) → PartDone B E ts part limit a a' r → SameBeyond 0 (used (period_of B) 1) a a'
  part-beyond R a' r d = exact-beyond B E ts limit a R a' (exact_selection B E ts limit) (record { answer = refl; room = d.room })
