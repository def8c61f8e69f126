-- The ways in which counting a record ends, and the turns of its loop.
use Rattle.std.specs.Prelude.{◌≡◌, refl, Bool, true, false, List, ℕ, ◌+◌, ◌≤◌, ◌<◌, take, ℤ, pos, Float, Err, Ok}
use Rattle.std.proofs.Math.Path.{sym, ap}
use Rattle.std.proofs.Common.{ap₂, ◌∙◌, arith, get_or-take, length-take-le}
use borrow.Author.Tests.{lt-ltb, le-ltb}
use Rattle.answer.specs.declared.Square.{Square}
use Rattle.board.specs.declared.edge.Edge.{Edge}
use Rattle.board.specs.Hits.{EdgeList, Board, edges, size, edge_at}
use Rattle.refusals.specs.declared.Refusal.{Refusal}
use Rattle.refusals.specs.Admission.{Admission, accepted}
use Rattle.refusals.specs.Numbers.{numbered}
use Rattle.refusals.specs.Numbers as why
use Rattle.checks.specs.Checks.{lengths_differ}
use Rattle.findings.specs.Findings.{or_else}
use Rattle.admission.specs.Refusals.{stats_admission}
use Rattle.tally.specs.declared.Tally.{Tally}
use Rattle.tally.specs.Tally as tally
use Rattle.tally.specs.Tally.{Adds, with_edge}
use Rattle.tally.specs.TallyLaws.{with-adds}
use Rattle.tally.specs.Counted.{listed_as, hit_at, tally_of}
use Rattle.tally.proofs.CountedLaws.{tally-none, tally-more, tally-same}
use Rattle.admission.specs.Accepted.{bytes_ok, stats-tests-of}
use Rattle.tally_of.specs.Begun.{Sides, front, begin_found, or_kept, counted_all, tally_answer}

-- an edge of the front is the list's
edge-eq : {e f : Edge} → e.row ≡ f.row → e.col ≡ f.col → e.orientation ≡ f.orientation → e.bit ≡ f.bit → e ≡ f
edge-eq {e} {f} a b c d =
    ap₂ (λ x y. record { row = x; col = y; orientation = e.orientation; bit = e.bit }) a b
    ∙ ap₂ (λ x y. record { row = f.row; col = f.col; orientation = x; bit = y }) c d

pub front-edge : (n : ℕ) (E : EdgeList) (i : ℕ) → i < n → edge_at (front n E) i ≡ edge_at E i
unfolding front
front-edge n E i h = edge-eq (get_or-take n E.rows i (pos 0) h) (get_or-take n E.cols i (pos 0) h) (get_or-take n E.orientations i 0 h) (get_or-take n E.bits i 0 h)

-- the record of the front is that of the list's first edges
pub front-tally : (n : ℕ) (E : EdgeList) (q : Square) (B : Board) → tally_of B (front n E) q n ≡ tally_of B E q n
front-tally n E q B = tally-same B q E (front n E) n (front-edge n E)

pub front-size : (n : ℕ) (E : EdgeList) → n ≤ size E → size (front n E) ≡ n
unfolding front
front-size n E h = length-take-le n E.rows h

-- ---- the turns of the loop: after i edges the record is theirs, and adds up
pub record Counting (E : EdgeList) (q : Square) (B : Board) (T : Tally) (i : ℕ) : Type 0 where
  pub inside : i ≤ size E
  pub so_far : T ≡ tally_of B E q i
  pub adds : Adds T

module _ (E : EdgeList) (q : Square) (B : Board) where
  pub counting-none : Counting E q B (tally.tally q 0 0 0 0 0) 0
  counting-none = record { inside = omega arith; so_far = tally-none B q E; adds = refl }

  pub counting-edges : (T : Tally) (i : ℕ) → Counting E q B T i → T.edges ≡ i
  unfolding tally_of
  counting-edges T i c = ap (λ (x : Tally). x.edges) c.so_far

  pub counting_more : (T S : Tally) (i : ℕ) (b : Bool) → Counting E q B T i → i < size E → listed_as E i ≤ 1 → b ≡ hit_at B E q i → S ≡ with_edge T (listed_as E i) b → Counting E q B S (i + 1)
  counting_more T S i b c l o h k = record {
    inside = omega arith;
    so_far = k ∙ ap₂ (λ (x : Tally) (y : Bool). with_edge x (listed_as E i) y) c.so_far h ∙ sym (tally-more B q E i);
    adds = rw k (with-adds T (listed_as E i) b (omega arith) c.adds);
  }

  pub counting-done : (T : Tally) (i : ℕ) → Counting E q B T i → size E ≤ i → T ≡ tally_of B E q (size E)
  counting-done T i c h = let e : i ≡ size E = omega (arith, c.inside) in c.so_far ∙ ap (tally_of B E q) e

-- a list that match statistics accept has orientations 0 and 1
pub accepted-sides : (E : EdgeList) (t row col : ℕ) (B : Board) → stats_admission E t row col B ≡ accepted → Sides E.orientations
accepted-sides E t row col B h = bytes_ok 1 E.orientations (stats-tests-of E t row col B h).list.orientations

-- ---- a whole list
module _ (E : EdgeList) (q : Square) (B : Board) (a : Admission) (given : a ≡ stats_admission E q.transform q.row q.col B) where
  pub all-refused : (r : Refusal) → a ≡ Err r → Err r ≡ counted_all E q B
  unfolding counted_all
  all-refused r h = ap (λ (x : Admission). or_kept x (tally_of B E q (size E))) (sym h ∙ given)

  pub all-kept : (T : Tally) → a ≡ accepted → T ≡ tally_of B E q (size E) → Ok T ≡ counted_all E q B
  unfolding counted_all
  all-kept T h k = ap Ok k ∙ ap (λ (x : Admission). or_kept x (tally_of B E q (size E))) (sym h ∙ given)

-- ---- the front of a list
module _ (E : EdgeList) (n : ℕ) (q : Square) (B : Board) where
  pub begin-lengths : lengths_differ E ≡ true → Err (numbered why.lengths_differ) ≡ tally_answer E n q B
  unfolding tally_answer begin_found or_else
  begin-lengths h = sym (rw h)

  module _ (d : lengths_differ E ≡ false) where
    pub begin-long : size E < n → Err (numbered tally.bad_record) ≡ tally_answer E n q B
    unfolding tally_answer begin_found or_else
    begin-long l = sym (rw (d, lt-ltb (size E) n l))

    module _ (fits : n ≤ size E) where
      pub begin-many : 8192 < n → Err (numbered why.list_size) ≡ tally_answer E n q B
      unfolding tally_answer begin_found or_else
      begin-many l = sym (rw (d, le-ltb (size E) n fits, lt-ltb 8192 n l))

      pub begin-front : n ≤ 8192 → counted_all (front n E) q B ≡ tally_answer E n q B
      unfolding tally_answer begin_found or_else counted_all
      begin-front l =
          ap (λ (T : Tally). or_kept (stats_admission (front n E) q.transform q.row q.col B) T) (ap (tally_of B (front n E) q) (front-size n E fits) ∙ front-tally n E q B)
          ∙ sym (rw (d, le-ltb (size E) n fits, le-ltb 8192 n l))

-- the columns that were cut are the front
pub front_of : (E : EdgeList) (n : ℕ) (q : Square) (B : Board) (r c : List ℤ) (o b : List ℕ) (w : List Float) → r ≡ take n E.rows → c ≡ take n E.cols → o ≡ take n E.orientations → b ≡ take n E.bits → w ≡ take n E.confidences
    → counted_all (edges r c o b w) q B ≡ counted_all (front n E) q B
unfolding front
front_of E n q B r c o b w e f g h k = rw (e, f, g, h, k)
