-- What the program gives to the class tables: its list is accepted, and so are the pattern tables that it makes.
use Rattle.std.specs.Prelude.{◌≡◌, ℕ, zero, suc, ◌%◌, ◌<◌, List, [], ◌∷◌, length, pos, negsuc, refl, Float}
use Rattle.std.proofs.Common.{subst, arith, lit<, lit≤}
use Rattle.std.specs.Float.{binary32}
use Rattle.std.specs.Float.Ieee.{of_bits, le}
use Rattle.laws.specs.WeightLaws.{confidence}
use Rattle.board.specs.Hits.{EdgeList, edges, tables}
use Rattle.board.specs.Domain.{ListOk, Patterns}
use Rattle.tables.specs.Built.{TablesReady}
use Rattle.runs.specs.Made.{Made}

-- the list: six edges, their confidences 0.5, 0.3, 1, 0.1, 0.7 and 0.2 to the nearest f32
abbrev pub given : EdgeList
given =
    edges (pos 0 ∷ pos 2 ∷ negsuc 0 ∷ pos 700 ∷ negsuc 500 ∷ pos 0 ∷ []) (pos 0 ∷ pos 3 ∷ pos 4 ∷ negsuc 34 ∷ pos 166 ∷ pos 0 ∷ []) (0 ∷ 0 ∷ 1 ∷ 1 ∷ 0 ∷ 0 ∷ []) (1 ∷ 0 ∷ 1 ∷ 1 ∷ 0 ∷ 1 ∷ [])
    (of_bits binary32 1056964608 ∷ of_bits binary32 1050253722 ∷ of_bits binary32 1065353216 ∷ of_bits binary32 1036831949 ∷ of_bits binary32 1060320051 ∷ of_bits binary32 1045220557 ∷ [])

-- what holds at 0, .., 5 holds below 6
six : (Q : ℕ → Type 0) → Q 0 → Q 1 → Q 2 → Q 3 → Q 4 → Q 5 → (i : ℕ) → i < 6 → Q i
six Q a b c d e f zero h = a
six Q a b c d e f (suc zero) h = b
six Q a b c d e f (suc (suc zero)) h = c
six Q a b c d e f (suc (suc (suc zero))) h = d
six Q a b c d e f (suc (suc (suc (suc zero)))) h = e
six Q a b c d e f (suc (suc (suc (suc (suc zero))))) h = f
six Q a b c d e f (suc (suc (suc (suc (suc (suc i)))))) h = absurd (omega arith)

given-ok : ListOk given
unfolding of_bits le
given-ok = record {
  few = lit≤ tt;
  cols = refl;
  orientations = refl;
  bits = refl;
  confidences = refl;
  near-row = six _ (lit≤ tt) (lit≤ tt) (lit≤ tt) (lit≤ tt) (lit≤ tt) (lit≤ tt);
  near-col = six _ (lit≤ tt) (lit≤ tt) (lit≤ tt) (lit≤ tt) (lit≤ tt) (lit≤ tt);
  bit = six _ (lit< tt) (lit< tt) (lit< tt) (lit< tt) (lit< tt) (lit< tt);
  confidence =
      six _ (confidence (of_bits binary32 1056964608) tt tt) (confidence (of_bits binary32 1050253722) tt tt) (confidence (of_bits binary32 1065353216) tt tt) (confidence (of_bits binary32 1036831949) tt tt) (confidence (of_bits binary32 1060320051) tt tt) (confidence (of_bits binary32 1045220557) tt tt);
}

patterns : (ps : List ℕ) → Made ps 167 167 → Patterns ps
patterns ps m = record {
  some = omega (arith, m.size);
  few = omega (arith, m.size);
  free = λ e. third (subst (λ (n : ℕ). n % 3 ≡ 0) m.size e);
  small = λ i h. m.small i (omega (arith, m.size));
}
  where
    third : ◌≡◌ {A = ℕ} (167 % 3) 0 → ⊥
    third e = let z : ◌≡◌ {A = ℕ} 2 0 = e in omega arith

-- `build_tables` may be called
pub ready : (h v : List ℕ) (t : ℕ) (c : List ℕ) (w : List Float) → Made h 167 167 → Made v 167 167 → t < 8 → length c ≡ 3006 → length w ≡ 3006 → TablesReady (tables h v) given t c w
ready h v t c w mh mv ht hc hw = record {
  list = given-ok;
  board = record { h = patterns h mh; v = patterns v mv };
  transform = ht;
  room = (omega (arith, mh.size, mv.size), omega (arith, mh.size, mv.size));
}
