-- "TransformTables holds two count and two weight slices": the view of four tables, and the tables that it shows.
use Rattle.std.specs.Prelude.{List, ℕ, Float}
use Rattle.std.specs.Borrow.{Bor}
use Rattle.folding.specs.declared.view.TransformTables.{TransformTables}
use Rattle.best.specs.CellTables.{CellTables, cells}

-- the view that holds four slices
abbrev pub view_of : Bor (List ℕ) → Bor (List Float) → Bor (List ℕ) → Bor (List Float) → TransformTables
view_of hc hw vc vw = record { h_count = hc; h_weight = hw; v_count = vc; v_weight = vw }

-- the four tables that a view shows
abbrev pub viewed : TransformTables → CellTables
viewed t = cells t.h_count.now t.h_weight.now t.v_count.now t.v_weight.now
