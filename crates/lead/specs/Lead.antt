-- The best placing over the transforms of a list, and the most hits of any other: how it is put together. What it means is in LeadLaws.antt.
use Rattle.std.specs.Prelude.{Bool, true, false, cond, List, ℕ, zero, suc, ◌+◌, ◌*◌, ◌/◌, ◌%◌, ◌≤◌, ◌<◌, ltb, get_or, length}
use Rattle.laws.specs.Words.{origins}
use Rattle.board.specs.Hits.{EdgeList, Board}
use Rattle.board.specs.Sides.{period_of}
use Rattle.board.specs.Domain.{EdgesOk, BoardOk}
use Rattle.classes.specs.Classes.{class_hits}
use Rattle.tops.specs.declared.Top.{Top}
use Rattle.tops.specs.Tops.{top_to, larger}
use Rattle.lead.specs.declared.Peak.{Peak}
use Rattle.lead.specs.declared.Lead.{Lead}

-- the best class of a side and the second best
abbrev pub top_of : Board → EdgeList → ℕ → Bool → Top
top_of B E t s = top_to (class_hits B E t s) (period_of B s * 3)

-- the vertical cell, by the grid's numbering, of the class j: short residue · M + long residue
abbrev pub cell_of : ℕ → ℕ → ℕ
cell_of M j = j % 3 * M + j / 3

-- of one transform, from the best classes a and b of its two sides
abbrev pub peak_from : ℕ → ℕ → Top → Top → Peak
peak_from L M a b = record {
  best = a.best + b.best;
  key = (origins L M).key a.at (cell_of M b.at);
  next = larger (a.next + b.best) (a.best + b.next);
}

unfoldable pub peak_of : Board → EdgeList → ℕ → Peak
peak_of B E t = peak_from (period_of B true) (period_of B false) (top_of B E t true) (top_of B E t false)

-- ---- over the transforms
abbrev pub started : Peak → Lead
started P = record { best = P.best; listed = 0; key = P.key; next = P.next; from = 0 }

-- list position p more
abbrev pub merged : Lead → ℕ → Peak → Lead
merged S p P =
    cond (ltb S.best P.best)
    (cond (ltb S.best P.next)
    (record { best = P.best; listed = p; key = P.key; next = P.next; from = p })
    (record { best = P.best; listed = p; key = P.key; next = S.best; from = S.listed }))
    (cond (ltb S.next P.best)
    (record { best = S.best; listed = S.listed; key = S.key; next = P.best; from = p })
    S)

-- the first n + 1 positions
unfoldable pub lead_after : (ℕ → Peak) → ℕ → Lead
lead_after P zero = started (P 0)
lead_after P (suc n) = merged (lead_after P n) (suc n) (P (suc n))

-- the peaks of the transform list ts
abbrev pub peaks : Board → EdgeList → List ℕ → ℕ → Peak
peaks B E ts p = peak_of B E (get_or ts p 0)

-- what is asked: edges in range, a board, and 1 to 8 transforms
pub record LeadReady (B : Board) (E : EdgeList) (ts : List ℕ) : Type 0 where
  pub list : EdgesOk E
  pub board : BoardOk B
  pub some : 0 < length ts
  pub few : length ts ≤ 8
  pub small : (p : ℕ) → p < length ts → get_or ts p 0 < 8
