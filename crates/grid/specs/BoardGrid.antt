-- A board's two periods, and the grid of origins over them: what every selection asks of both, by hits or by likelihood.
use Rattle.std.specs.Prelude.{ℕ, ◌*◌, ◌≤◌, true, false}
use Rattle.std.proofs.Common.{mul-le-mul, arith}
use Rattle.laws.specs.Words.{origins}
use Rattle.laws.specs.GridLaws.{Laws, origins-laws}
use Rattle.board.specs.Hits.{Board}
use Rattle.board.specs.Sides.{period_of}
use Rattle.board.specs.Domain.{BoardOk}
use Rattle.best.specs.CellTables.{Period}

pub period-h : (B : Board) → BoardOk B → Period (period_of B true)
period-h B ok = record { more = ok.h.some; few = ok.h.few; free = ok.h.free }

pub period-v : (B : Board) → BoardOk B → Period (period_of B false)
period-v B ok = record { more = ok.v.some; few = ok.v.few; free = ok.v.free }

module _ (L M : ℕ) (p : Period L) (q : Period M) where
  -- the board's grid
  pub grid : Laws (origins L M) (3 * L) (3 * M)
  grid = origins-laws L M (omega (arith, p.more)) (omega (arith, q.more)) p.free q.free

  pub none-small : 3 * L * (3 * M) ≤ 2250000
  none-small = mul-le-mul {n₁ = 3 * L} {m₁ = 3 * M} {n₂ = 1500} {m₂ = 1500} (omega (arith, p.few)) (omega (arith, q.few))
