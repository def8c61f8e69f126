use mathlib.Core.Path.{◌≡◌, subst}
use mathlib.Core.Bool.{not, ◌&&◌}
use Prim.Native.Nat.{ℕ}
use lib.Dec.{eqb}
use borrow.Author.Tests.{ne_eqb, eq-eqb}
use Rattle.pair.specs.Pair.{filled}
use Rattle.pair.proofs.pair.fill.Goals as goal
use Rattle.pair.proofs.pair.fill.Goals.{else-found-none-via-then-found-none+else-tied, else-found-none-via-else-found-none}

pub returns-then-key-winner : goal.returns-then-key-winner
returns-then-key-winner c =
    let a = c.args in
    subst (λ (x : ℕ). c.key_of-key.result ≡ filled a.none a.found (a.tied && not (eqb x a.winner)) x) c.key_of-key.ensures (simp (eq-eqb _ _ c.if-found-none.true, c.if-tied.true, ne_eqb _ _ c.if-key-winner.true))

pub returns-else-key-winner : goal.returns-else-key-winner
returns-else-key-winner c =
    let a = c.args in
    subst (λ (x : ℕ). a.found ≡ filled a.none a.found (a.tied && not (eqb x a.winner)) x) c.key_of-key.ensures (simp (eq-eqb _ _ c.if-found-none.true, c.if-tied.true, eq-eqb _ _ c.if-key-winner.false))

pub returns-else-found-none : goal.returns-else-found-none
returns-else-found-none c = elim c.else-found-none.branch [
  | else-found-none-via-then-found-none+else-tied w ↦ simp (eq-eqb _ _ w.if-found-none.true, w.if-tied.false)
  | else-found-none-via-else-found-none w ↦ simp (ne_eqb _ _ w.if-found-none.false)
]
