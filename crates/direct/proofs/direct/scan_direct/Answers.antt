use Prim.Native.Nat.{ℕ, ◌*◌}
use mathlib.Core.Path.{◌≡◌, refl, sym, ap, ◌∙◌}
use native.Mathlib.Nat.{mod-lt, mod-eq_of_lt}
use lib.Dec.{lit<}
use Rattle.direct.specs.Direct.{tried}
use Rattle.direct.specs.DirectLaws.{class-next, tried-none, rows-turn}
use native.Mathlib.Omega.{arith}
use Rattle.direct.proofs.direct.scan_direct.Goals as goal

pub loop-row-init : goal.loop-row-init
loop-row-init c = (omega arith, sym (mod-eq_of_lt (omega (arith, c.requires.0.more))), refl, tried-none _ _ _ _ _ _ _ _)

pub scan_row-kept-requires : goal.scan_row-kept-requires
scan_row-kept-requires c = record {
  period = c.requires;
  row_bound = (omega (arith, c.requires.2.hcs), c.loop-row.invariant.1, c.loop-row.invariant.2);
}

pub next_class-ha-requires : goal.next_class-ha-requires
next_class-ha-requires c = (rw c.loop-row.invariant.1 (mod-lt _ (omega (arith, c.requires.0.more))), c.requires.0.few)

pub next_class-va-requires : goal.next_class-va-requires
next_class-va-requires c = (rw c.loop-row.invariant.2 (mod-lt _ (lit< tt)), omega arith)

pub loop-row-preserved : goal.loop-row-preserved
loop-row-preserved c =
    let inv = c.loop-row.invariant in (
      omega (arith, c.requires.2.hcs),
      c.next_class-ha.ensures.0 ∙ rw inv.1 (class-next _ _),
      c.next_class-va.ensures.0 ∙ rw inv.2 (class-next _ _),
      rows-turn _ _ _ _ _ _ _ _ _ _ _ inv.3 c.scan_row-kept.ensures,
    )

pub returns : goal.returns
returns c =
    let e : c.loop-row.row ≡ 3 * c.args.periods.h = omega (arith, c.requires.2.hcs) in
    c.loop-row.invariant.3 ∙ ap (tried _ _ _ _ _ _ _ _ _) (ap (λ (r : ℕ). r * (3 * c.args.periods.v)) e)
