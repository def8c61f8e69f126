use Prim.Native.Nat.{◌*◌}
use mathlib.Core.Path.{sym, ◌∙◌}
use native.Mathlib.Nat.{mul-le-mul, div-le_self, mod-le}
use Rattle.folding.specs.TransformLaws.{by-none, by-direct, by-best}
use native.Mathlib.Omega.{arith}
use Rattle.folding.proofs.transform.offer_transform.Goals as goal

pub returns-then-over_limit : goal.returns-then-over_limit
returns-then-over_limit c = sym (by-none _ _ _ _ _ _ _ _ _ _ _ (sym c.over_limit.ensures ∙ c.if-over_limit.true))

pub overflow_mul-a : goal.overflow_mul-a
overflow_mul-a c = record { fits = omega (arith, mul-le-mul c.requires.best_ok.0.h_optimal c.requires.best_ok.0.v_optimal) }

pub returns-then-a-b-gt-SEPARATION_PRODUCT_CAP : goal.returns-then-a-b-gt-SEPARATION_PRODUCT_CAP
returns-then-a-b-gt-SEPARATION_PRODUCT_CAP c = c.scan_direct.ensures ∙ sym (by-direct _ _ _ _ _ _ _ _ _ _ _ (sym c.over_limit.ensures ∙ c.if-over_limit.false) c.if-a-b-gt-SEPARATION_PRODUCT_CAP.true)

pub overflow_mul-columns : goal.overflow_mul-columns
overflow_mul-columns c = record { fits = omega (arith, c.requires.period.1.few) }

pub nonzero_div-row : goal.nonzero_div-row
nonzero_div-row c = omega (arith, c.requires.period.1.more)

pub overflow_cast-row : goal.overflow_cast-row
overflow_cast-row c = record { fits = omega (arith, div-le_self c.args.key (3 * c.args.periods.v), c.requires.best_ok.2) }

pub nonzero_rem-col : goal.nonzero_rem-col
nonzero_rem-col c = omega (arith, c.requires.period.1.more)

pub overflow_cast-col : goal.overflow_cast-col
overflow_cast-col c = record { fits = omega (arith, mod-le c.args.key (3 * c.args.periods.v), c.requires.best_ok.2) }

pub returns : goal.returns
returns c = c.offer.ensures ∙ sym (by-best _ _ _ _ _ _ _ _ _ _ _ (sym c.over_limit.ensures ∙ c.if-over_limit.false) c.if-a-b-gt-SEPARATION_PRODUCT_CAP.false)
