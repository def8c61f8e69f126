use mathlib.Core.Path.{◌≡◌, refl, sym, ◌∙◌}
use Prim.Native.Nat.{◌^◌}
use native.Mathlib.Omega.{arith}
use borrow.Author.Tests.{lt-ltb, le-ltb}
use lib.Dec.{le→leb}
use lib.Ieee.{in_float, of_bits, div, nan, binary32}
use Rattle.ten_fields.specs.TenFields.{as_score}
use Rattle.ten_fields.proofs.score_of.Goals as goal

-- 0 / 0 is no number
none : div binary32 (of_bits binary32 0) (of_bits binary32 0) ≡ nan
unfolding of_bits div
none = refl

pub returns-then-hits-gt16777216 : goal.returns-then-hits-gt16777216
unfolding as_score
returns-then-hits-gt16777216 c = none ∙ sym (rw (lt-ltb 16777216 c.args.hits c.if-hits-gt16777216.true))

pub int_to_float-result : goal.int_to_float-result
unfolding in_float
int_to_float-result c = le→leb c.args.hits (2 ^ 24) (omega (arith, c.if-hits-gt16777216.false))

pub returns : goal.returns
unfolding as_score
returns c = sym (rw (le-ltb 16777216 c.args.hits (omega (arith, c.if-hits-gt16777216.false))))
