-- `signed`: two's complement is the definition, in its lower and in its upper half.
use Rattle.std.proofs.Common.{◌≡◌, ℕ, suc, ◌-◌, Bool, true, false, negsuc, refl, ap, ◌∙◌, arith, w32, nat_lt, ltb-true}
use mir.Facts.{to_z_pos, of_z-to_z}
use mir.Val.{to_z, of_z}
use Rattle.wordfile.specs.Bits.{signed_of, signed_low, signed_high}
use Rattle.wordfile.proofs.words.signed.Goals as goal

same : (x : ℕ) (b : Bool) → nat_lt x 2147483648 ≡ b → to_z w32 x ≡ signed_of x
same x true e = to_z_pos w32 (ltb-true x 2147483648 e) ∙ signed_low x e
same x false e =
    let k : 4294967296 - suc x ≡ 4294967295 - x = omega arith in
    rw e (ap negsuc k ∙ signed_high x e)

pub returns : goal.returns
returns c = ap (λ r. to_z w32 (of_z w32 r)) c.cast_signed.ensures ∙ ap (to_z w32) (of_z-to_z c.ranges.x) ∙ same c.args.x (nat_lt c.args.x 2147483648) refl
