-- `is_likelihood`: its two tests are the two of `acceptable`, with the ends as the code's constants have them.
use mathlib.Core.Path.{◌≡◌, refl, sym, ap, ◌∙◌}
use mathlib.Core.Bool.{Bool, true, false, ◌&&◌}
use lib.IntN.{pos}
use lib.Ieee.{Float, fin, binary32, of_bits, neg, le}
use Rattle.likelihood.specs.Likelihood.{acceptable}
use Rattle.likelihood.proofs.is_likelihood.Goals as goal

-- the code's constants, by their bits
low-is : neg (of_bits binary32 0x4780_0000) ≡ fin true 1 (pos 16)
unfolding of_bits neg
low-is = refl

high_is : of_bits binary32 0x4780_0000 ≡ fin false 1 (pos 16)
unfolding of_bits
high_is = refl

-- both tests are one
both : (x : Float) (t : Bool) → le (neg (of_bits binary32 0x4780_0000)) x ≡ t → (t && le x (of_bits binary32 0x4780_0000)) ≡ acceptable x
unfolding acceptable
both x t e = λ i. (sym e ∙ ap (λ (k : Float). le k x) low-is) i && le x (high_is i)

pub returns-then-x : goal.returns-then-x
returns-then-x c = both c.args.x true c.if-x.true

pub returns-else-x : goal.returns-else-x
returns-else-x c = c.if-x.false ∙ both c.args.x false c.if-x.false
