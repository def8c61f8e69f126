-- `Bits`: NaN is shown by its name, and what is none by its bits, whose digits std's are.
use Rattle.std.proofs.Common.{◌≡◌, Some, ℕ, ◌<◌, ◌^◌, ap, ◌∙◌, subst, arith}
use Rattle.std.specs.Fmt.{styled_digits_output}
use Rattle.console.specs.Bits.{bits_of, shown_bits, no_nan, shown-nan, shown-some}
use Rattle.console.specs.Shown.{shown-word}
use Rattle.console.proofs.number.BitsDisplay.fmt.Goals as goal

pub returns-then-x-clause-writes : goal.returns-then-x-clause-writes
returns-then-x-clause-writes g c = rw (← shown-nan c.args.self.now.0 c.if-x.true) c.write_str.ensures.writes

pub returns-else-x-clause-writes : goal.returns-else-x-clause-writes
returns-else-x-clause-writes g c =
    let small : bits_of c.args.self.now.0 < 2 ^ 32 = subst (λ (n : ℕ). n < 2 ^ 32) c.bits_of.ensures (omega arith) in
    let text : styled_digits_output c.in_radix.result c.laid_out.result ≡ Some (shown_bits c.args.self.now.0)
    = rw (c.laid_out.ensures, c.in_radix.ensures, c.bits_of.ensures) (ap Some (shown-word (bits_of c.args.self.now.0) small ∙ shown-some c.args.self.now.0 (no_nan c.args.self.now.0 c.if-x.false))) in
    rw text at c.write.ensures.writes
