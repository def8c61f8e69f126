-- The fields one after the other, as the definition has them; a coordinate is read back from its bits.
use mathlib.Core.Path.{◌≡◌, sym, ap, ◌∙◌}
use lib.IntN.{ℤ}
use mathlib.Core.Bool.{Bool, true, false}
use lib.Ieee.{of_bits}
use mir.Syntax.{w32}
use mir.Val.{to_z, of_z}
use borrow.Author.Tests.{lt-ltb, le-ltb}
use Rattle.checks.specs.Checks.{far}
use Rattle.within_admission.specs.WithinAdmissionLaws.{told-row, told-col, told-orientation, told-bit, told_none, told-confidence}
use borrow.Author.Rules.{rules}
use Rattle.within_admission.proofs.fault_of.Goals as goal
use Rattle.within_admission.proofs.fault_of.Goals.{then-is_far-via-then-is_far, then-is_far-via-else-is_far+then-is_far-2}

-- what was told of a coordinate, which is read back
told : (x : ℤ) (r b : Bool) → to_z w32 (of_z w32 x) ≡ x → r ≡ far (to_z w32 (of_z w32 x)) → r ≡ b → far x ≡ b
told x r b s e f = sym (e ∙ ap far s) ∙ f

pub returns-then-is_far : goal.returns-then-is_far
returns-then-is_far c = elim c.then-is_far.branch [
  | then-is_far-via-then-is_far w ↦ told-row _ _ (told c.args.edge.row _ true (search rules) c.is_far.ensures w.if-is_far.true)
  | then-is_far-via-else-is_far+then-is_far-2 w ↦
      told-col _ _ (told c.args.edge.row _ false (search rules) c.is_far.ensures w.if-is_far.false)
      (told c.args.edge.col _ true (search rules) w.is_far-else-is_far.ensures w.if-is_far-2.true)
]

pub returns-then-edge-gt1 : goal.returns-then-edge-gt1
returns-then-edge-gt1 c =
    told-orientation _ _ (told c.args.edge.row _ false (search rules) c.is_far.ensures c.if-is_far.false)
    (told c.args.edge.col _ false (search rules) c.is_far-else-is_far.ensures c.if-is_far-2.false)
    (lt-ltb _ _ c.if-edge-gt1.true)

pub returns-then-edge-gt1-2 : goal.returns-then-edge-gt1-2
returns-then-edge-gt1-2 c =
    told-bit _ _ (told c.args.edge.row _ false (search rules) c.is_far.ensures c.if-is_far.false)
    (told c.args.edge.col _ false (search rules) c.is_far-else-is_far.ensures c.if-is_far-2.false)
    (le-ltb _ _ c.if-edge-gt1.false) (lt-ltb _ _ c.if-edge-gt1-2.true)

pub returns-then-in_range : goal.returns-then-in_range
unfolding of_bits
returns-then-in_range c =
    told_none _ _ (told c.args.edge.row _ false (search rules) c.is_far.ensures c.if-is_far.false)
    (told c.args.edge.col _ false (search rules) c.is_far-else-is_far.ensures c.if-is_far-2.false)
    (le-ltb _ _ c.if-edge-gt1.false) (le-ltb _ _ c.if-edge-gt1-2.false)
    (sym c.in_range.ensures ∙ c.if-in_range.true)

pub returns : goal.returns
unfolding of_bits
returns c =
    told-confidence _ _ (told c.args.edge.row _ false (search rules) c.is_far.ensures c.if-is_far.false)
    (told c.args.edge.col _ false (search rules) c.is_far-else-is_far.ensures c.if-is_far-2.false)
    (le-ltb _ _ c.if-edge-gt1.false) (le-ltb _ _ c.if-edge-gt1-2.false)
    (sym c.in_range.ensures ∙ c.if-in_range.false)
