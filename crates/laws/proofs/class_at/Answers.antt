use mathlib.Core.Path.{ap, ◌∙◌}
use Prim.Native.Nat.{ℕ, ◌+◌, ◌%◌}
use native.Mathlib.Nat.{mod-lt}
use lib.IntN.{ℤ}
use mir.Facts.{to_z-of_z}
use Rattle.laws.specs.Words.{emod}
use Rattle.laws.specs.RemainderLaws.{emod-add}
use Rattle.laws.proofs.class_at.Goals as goal

pub returns : goal.returns
returns c =
    let s = c in (
      ap (λ (z : ℕ). (z + s.args.r) % s.args.n) (c.rem_euclid.ensures.0 ∙ ap (λ (z : ℤ). emod z s.args.n) (to_z-of_z s.ranges.x))
          ∙ emod-add s.args.x s.args.r s.args.n s.requires.0,
      mod-lt _ s.requires.0,
    )
