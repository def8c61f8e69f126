-- Document 01, 'Soft selection': "Margin = (first - second) / edges. Below the soft margin: refused." Two f32 operations, each rounded once.
use Rattle.std.specs.Prelude.{Bool, ℕ, pos, Float}
use Rattle.std.specs.Float.Ieee.{lt, sub, div, of_int}
use Rattle.std.specs.Float.{binary32}
use Rattle.margin.specs.declared.slots.SoftCandidate.{SoftCandidate}

-- of the totals of first and second place, over so many edges
abbrev pub soft_margin : SoftCandidate → SoftCandidate → ℕ → Float
soft_margin first second edges = div binary32 (sub binary32 first.total second.total) (of_int binary32 (pos edges))

-- "Below the soft margin"
abbrev pub below_margin : Float → Float → Bool
below_margin margin soft-margin = lt margin soft-margin
