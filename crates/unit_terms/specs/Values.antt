-- Request C-15: the units of a confidence, and hits and weight of edges in one number.
use Rattle.std.specs.Prelude.{ℕ, ◌+◌, nat_abs, Float}
use Rattle.likelihood.specs.Likelihood.{quantised}

-- "each confidence becomes a whole number of 2^-24 units, halves away from zero"; -0 is 0
unfoldable pub unit_of : Float → ℕ
unit_of x = nat_abs (quantised x)

-- what one hit counts for in a value: 2^38. A list has at most 2^13 edges of at most 2^24 units, so that all units of a list are below it, and the order of sums of values is the order by hits and
-- then by weight
abbrev pub one_hit : ℕ
one_hit = 274877906944

-- what an edge of that confidence is worth: a hit, and its units
unfoldable pub value_of : Float → ℕ
value_of x = one_hit + unit_of x
