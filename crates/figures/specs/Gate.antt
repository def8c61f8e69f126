-- Document 01, 'Hard selection': "Gate: margin = best minus runner-up hits, not below 0; pass exactly if margin > misses." (`-` of numbers is not below 0.)
use Rattle.std.specs.Prelude.{Bool, ℕ, ◌-◌, ltb}

-- of `edges` edges, with `best` hits and a runner-up of `next` hits
abbrev pub passed : ℕ → ℕ → ℕ → Bool
passed edges best next = ltb (edges - best) (best - next)
