-- Request C-17: "Keep a record with the placing, the list length, and hits and misses for each orientation as listed". What one edge more or less makes of a record.
use Rattle.std.specs.Prelude.{◌≡◌, Bool, true, false, not, ◌&&◌, cond, ℕ, ◌+◌, ◌-◌, eqb}
use Rattle.laws.specs.Words.{put}
use Rattle.answer.specs.declared.Square.{Square}
use Rattle.tally.specs.declared.Tally.{Tally}

-- "18 when the position to remove or flip doesn't exist"
abbrev pub no_such_edge : ℕ
no_such_edge = 18

-- "24 when the record's length is above the slices' or its hits and misses don't add up to it", "24 also when the record has no such hit or miss to give up"
abbrev pub bad_record : ℕ
bad_record = 24

-- an edge with the listed orientation o belongs to one of four counts: the hits (w true) or the misses of the side that it is listed on
abbrev pub belongs : ℕ → Bool → ℕ → Bool → Bool
belongs o hit side w = eqb o side && cond w hit (not hit)

-- its hits and misses add up to its length
abbrev pub Adds : Tally → Type 0
Adds T = T.horizontal_hits + T.horizontal_misses + (T.vertical_hits + T.vertical_misses) ≡ T.edges

-- a record of the six
abbrev pub tally : Square → ℕ → ℕ → ℕ → ℕ → ℕ → Tally
tally q n a b c d = record { square = q; edges = n; horizontal_hits = a; horizontal_misses = b; vertical_hits = c; vertical_misses = d }

-- one edge more
unfoldable pub with_edge : Tally → ℕ → Bool → Tally
with_edge T o hit =
    tally T.square (T.edges + 1)
    (put ◌+◌ (belongs o hit 0 true) T.horizontal_hits 1)
    (put ◌+◌ (belongs o hit 0 false) T.horizontal_misses 1)
    (put ◌+◌ (belongs o hit 1 true) T.vertical_hits 1)
    (put ◌+◌ (belongs o hit 1 false) T.vertical_misses 1)

-- one edge less
unfoldable pub without_edge : Tally → ℕ → Bool → Tally
without_edge T o hit =
    tally T.square (T.edges - 1)
    (put ◌-◌ (belongs o hit 0 true) T.horizontal_hits 1)
    (put ◌-◌ (belongs o hit 0 false) T.horizontal_misses 1)
    (put ◌-◌ (belongs o hit 1 true) T.vertical_hits 1)
    (put ◌-◌ (belongs o hit 1 false) T.vertical_misses 1)

-- the hits or the misses of the orientation o, 0 or 1
unfoldable pub count_of : Tally → ℕ → Bool → ℕ
count_of T o hit = cond (eqb o 0) (cond hit T.horizontal_hits T.horizontal_misses) (cond hit T.vertical_hits T.vertical_misses)
