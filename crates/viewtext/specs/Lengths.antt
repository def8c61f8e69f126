-- How long the two tables of a board file may be. `Board::read` asks `is_length` of both; `first-kept` and `table_fits` say that there is room for what it lets through. `Kept`, `Whole` and their
-- laws are of a reader that had both tables in one array and a fault as a number; a board has these facts as its fields.
use Rattle.std.specs.Prelude.{◌≡◌, ℕ, ◌+◌, ◌<◌, ◌≤◌, Bool, true, false, cond, not, ◌==◌}
use Rattle.std.proofs.Common.{sym, ap, ◌∙◌, true≢false, arith, eqb-true}
use Rattle.ranges.specs.Ranges.{pole_length}
use Rattle.viewtext.specs.Board.{pole-most}

-- whether the second table, or the first, may have so many patterns
unfoldable pub is_length : Bool → ℕ → Bool
is_length second n = cond second (n == 167) (pole_length n)

-- where the second table begins, or the first
unfoldable pub start_of : Bool → ℕ
start_of second = cond second 500 0

-- the first table is a pole's, where there is one: so many tables, and the length of the first
abbrev pub Kept : ℕ → ℕ → Type 0
Kept tables length = 0 < tables → pole_length length ≡ true

-- the first table is a pole's, where nothing is at fault
abbrev pub Whole : ℕ → ℕ → Type 0
Whole what length = what ≡ 0 → pole_length length ≡ true

-- a length that was found good
good : (r x : Bool) → not r ≡ false → r ≡ x → true ≡ x
good true x h e = e
good false x h e = absurd (true≢false h)

-- a table of a good length ends within the array
pub table_fits : (second : Bool) (n : ℕ) (r : Bool) → not r ≡ false → r ≡ is_length second n → start_of second + n ≤ 667
unfolding is_length start_of
table_fits true n r h e = omega (arith, eqb-true n 167 (sym (good r _ h e)))
table_fits false n r h e = omega (arith, pole-most n (good r _ h e))

-- the first table has a pole's length, and with the second it keeps it
pub first-kept : (second : Bool) (n : ℕ) (r : Bool) → second ≡ false → not r ≡ false → r ≡ is_length second n → pole_length n ≡ true
unfolding is_length
first-kept second n r f h e = sym (good r _ h e ∙ ap (λ (s : Bool). cond s (n == 167) (pole_length n)) f)

pub second-kept : (tables length : ℕ) → (tables == 1) ≡ true → Kept tables length → pole_length length ≡ true
second-kept tables length e k = k (omega (arith, eqb-true tables 1 e))

-- so many tables of that length, written otherwise
pub kept_same : (t l u m : ℕ) → u ≡ t → m ≡ l → Kept t l → Kept u m
kept_same t l u m p q k h = ap pole_length q ∙ k (omega (arith, p, h))
