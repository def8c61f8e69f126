-- C-11, where a refusal points to: "let each refusal about an edge field carry the list and the position of the first bad edge of that kind". What that means, without the code's search.
use Rattle.std.specs.Prelude.{◌≡◌, Bool, true, false, cond, ◌||◌, List, [], ℕ, ◌<◌, eqb, Float, None, Option, Some}
use Rattle.board.specs.Hits.{EdgeList, size, edges}
use Rattle.refusals.specs.declared.Refusal.{Refusal}
use Rattle.refusals.specs.declared.EdgePlace.{EdgePlace}
use Rattle.refusals.specs.declared.ListName.{ListName}
use Rattle.refusals.specs.declared.ListName.TheVariants.{Logical, Physical, Only}
use Rattle.refusals.specs.Numbers as why
use Rattle.ranges.specs.Ranges.{bad_byte}
use Rattle.checks.specs.Checks as check
use Rattle.ranges.specs.Ranges as range

-- "4 to 6, 16 and 17 carry list and position"
abbrev pub about_edge : ℕ → Bool
about_edge n = eqb n why.bad_coordinate || (eqb n why.bad_orientation || (eqb n why.bad_bit || (eqb n why.bad_confidence || eqb n why.bad_likelihood)))

-- a refusal about an edge has a place, and every other has none
abbrev pub PlaceFits : ℕ → Option EdgePlace → Type 0
PlaceFits n None = about_edge n ≡ false
PlaceFits n (Some p) = about_edge n ≡ true

-- a call of two lists has no only one, and a call of one list nothing else
abbrev pub no_edges : EdgeList
no_edges = edges [] [] [] [] []

abbrev pub two_lists : EdgeList → EdgeList → ListName → EdgeList
two_lists logical physical Logical = logical
two_lists logical physical Physical = physical
two_lists logical physical Only = no_edges

abbrev pub one_list : EdgeList → ListName → EdgeList
one_list E Logical = no_edges
one_list E Physical = no_edges
one_list E Only = E

-- edge i of a list is bad in the way of a number: a row or a column is one kind, and so is a match or a mismatch likelihood, of which `unlikely` tells
abbrev pub bad_field : ℕ → EdgeList → Bool → ℕ → Bool
bad_field n E unlikely i =
    cond (eqb n why.bad_coordinate) (check.bad_coordinate E.rows E.cols i)
    (cond (eqb n why.bad_orientation) (bad_byte 1 E.orientations i)
    (cond (eqb n why.bad_bit) (bad_byte 1 E.bits i)
    (cond (eqb n why.bad_confidence) (range.bad_confidence E.confidences i)
    (cond (eqb n why.bad_likelihood) unlikely false))))

-- only the physical list of a soft call has likelihoods
abbrev pub no_likelihoods : ListName → ℕ → Bool
no_likelihoods l i = false

abbrev pub unlikely_in : List Float → List Float → ListName → ℕ → Bool
unlikely_in ms us Logical i = false
unlikely_in ms us Physical i = check.bad_likelihood ms us i
unlikely_in ms us Only i = false

-- how many edges each list has, and which edges are bad
abbrev pub counted : (ListName → EdgeList) → ListName → ℕ
counted lists l = size (lists l)

abbrev pub bad_in : (ListName → EdgeList) → (ListName → ℕ → Bool) → ℕ → ListName → ℕ → Bool
bad_in lists unlikely n l i = bad_field n (lists l) (unlikely l i) i

-- an edge of a call with so many edges in each list, of which `bad l i` tells whether edge i of list l is bad: "the first bad edge of that kind", "logical list first"
pub record FirstBad (count : ListName → ℕ) (bad : ListName → ℕ → Bool) (p : EdgePlace) : Type 0 where
  pub inside : p.position < count p.list
  pub is_bad : bad p.list p.position ≡ true
  pub none_before : (j : ℕ) → j < p.position → bad p.list j ≡ false
  pub logical_good : p.list ≡ Physical → (j : ℕ) → j < count Logical → bad Logical j ≡ false

-- where a refusal by the number n points to
abbrev pub Points : (ListName → ℕ) → (ℕ → ListName → ℕ → Bool) → ℕ → Option EdgePlace → Type 0
Points count bad n None = Unit
Points count bad n (Some p) = FirstBad count (bad n) p

-- both together: what is promised of the place of a refusal
pub record PlaceRight (count : ListName → ℕ) (bad : ℕ → ListName → ℕ → Bool) (r : Refusal) : Type 0 where
  pub fits : PlaceFits r.number r.place
  pub points : Points count bad r.number r.place
