-- Request C-17: the record of the first edges of a list, counted from nothing: 2, 24 when the length is above the slices', 3 over 8,192, then match statistics' numbers on that front.
use Rattle.std.specs.Prelude.{List, ℕ, ◌≤◌, ◌<◌, ltb, get_or, length, take, Err, Ok}
use Rattle.answer.specs.declared.Square.{Square}
use Rattle.board.specs.Hits.{EdgeList, Board, edges, size}
use Rattle.refusals.specs.Admission.{Admission}
use Rattle.refusals.specs.Numbers as why
use Rattle.checks.specs.Checks.{lengths_differ}
use Rattle.findings.specs.Findings.{refused_if, or_else}
use Rattle.admission.specs.Refusals.{stats_admission}
use Rattle.tally.specs.declared.Tally.{Tally}
use Rattle.tally.specs.Answers.{TallyAnswer}
use Rattle.tally.specs.Tally as tally
use Rattle.tally.specs.Counted.{tally_of}

-- each orientation code is 0 or 1
abbrev pub Sides : List ℕ → Type 0
Sides xs = (i : ℕ) → i < length xs → get_or xs i 0 ≤ 1

-- the first n edges, a list by themselves
unfoldable pub front : ℕ → EdgeList → EdgeList
front n E = edges (take n E.rows) (take n E.cols) (take n E.orientations) (take n E.bits) (take n E.confidences)

-- what is found: match statistics judge the front
unfoldable pub begin_found : EdgeList → ℕ → Square → Board → Admission
begin_found E n q B =
    or_else (refused_if (lengths_differ E) why.lengths_differ)
    (or_else (refused_if (ltb (size E) n) tally.bad_record)
    (or_else (refused_if (ltb 8192 n) why.list_size) (stats_admission (front n E) q.transform q.row q.col B)))

-- refused, or the record
abbrev pub or_kept : Admission → Tally → TallyAnswer
or_kept (Ok _) T = Ok T
or_kept (Err r) T = Err r

-- of a whole list
unfoldable pub counted_all : EdgeList → Square → Board → TallyAnswer
counted_all E q B = or_kept (stats_admission E q.transform q.row q.col B) (tally_of B E q (size E))

-- THE ANSWER: the record of the first n edges
unfoldable pub tally_answer : EdgeList → ℕ → Square → Board → TallyAnswer
tally_answer E n q B = or_kept (begin_found E n q B) (tally_of B E q n)
