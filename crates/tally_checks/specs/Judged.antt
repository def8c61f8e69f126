-- Request C-17: "Refusals, in this order: 2; 24 when the record's length is above the slices' or its hits and misses don't add up to it; 3 when adding to full slices or to 8,192 edges or
-- more; the field numbers of the edge added (its position: the length), or of the one named if it exists; 7 to 9; 18 when the position to remove or flip doesn't exist; 24 also when the
-- record has no such hit or miss to give up."
use Rattle.std.specs.Prelude.{Bool, false, not, ◌||◌, cond, [], ◌∷◌, ℕ, ◌+◌, ltb, leb, eqb, get_or, length, Float, Err, None, Ok, Option, Some}
use Rattle.std.specs.Float.{nan}
use Rattle.laws.specs.Words.{one_f}
use Rattle.answer.specs.declared.Square.{Square}
use Rattle.board.specs.declared.edge.Edge.{Edge}
use Rattle.board.specs.Hits.{EdgeList, Board, edges, size, edge_at, edge_hit}
use Rattle.refusals.specs.declared.EdgePlace.{EdgePlace}
use Rattle.refusals.specs.declared.Refusal.{Refusal}
use Rattle.refusals.specs.Admission.{Admission, accepted}
use Rattle.refusals.specs.declared.ListName.TheVariants as list
use Rattle.refusals.specs.Numbers.{numbered, edge_refusal}
use Rattle.refusals.specs.Numbers as why
use Rattle.checks.specs.Checks.{far, lengths_differ, origin_bad}
use Rattle.ranges.specs.Ranges.{in_range}
use Rattle.findings.specs.Findings.{refused_if, or_else, first_of, first_found, settings_findings}
use Rattle.admission.specs.Refusals.{tables_bad}
use Rattle.tally.specs.declared.Tally.{Tally}
use Rattle.tally.specs.Answers.{Judged}
use Rattle.tally.specs.Tally.{count_of}
use Rattle.tally.specs.Tally as tally
use Rattle.tally.specs.Counted.{hit_at}

-- ---- what is found, of each kind
-- "24 when the record's length is above the slices' or its hits and misses don't add up to it"
unfoldable pub record_bad : ℕ → Tally → Bool
record_bad n T = ltb n T.edges || not (eqb (T.horizontal_hits + T.horizontal_misses + (T.vertical_hits + T.vertical_misses)) T.edges)

-- 2, and then 24
unfoldable pub record_found : EdgeList → Tally → Admission
record_found E T = or_else (refused_if (lengths_differ E) why.lengths_differ) (refused_if (record_bad (size E) T) tally.bad_record)

-- "3 when adding to full slices or to 8,192 edges or more"
unfoldable pub full : ℕ → ℕ → Bool
full n edges = leb n edges || leb 8192 edges

-- refused at a position of the only list where it applies
abbrev pub refused_there : ℕ → ℕ → Bool → Admission
refused_there number position bad = cond bad (Err (edge_refusal number list.Only position)) accepted

-- "the field numbers of the edge": 4, 16, 17, 5, each with its place
unfoldable pub edge_found : Edge → Float → ℕ → Admission
edge_found e w position =
    first_of
    (refused_there why.bad_coordinate position (far e.row || far e.col)
    ∷ refused_there why.bad_orientation position (ltb 1 e.orientation)
    ∷ refused_there why.bad_bit position (ltb 1 e.bit)
    ∷ refused_there why.bad_confidence position (not (in_range one_f w))
    ∷ [])

-- "7 to 9": the transform number, the tables with any L, the origin
unfoldable pub placing_found : Square → Board → Admission
placing_found q B = first_found (settings_findings (ltb 7 q.transform) (tables_bad B) (origin_bad (length B.h) q.row q.col))

-- ---- the two orders
-- adding an edge
unfoldable pub add_found : EdgeList → Tally → Edge → Float → Board → Admission
add_found E T e w B =
    or_else (record_found E T)
    (or_else (refused_if (full (size E) T.edges) why.list_size)
    (or_else (edge_found e w T.edges) (placing_found T.square B)))

-- the confidence of edge i
abbrev pub confidence_at : EdgeList → ℕ → Float
confidence_at E i = get_or E.confidences i nan

-- removing or flipping the edge at a position, where there is one
unfoldable pub found_there : Edge → Float → ℕ → Tally → Board → Admission
found_there e w position T B =
    or_else (or_else (edge_found e w position) (placing_found T.square B)) (refused_if (eqb (count_of T e.orientation (edge_hit B e T.square)) 0) tally.bad_record)

-- where there is none
unfoldable pub found_missing : Square → Board → Admission
found_missing q B = or_else (placing_found q B) (Err (numbered tally.no_such_edge))

unfoldable pub named_found : EdgeList → Tally → ℕ → Board → Admission
named_found E T position B =
    or_else (record_found E T)
    (cond (ltb position T.edges) (found_there (edge_at E position) (confidence_at E position) position T B) (found_missing T.square B))

-- ---- the judgement: refused, or taken with whether the edge is a hit
unfoldable pub taken : Admission → Bool → Judged
taken (Ok _) hit = Ok hit
taken (Err r) hit = Err r

unfoldable pub judged_edge : Edge → Float → ℕ → Square → Board → Judged
judged_edge e w position q B = taken (or_else (edge_found e w position) (placing_found q B)) (edge_hit B e q)

unfoldable pub judged_missing : Square → Board → Judged
judged_missing q B = taken (found_missing q B) false

unfoldable pub judged_there : Edge → Float → ℕ → Tally → Board → Judged
judged_there e w position T B = taken (found_there e w position T B) (edge_hit B e T.square)

unfoldable pub judged_add : EdgeList → Tally → Edge → Float → Board → Judged
judged_add E T e w B = taken (add_found E T e w B) (edge_hit B e T.square)

unfoldable pub judged_named : EdgeList → Tally → ℕ → Board → Judged
judged_named E T position B = taken (named_found E T position B) (hit_at B E T.square position)

-- ---- the list with one edge alone, and its refusals at the edge's own position
abbrev pub alone : Edge → Float → EdgeList
alone e w = edges (e.row ∷ []) (e.col ∷ []) (e.orientation ∷ []) (e.bit ∷ []) (w ∷ [])

unfoldable pub moved_to : ℕ → ℕ → Option EdgePlace → Refusal
moved_to position number None = numbered number
moved_to position number (Some p) = edge_refusal number list.Only position

abbrev pub moved : ℕ → Refusal → Refusal
moved position r = moved_to position r.number r.place
