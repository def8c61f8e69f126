-- What is found wrong with a call, kind by kind, and the refusal that comes of it. Document 01, 'Refusal numbers': "1 to 9 come first, lowest number over all lists", and C-11: "16
-- orientation and 17 bit come between 4 and 5 .. logical list first". So the kind goes before the list: a bad coordinate of the physical list comes before a bad orientation of the logical one.
use Rattle.std.specs.Prelude.{Bool, cond, List, [], ◌∷◌, ℕ, ltb, length, Float, Err, Ok}
use Rattle.board.specs.Hits.{EdgeList, size}
use Rattle.refusals.specs.Admission.{Admission, accepted}
use Rattle.refusals.specs.declared.ListName.{ListName}
use Rattle.refusals.specs.declared.ListName.TheVariants as list
use Rattle.refusals.specs.Numbers.{numbered, edge_refusal}
use Rattle.refusals.specs.Numbers as why
use Rattle.checks.specs.Checks.{lengths_differ, size_bad, likelihoods_differ, first_bad_coordinate, first_bad_likelihood}
use Rattle.ranges.specs.Ranges.{first_bad_byte, first_bad_confidence}

-- refused by a number where it applies
abbrev pub refused_if : Bool → ℕ → Admission
refused_if bad number = cond bad (Err (numbered number)) accepted

-- refused at position i of a list of n edges; where no edge is bad, the position is n
abbrev pub refused_at : ℕ → ListName → ℕ → ℕ → Admission
refused_at number l i n = cond (ltb i n) (Err (edge_refusal number l i)) accepted

-- the first of two that is a refusal
unfoldable pub or_else : Admission → Admission → Admission
or_else (Ok _) b = b
or_else (Err r) b = Err r

-- the first of several that is a refusal
unfoldable pub first_of : List Admission → Admission
first_of [] = accepted
first_of (a ∷ xs) = or_else a (first_of xs)

-- what is found, of each kind
pub record Findings : Type 0 where
  pub room : Admission
  pub lengths : Admission
  pub size : Admission
  pub coordinate : Admission
  pub orientation : Admission
  pub bit : Admission
  pub confidence : Admission
  pub likelihood : Admission
  pub transform : Admission
  pub table : Admission
  pub setting : Admission

-- THE ORDER of early refusals, for all entry points: 1, 2, 3, 4, 16, 17, 5, 6, 7, 8, 9
abbrev pub in_order : Findings → List Admission
in_order f =
    f.room ∷ f.lengths ∷ f.size ∷ f.coordinate ∷ f.orientation ∷ f.bit ∷ f.confidence ∷ f.likelihood ∷ f.transform ∷ f.table ∷ f.setting ∷ []

-- the refusal that comes of what was found: the earliest kind in this order
unfoldable pub first_found : Findings → Admission
first_found f = first_of (in_order f)

-- what is found in two parts of a call: of each kind, the first part goes first
abbrev pub joined : Findings → Findings → Findings
joined f g = record {
  room = or_else f.room g.room;
  lengths = or_else f.lengths g.lengths;
  size = or_else f.size g.size;
  coordinate = or_else f.coordinate g.coordinate;
  orientation = or_else f.orientation g.orientation;
  bit = or_else f.bit g.bit;
  confidence = or_else f.confidence g.confidence;
  likelihood = or_else f.likelihood g.likelihood;
  transform = or_else f.transform g.transform;
  table = or_else f.table g.table;
  setting = or_else f.setting g.setting;
}

-- in the lent room
unfoldable pub room_findings : Bool → Findings
room_findings short = record {
  room = refused_if short why.room_too_short;
  lengths = accepted;
  size = accepted;
  coordinate = accepted;
  orientation = accepted;
  bit = accepted;
  confidence = accepted;
  likelihood = accepted;
  transform = accepted;
  table = accepted;
  setting = accepted;
}

-- in one list, which must have at least `least` edges: C-11: "let each refusal about an edge field carry the list and the position of the first bad edge of that kind"
unfoldable pub list_findings : ℕ → ListName → EdgeList → Findings
list_findings least l E = record {
  room = accepted;
  lengths = refused_if (lengths_differ E) why.lengths_differ;
  size = refused_if (size_bad least (size E)) why.list_size;
  coordinate = refused_at why.bad_coordinate l (first_bad_coordinate E.rows E.cols) (size E);
  orientation = refused_at why.bad_orientation l (first_bad_byte 1 E.orientations) (length E.orientations);
  bit = refused_at why.bad_bit l (first_bad_byte 1 E.bits) (length E.bits);
  confidence = refused_at why.bad_confidence l (first_bad_confidence E.confidences) (length E.confidences);
  likelihood = accepted;
  transform = accepted;
  table = accepted;
  setting = accepted;
}

-- the kinds of a list that are about an edge, in the order
unfoldable pub fields_found : ListName → EdgeList → Admission
unfolding list_findings
fields_found l E =
    let f = list_findings 0 l E in
    or_else f.coordinate (or_else f.orientation (or_else f.bit f.confidence))

-- in the likelihoods of the physical list, of n edges: they are as many as its edges, and so not over 8,192; a match or a mismatch likelihood is one kind
unfoldable pub likelihood_findings : ℕ → List Float → List Float → Findings
likelihood_findings n ms us = record {
  room = accepted;
  lengths = refused_if (likelihoods_differ n ms us) why.lengths_differ;
  size = refused_if (size_bad 0 (length ms)) why.list_size;
  coordinate = accepted;
  orientation = accepted;
  bit = accepted;
  confidence = accepted;
  likelihood = refused_at why.bad_likelihood list.Physical (first_bad_likelihood ms us) (length ms);
  transform = accepted;
  table = accepted;
  setting = accepted;
}

-- in the transforms, the tables and the other settings
unfoldable pub settings_findings : Bool → Bool → Bool → Findings
settings_findings transforms tables rest = record {
  room = accepted;
  lengths = accepted;
  size = accepted;
  coordinate = accepted;
  orientation = accepted;
  bit = accepted;
  confidence = accepted;
  likelihood = accepted;
  transform = refused_if transforms why.bad_transform;
  table = refused_if tables why.bad_table;
  setting = refused_if rest why.bad_setting;
}
