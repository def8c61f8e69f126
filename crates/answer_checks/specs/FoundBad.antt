-- C-22: "25 for a found answer without 1 to 8,192 edges, with hits over edges or runner-up hits over hits"; C-23: "25 as in C-22".
use Rattle.std.specs.Prelude.{Bool, ◌||◌, ℕ, ◌≤◌, ◌<◌, eqb, ltb}
use Rattle.answer.specs.declared.Decoded.{Decoded}

-- the number of that refusal
abbrev pub bad_figures : ℕ
bad_figures = 25

-- a found answer that does not fit itself
unfoldable pub found_bad : Decoded → Bool
found_bad d = eqb d.edges 0 || (ltb 8192 d.edges || (ltb d.edges d.hits || ltb d.hits d.runner_up_hits))

-- one that does: what the words say, as facts
pub record FoundFits (d : Decoded) : Type 0 where
  pub some : 0 < d.edges
  pub few : d.edges ≤ 8192
  pub hits : d.hits ≤ d.edges
  pub runner-up : d.runner_up_hits ≤ d.hits
