-- After i turns the first i edges are in their groups, in both rows. The invariant speaks of the periods by the moduli that hold them.
use mathlib.Core.List.{[]}
use Prim.Native.Nat.{◌-◌, ◌≤◌}
use lib.ListN.{length}
use Rattle.sums.specs.Sums.{likelihoods}
use Rattle.sums.specs.SumParts.{SumsFilled}
use Rattle.sums.proofs.sums.fill_sums.Given as goal
use Rattle.board.specs.Given.{edges_of}
use Rattle.likelihood.specs.Given.{likelihoods_of}

abbrev pub invariant-loop-i : goal.invariant-loop-i
invariant-loop-i l =
    (l.i ≤ length l.edges.rows.now) × SumsFilled l.h.n l.v.n (edges_of l.edges) (likelihoods_of l.likelihoods) l.t l.base l.i l.initial.sums l.sums

abbrev pub decreases-loop-i : goal.decreases-loop-i
decreases-loop-i l = l.i-end - l.i
