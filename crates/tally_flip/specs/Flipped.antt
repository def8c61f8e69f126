-- Request C-17: an edge's bit flipped, 0 to 1 or 1 to 0; "other places stay."
use Rattle.std.specs.Prelude.{◌≡◌, Bool, not, ℕ, ◌-◌, ◌<◌, get_or, set}
use Rattle.std.proofs.Common.{arith}
use Rattle.board.specs.Hits.{EdgeList, Board, edges}
use Rattle.tally.specs.declared.Tally.{Tally}
use Rattle.tally.specs.Answers.{TallyAnswer}
use Rattle.tally.specs.Tally.{Adds, with_edge, without_edge}
use Rattle.tally.specs.TallyLaws.{without-adds}
use Rattle.tally.specs.Counted.{listed_as, hit_at}
use Rattle.tally_checks.specs.Judged.{judged_named}
use Rattle.tally_checks.proofs.JudgedLaws.{NamedOk}
use Rattle.tally_checks.specs.Edited.{Done}

-- bit p is the other one
unfoldable pub flipped_in : EdgeList → ℕ → EdgeList
flipped_in E p = edges E.rows E.cols E.orientations (set E.bits p (1 - get_or E.bits p 0)) E.confidences

-- the record gives up the hit or miss that the edge was and gains the miss or hit that it is
unfoldable pub turned : Tally → ℕ → Bool → Tally
turned T o hit = with_edge (without_edge T o hit) o (not hit)

-- the answer, and the five slices at exit
abbrev pub FlipDone : EdgeList → Tally → ℕ → Board → TallyAnswer → EdgeList → Type 0
FlipDone E T p B a L = Done (judged_named E T p B) (turned T (listed_as E p)) E (flipped_in E p) a L

fewer : (T : Tally) (o : ℕ) (hit : Bool) (p : ℕ) → p < T.edges → T.edges < 4294967296 → (without_edge T o hit).edges < 4294967295
unfolding without_edge
fewer T o hit p m l = omega arith

-- the record without the edge still adds up, and has room for one more
pub still-adds : (E : EdgeList) (T : Tally) (p : ℕ) (B : Board) → NamedOk E T p B → (b : Bool) → b ≡ hit_at B E T.square p → (S : Tally) → S ≡ without_edge T (listed_as E p) b → T.edges < 4294967296
    → Adds S × (S.edges < 4294967295)
still-adds E T p B k b h S e l = rw (e, h) (without-adds T (listed_as E p) (hit_at B E T.square p) k.orientation k.kept.adds k.some, fewer T (listed_as E p) (hit_at B E T.square p) p k.exists l)
