use mathlib.Core.Path.{◌≡◌, ap, ◌∙◌}
use mathlib.Core.Bool.{not}
use mathlib.Core.List.{List, []}
use native.Mathlib.Omega.{arith}
use lib.Dec.{eqb}
use lib.ListN.{get_or}
use lib.IntN.{ℤ, pos}
use mir.Syntax.{w32}
use mir.Val.{of_z}
use Rattle.laws.specs.Words.{eq_z}
use Rattle.laws.specs.Signed.{fits-abs, said-eq}
use Rattle.board.specs.Transform.{mat}
use Rattle.board.specs.TransformLaws.{mat-unit}
use Rattle.classes.specs.Classes.{straight}
use Rattle.classes.proofs.is_straight.Goals as goal

pub returns-then-horizontal : goal.returns-then-horizontal
unfolding straight mat
returns-then-horizontal c =
    let turns : eqb (of_z w32 (get_or (get_or c.args.matrix 1 []) 0 (pos 0))) 0 ≡ eq_z (mat c.args.t 1 0) (pos 0) = let f = fits-abs {w = w32} (mat c.args.t 1 0) (omega (arith, mat-unit c.args.t 1 0)) in
    let z = fits-abs {w = w32} (pos 0) (omega arith) in
    ap (λ (m : List (List ℤ)). eqb (of_z w32 (get_or (get_or m 1 []) 0 (pos 0))) 0) c.requires ∙ said-eq w32 (mat c.args.t 1 0) (pos 0) f z in
    rw c.if-horizontal.true (turns)

pub returns : goal.returns
unfolding straight mat
returns c =
    let turns : eqb (of_z w32 (get_or (get_or c.args.matrix 1 []) 0 (pos 0))) 0 ≡ eq_z (mat c.args.t 1 0) (pos 0) = let f = fits-abs {w = w32} (mat c.args.t 1 0) (omega (arith, mat-unit c.args.t 1 0)) in
    let z = fits-abs {w = w32} (pos 0) (omega arith) in
    ap (λ (m : List (List ℤ)). eqb (of_z w32 (get_or (get_or m 1 []) 0 (pos 0))) 0) c.requires ∙ said-eq w32 (mat c.args.t 1 0) (pos 0) f z in
    rw c.if-horizontal.false (ap not (turns))
