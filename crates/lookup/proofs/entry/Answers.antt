use mathlib.Core.Path.{ap}
use mathlib.Core.List.{List, []}
use lib.ListN.{get_or}
use lib.IntN.{ℤ, pos}
use native.Mathlib.Omega.{arith}
use mir.Syntax.{w32}
use Rattle.laws.specs.Signed.{read_at}
use Rattle.board.specs.Transform.{mat}
use Rattle.board.specs.TransformLaws.{mat-unit}
use Rattle.lookup.proofs.entry.Goals as goal

pub returns : goal.returns
unfolding mat
returns c =
    let s = c.before in
    read_at w32 (ap (λ (m : List (List ℤ)). get_or (get_or m s.args.i []) s.args.j (pos 0)) s.requires.0) (omega (arith, mat-unit s.args.t s.args.i s.args.j))
