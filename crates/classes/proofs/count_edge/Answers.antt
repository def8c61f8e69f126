use Rattle.laws.specs.Modulus.{modulus_of}
use mathlib.Core.Path.{◌≡◌, sym, ap, subst, ◌∙◌}
use mathlib.Core.Bool.{Bool}
use Prim.Native.Nat.{ℕ, ◌≤◌, ◌<◌}
use lib.IntN.{nat_abs}
use mir.Syntax.{w32}
use mir.Val.{to_z, of_z}
use Rattle.board.specs.Sides.{period_of}
use Rattle.board.specs.declared.edge.EdgeLookup.{EdgeLookup}
use Rattle.board.specs.TransformLaws.{lookup-near}
use Rattle.classes.specs.ClassesLaws.{not_on, on-horizontal, on-vertical}
use borrow.Author.Rules.{rules}
use Rattle.classes.proofs.count_edge.Goals as goal
use Rattle.board.specs.Given.{board_of}

-- the long residue lies below the period of the side that was asked for
ap-long : (f : Bool → ℕ) (s b : Bool) {n : ℕ} → s ≡ b → n < f s → n < f b
ap-long f s b e h = rw e at h

pub add_three-requires : goal.add_three-requires
add_three-requires c =
    let row_back : to_z w32 (of_z w32 c.transform_edge_lookup-l.result.row) ≡ c.transform_edge_lookup-l.result.row = search rules in
    let col-back : to_z w32 (of_z w32 c.transform_edge_lookup-l.result.col) ≡ c.transform_edge_lookup-l.result.col = search rules in
    let near : (nat_abs c.transform_edge_lookup-l.result.row ≤ 2000002) × (nat_abs c.transform_edge_lookup-l.result.col ≤ 2000002) = let a = c.args in subst (λ (x : EdgeLookup). (nat_abs x.row ≤ 2000002) × (nat_abs x.col ≤ 2000002)) (sym c.transform_edge_lookup-l.ensures) (lookup-near a.t a.edge.row a.edge.col a.edge.orientation c.requires.edge_ok.0.near-row c.requires.edge_ok.0.near-col) in
    let p = c.requires in
    record {
      patterns = (p.board_ok.0.h, p.board_ok.1 ∙ ap (λ (s : Bool). modulus_of (period_of (board_of c.args.tables) s)) c.if-horizontal.true, ap-long (period_of (board_of c.args.tables)) _ _ c.if-horizontal.true p.edge_ok.3);
      x_bound = (rw (row_back) (near).0, rw (col-back) (near).1);
      a_bound = p.a_bound;
    }

pub returns-then-horizontal : goal.returns-then-horizontal
returns-then-horizontal c =
    let row_back : to_z w32 (of_z w32 c.transform_edge_lookup-l.result.row) ≡ c.transform_edge_lookup-l.result.row = search rules in
    let col-back : to_z w32 (of_z w32 c.transform_edge_lookup-l.result.col) ≡ c.transform_edge_lookup-l.result.col = search rules in
    let p = c.requires in
    on-horizontal (board_of c.args.tables) _ _ _ _ p.edge_ok.0.transform (c.transform_edge_lookup-l.result) c.transform_edge_lookup-l.ensures c.args.horizontal c.args.straight _ _ _ p.edge_ok.2 (sym c.is_on.ensures ∙ c.if-is_on.true) c.if-horizontal.true (row_back) (col-back) c.add_three.ensures

pub add_three-requires-then-is_on : goal.add_three-requires-then-is_on
add_three-requires-then-is_on c =
    let row_back : to_z w32 (of_z w32 c.transform_edge_lookup-l.result.row) ≡ c.transform_edge_lookup-l.result.row = search rules in
    let col-back : to_z w32 (of_z w32 c.transform_edge_lookup-l.result.col) ≡ c.transform_edge_lookup-l.result.col = search rules in
    let near : (nat_abs c.transform_edge_lookup-l.result.row ≤ 2000002) × (nat_abs c.transform_edge_lookup-l.result.col ≤ 2000002) = let a = c.args in subst (λ (x : EdgeLookup). (nat_abs x.row ≤ 2000002) × (nat_abs x.col ≤ 2000002)) (sym c.transform_edge_lookup-l.ensures) (lookup-near a.t a.edge.row a.edge.col a.edge.orientation c.requires.edge_ok.0.near-row c.requires.edge_ok.0.near-col) in
    let p = c.requires in
    record {
      patterns = (p.board_ok.0.v, p.board_ok.1 ∙ ap (λ (s : Bool). modulus_of (period_of (board_of c.args.tables) s)) c.if-horizontal.false, ap-long (period_of (board_of c.args.tables)) _ _ c.if-horizontal.false p.edge_ok.3);
      x_bound = (rw (col-back) (near).1, rw (row_back) (near).0);
      a_bound = p.a_bound;
    }

pub returns-then-is_on : goal.returns-then-is_on
returns-then-is_on c =
    let row_back : to_z w32 (of_z w32 c.transform_edge_lookup-l.result.row) ≡ c.transform_edge_lookup-l.result.row = search rules in
    let col-back : to_z w32 (of_z w32 c.transform_edge_lookup-l.result.col) ≡ c.transform_edge_lookup-l.result.col = search rules in
    let p = c.requires in
    on-vertical (board_of c.args.tables) _ _ _ _ p.edge_ok.0.transform (c.transform_edge_lookup-l.result) c.transform_edge_lookup-l.ensures c.args.horizontal c.args.straight _ _ _ p.edge_ok.2 (sym c.is_on.ensures ∙ c.if-is_on.true) c.if-horizontal.false (col-back) (row_back) c.add_three-then-is_on.ensures

pub returns : goal.returns
returns c = not_on (board_of c.args.tables) _ _ _ _ c.requires.edge_ok.0.transform c.args.horizontal c.args.straight c.requires.edge_ok.2 (sym c.is_on.ensures ∙ c.if-is_on.false)
