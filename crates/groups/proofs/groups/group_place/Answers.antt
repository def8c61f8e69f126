-- The edge is looked up, its coordinates are near enough for the moduli, and its side says in which half of the row its group stands.
use mathlib.Core.Path.{◌≡◌, sym, subst}
use Prim.Native.Nat.{◌≤◌}
use lib.IntN.{nat_abs}
use mir.Syntax.{w32}
use Rattle.laws.specs.Signed.{read}
use Rattle.board.specs.declared.edge.EdgeLookup.{EdgeLookup}
use Rattle.board.specs.Transform.{lookup_of}
use Rattle.board.specs.TransformLaws.{lookup-near}
use borrow.Author.Rules.{rules}
use Rattle.groups.proofs.groups.group_place.Goals as goal

pub group_of-requires : goal.group_of-requires
group_of-requires c =
    let got : EdgeLookup = c.transform_edge_lookup-l.result in
    let found : got ≡ lookup_of c.args.t c.args.edge.row c.args.edge.col c.args.edge.orientation = c.transform_edge_lookup-l.ensures in
    let near : (nat_abs got.row ≤ 2000002) × (nat_abs got.col ≤ 2000002) = subst (λ (l : EdgeLookup). (nat_abs l.row ≤ 2000002) × (nat_abs l.col ≤ 2000002)) (sym found) (lookup-near c.args.t c.args.edge.row c.args.edge.col c.args.edge.orientation c.requires.edge_ok.near-row c.requires.edge_ok.near-col) in
    let row_back : read w32 got.row ≡ got.row = search rules in
    let col-back : read w32 got.col ≡ got.col = search rules in
    record {
      modulus_ok = (c.requires.modulus_ok.0, c.requires.edge_ok.bit);
      long_bound = rw (row_back, col-back) near;
    }

pub group_of-requires-else-l-eq0 : goal.group_of-requires-else-l-eq0
group_of-requires-else-l-eq0 c =
    let got : EdgeLookup = c.transform_edge_lookup-l.result in
    let found : got ≡ lookup_of c.args.t c.args.edge.row c.args.edge.col c.args.edge.orientation = c.transform_edge_lookup-l.ensures in
    let near : (nat_abs got.row ≤ 2000002) × (nat_abs got.col ≤ 2000002) = subst (λ (l : EdgeLookup). (nat_abs l.row ≤ 2000002) × (nat_abs l.col ≤ 2000002)) (sym found) (lookup-near c.args.t c.args.edge.row c.args.edge.col c.args.edge.orientation c.requires.edge_ok.near-row c.requires.edge_ok.near-col) in
    let row_back : read w32 got.row ≡ got.row = search rules in
    let col-back : read w32 got.col ≡ got.col = search rules in
    record {
      modulus_ok = (c.requires.modulus_ok.1, c.requires.edge_ok.bit);
      long_bound = rw (row_back, col-back) (near.1, near.0);
    }
