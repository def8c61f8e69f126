use mathlib.Core.Path.{◌≡◌, refl, sym, ap₂, subst, ◌∙◌}
use mathlib.Core.List.{[]}
use Prim.Native.Nat.{ℕ, ◌+◌, ◌*◌, ◌^◌, ◌≤◌, ◌<◌}
use native.Mathlib.Omega.{arith}
use lib.ListN.{length, get_or, set}
use lib.IntN.{pos, nat_abs, ◌+ℤ◌}
use mir.Syntax.{w64}
use Rattle.laws.specs.Signed.{read, read_at}
use Rattle.laws.specs.Modulus.{modulus-n, modulus-ok}
use Rattle.board.specs.DomainLaws.{edge-ok}
use Rattle.room.specs.Room.{row_length}
use Rattle.groups.specs.Fill.{place_at}
use Rattle.groups.specs.FillLaws.{place-held}
use Rattle.sums.specs.Sums.{likelihoods, match_at, mismatch_at}
use Rattle.sums.specs.SumParts.{SumsFillReady}
use Rattle.sums.specs.SumsLaws.{value-small}
use Rattle.sums.specs.SumPartsLaws.{ready-held_z, filled-held_z, sums_none, match-room, mismatch-room, sums-more}
use Rattle.sums.proofs.sums.fill_sums.Goals as goal
use Rattle.board.specs.Given.{edges_of}
use Rattle.likelihood.specs.Given.{likelihoods_of}

pub row_of_groups-row-requires : goal.row_of_groups-row-requires
row_of_groups-row-requires c = let p = c.requires.periods in record { some = p.some; few = p.few }

pub matrix_of-matrix-requires : goal.matrix_of-matrix-requires
matrix_of-matrix-requires c = c.requires.transform

pub overflow_cast-periods : goal.overflow_cast-periods
overflow_cast-periods c = let p = c.requires in omega (arith, p.periods.few.0)

pub modulus_of-h-requires : goal.modulus_of-h-requires
modulus_of-h-requires c = let p = c.requires in (p.periods.some.0, p.periods.few.0)

pub overflow_cast-periods-2 : goal.overflow_cast-periods-2
overflow_cast-periods-2 c = let p = c.requires in omega (arith, p.periods.few.1)

pub modulus_of-v-requires : goal.modulus_of-v-requires
modulus_of-v-requires c = let p = c.requires in (p.periods.some.1, p.periods.few.1)

pub loop-i-init : goal.loop-i-init
loop-i-init c =
    let h-is : c.modulus_of-h.result.n ≡ c.args.periods.h = modulus-n _ _ c.modulus_of-h.ensures in
    let v-is : c.modulus_of-v.result.n ≡ c.args.periods.v = modulus-n _ _ c.modulus_of-v.ensures in
    let ready : SumsFillReady c.modulus_of-h.result.n c.modulus_of-v.result.n (let a = c.args in edges_of a.edges) (likelihoods_of c.args.likelihoods) c.args.t c.args.base c.args.sums.now = ready-held_z _ _ _ _ (let a = c.args in edges_of a.edges) (likelihoods_of c.args.likelihoods) _ _ h-is v-is _ c.requires in
    (omega arith, sums_none _ _ (let a = c.args in edges_of a.edges) (likelihoods_of c.args.likelihoods) _ _ _ (ready))

pub edge_at-edge-requires : goal.edge_at-edge-requires
edge_at-edge-requires c =
    let l = c.requires.list in
    let h = c.loop-i-test.true in
    (h, omega (arith, h, l.cols), omega (arith, h, l.orientations), omega (arith, h, l.bits))

pub group_place-p-requires : goal.group_place-p-requires
group_place-p-requires c =
    let p = c.requires in record {
      edge_ok = edge-ok (let a = c.args in edges_of a.edges) _ p.list p.transform c.loop-i.i c.loop-i-test.true _ c.edge_at-edge.ensures;
      modulus_ok = (modulus-ok _ _ c.modulus_of-h.ensures p.periods.some.0 p.periods.few.0, modulus-ok _ _ c.modulus_of-v.ensures p.periods.some.1 p.periods.few.1, c.matrix_of-matrix.ensures);
    }

pub overflow_cast-at : goal.overflow_cast-at
overflow_cast-at c = omega arith

pub overflow_add-at : goal.overflow_add-at
overflow_add-at c =
    let h-is : c.modulus_of-h.result.n ≡ c.args.periods.h = modulus-n _ _ c.modulus_of-h.ensures in
    let v-is : c.modulus_of-v.result.n ≡ c.args.periods.v = modulus-n _ _ c.modulus_of-v.ensures in
    let ready : SumsFillReady c.modulus_of-h.result.n c.modulus_of-v.result.n (let a = c.args in edges_of a.edges) (likelihoods_of c.args.likelihoods) c.args.t c.args.base c.args.sums.now = ready-held_z _ _ _ _ (let a = c.args in edges_of a.edges) (likelihoods_of c.args.likelihoods) _ _ h-is v-is _ c.requires in
    let told : (c.group_place-p.result ≡ place_at (c.modulus_of-h.result).n (c.modulus_of-v.result).n (let a = c.args in edges_of a.edges) c.args.t c.loop-i.i) × (c.group_place-p.result < row_length (c.modulus_of-h.result).n (c.modulus_of-v.result).n) = place-held _ _ _ _ (let a = c.args in edges_of a.edges) c.args.t c.loop-i.i _ c.group_place-p.result refl refl c.edge_at-edge.ensures c.group_place-p.ensures in
    let short : length c.args.sums.now < 2 ^ 64 = omega arith in
    omega (arith, (told).1, (ready).room, short)

pub offset_bounds-likelihoods-i : goal.offset_bounds-likelihoods-i
offset_bounds-likelihoods-i c =
    let turn : (c.loop-i.i < 8192) × (c.loop-i.i < length c.args.likelihoods.matches.now) × (c.loop-i.i < length c.args.likelihoods.mismatches.now) = let q = c.requires in
    let h = c.loop-i-test.true in
    (omega (arith, h, q.list.few), omega (arith, h, q.likelihoods.matches), omega (arith, h, q.likelihoods.mismatches)) in
    omega (arith, (turn).0)

pub bounds-likelihoods-i : goal.bounds-likelihoods-i
bounds-likelihoods-i c =
    let turn : (c.loop-i.i < 8192) × (c.loop-i.i < length c.args.likelihoods.matches.now) × (c.loop-i.i < length c.args.likelihoods.mismatches.now) = let q = c.requires in
    let h = c.loop-i-test.true in
    (omega (arith, h, q.list.few), omega (arith, h, q.likelihoods.matches), omega (arith, h, q.likelihoods.mismatches)) in
    omega (arith, (turn).1)

pub quantize_ll-m-requires : goal.quantize_ll-m-requires
quantize_ll-m-requires c = c.requires.likelihoods.match (c.loop-i.i) c.loop-i-test.true

pub add_at-requires : goal.add_at-requires
add_at-requires c =
    let h-is : c.modulus_of-h.result.n ≡ c.args.periods.h = modulus-n _ _ c.modulus_of-h.ensures in
    let v-is : c.modulus_of-v.result.n ≡ c.args.periods.v = modulus-n _ _ c.modulus_of-v.ensures in
    let ready : SumsFillReady c.modulus_of-h.result.n c.modulus_of-v.result.n (let a = c.args in edges_of a.edges) (likelihoods_of c.args.likelihoods) c.args.t c.args.base c.args.sums.now = ready-held_z _ _ _ _ (let a = c.args in edges_of a.edges) (likelihoods_of c.args.likelihoods) _ _ h-is v-is _ c.requires in
    let told : (c.group_place-p.result ≡ place_at (c.modulus_of-h.result).n (c.modulus_of-v.result).n (let a = c.args in edges_of a.edges) c.args.t c.loop-i.i) × (c.group_place-p.result < row_length (c.modulus_of-h.result).n (c.modulus_of-v.result).n) = place-held _ _ _ _ (let a = c.args in edges_of a.edges) c.args.t c.loop-i.i _ c.group_place-p.result refl refl c.edge_at-edge.ensures c.group_place-p.ensures in
    let back : read w64 c.quantize_ll-m.result ≡ match_at (likelihoods_of c.args.likelihoods) (c.loop-i.i) = read_at w64 c.quantize_ll-m.ensures.value (omega (arith, value-small (let a = c.args in edges_of a.edges) (likelihoods_of c.args.likelihoods) c.requires.likelihoods 0 (c.loop-i.i) c.loop-i-test.true)) in
    let match : ((c.args.base + c.group_place-p.result) < length (c.loop-i.sums)) × (nat_abs (get_or (c.loop-i.sums) (c.args.base + c.group_place-p.result) (pos 0) +ℤ read w64 c.quantize_ll-m.result) < 2 ^ 63) = rw back (match-room _ _ (let a = c.args in edges_of a.edges) (likelihoods_of c.args.likelihoods) _ _ _ (ready) (c.loop-i.i) (c.group_place-p.result) c.loop-i-test.true (told).1 (told).0 (c.loop-i.sums) c.loop-i.invariant.1) in
    match

pub offset_bounds-likelihoods-i-in-loop-i : goal.offset_bounds-likelihoods-i-in-loop-i
offset_bounds-likelihoods-i-in-loop-i c =
    let turn : (c.loop-i.i < 8192) × (c.loop-i.i < length c.args.likelihoods.matches.now) × (c.loop-i.i < length c.args.likelihoods.mismatches.now) = let q = c.requires in
    let h = c.loop-i-test.true in
    (omega (arith, h, q.list.few), omega (arith, h, q.likelihoods.matches), omega (arith, h, q.likelihoods.mismatches)) in
    omega (arith, (turn).0)

pub bounds-likelihoods-i-in-loop-i : goal.bounds-likelihoods-i-in-loop-i
bounds-likelihoods-i-in-loop-i c =
    let turn : (c.loop-i.i < 8192) × (c.loop-i.i < length c.args.likelihoods.matches.now) × (c.loop-i.i < length c.args.likelihoods.mismatches.now) = let q = c.requires in
    let h = c.loop-i-test.true in
    (omega (arith, h, q.list.few), omega (arith, h, q.likelihoods.matches), omega (arith, h, q.likelihoods.mismatches)) in
    omega (arith, (turn).2)

pub quantize_ll-u-requires : goal.quantize_ll-u-requires
quantize_ll-u-requires c = c.requires.likelihoods.mismatch (c.loop-i.i) c.loop-i-test.true

under : (b p r q n : ℕ) → p < r → q ≡ r → b + 2 * r ≤ n → n < 2 ^ 64 → b + p + q < 2 ^ 64
under b p r q n h e l k = omega arith

pub overflow_add-at-in-loop-i : goal.overflow_add-at-in-loop-i
overflow_add-at-in-loop-i c =
    let h-is : c.modulus_of-h.result.n ≡ c.args.periods.h = modulus-n _ _ c.modulus_of-h.ensures in
    let v-is : c.modulus_of-v.result.n ≡ c.args.periods.v = modulus-n _ _ c.modulus_of-v.ensures in
    let row_is : c.row_of_groups-row.result ≡ row_length c.modulus_of-h.result.n c.modulus_of-v.result.n = c.row_of_groups-row.ensures ∙ sym (ap₂ row_length h-is v-is) in
    let ready : SumsFillReady c.modulus_of-h.result.n c.modulus_of-v.result.n (let a = c.args in edges_of a.edges) (likelihoods_of c.args.likelihoods) c.args.t c.args.base c.args.sums.now = ready-held_z _ _ _ _ (let a = c.args in edges_of a.edges) (likelihoods_of c.args.likelihoods) _ _ h-is v-is _ c.requires in
    let told : (c.group_place-p.result ≡ place_at (c.modulus_of-h.result).n (c.modulus_of-v.result).n (let a = c.args in edges_of a.edges) c.args.t c.loop-i.i) × (c.group_place-p.result < row_length (c.modulus_of-h.result).n (c.modulus_of-v.result).n) = place-held _ _ _ _ (let a = c.args in edges_of a.edges) c.args.t c.loop-i.i _ c.group_place-p.result refl refl c.edge_at-edge.ensures c.group_place-p.ensures in
    let short : length c.args.sums.now < 2 ^ 64 = omega arith in
    record { fits = under c.args.base (c.group_place-p.result) (row_length (c.modulus_of-h.result).n (c.modulus_of-v.result).n) (c.row_of_groups-row.result) (length c.args.sums.now) (told).1 (row_is) (ready).room (short) }

pub add_at-requires-in-loop-i : goal.add_at-requires-in-loop-i
add_at-requires-in-loop-i c =
    let h-is : c.modulus_of-h.result.n ≡ c.args.periods.h = modulus-n _ _ c.modulus_of-h.ensures in
    let v-is : c.modulus_of-v.result.n ≡ c.args.periods.v = modulus-n _ _ c.modulus_of-v.ensures in
    let row_is : c.row_of_groups-row.result ≡ row_length c.modulus_of-h.result.n c.modulus_of-v.result.n = c.row_of_groups-row.ensures ∙ sym (ap₂ row_length h-is v-is) in
    let ready : SumsFillReady c.modulus_of-h.result.n c.modulus_of-v.result.n (let a = c.args in edges_of a.edges) (likelihoods_of c.args.likelihoods) c.args.t c.args.base c.args.sums.now = ready-held_z _ _ _ _ (let a = c.args in edges_of a.edges) (likelihoods_of c.args.likelihoods) _ _ h-is v-is _ c.requires in
    let told : (c.group_place-p.result ≡ place_at (c.modulus_of-h.result).n (c.modulus_of-v.result).n (let a = c.args in edges_of a.edges) c.args.t c.loop-i.i) × (c.group_place-p.result < row_length (c.modulus_of-h.result).n (c.modulus_of-v.result).n) = place-held _ _ _ _ (let a = c.args in edges_of a.edges) c.args.t c.loop-i.i _ c.group_place-p.result refl refl c.edge_at-edge.ensures c.group_place-p.ensures in
    let back : read w64 c.quantize_ll-m.result ≡ match_at (likelihoods_of c.args.likelihoods) (c.loop-i.i) = read_at w64 c.quantize_ll-m.ensures.value (omega (arith, value-small (let a = c.args in edges_of a.edges) (likelihoods_of c.args.likelihoods) c.requires.likelihoods 0 (c.loop-i.i) c.loop-i-test.true)) in
    let put : c.add_at.new.sums ≡ set (c.loop-i.sums) (c.args.base + c.group_place-p.result) (get_or (c.loop-i.sums) (c.args.base + c.group_place-p.result) (pos 0) +ℤ match_at (likelihoods_of c.args.likelihoods) (c.loop-i.i)) = rw (back) at c.add_at.ensures in
    let back₂ : read w64 c.quantize_ll-u.result ≡ mismatch_at (likelihoods_of c.args.likelihoods) (c.loop-i.i) = read_at w64 c.quantize_ll-u.ensures.value (omega (arith, value-small (let a = c.args in edges_of a.edges) (likelihoods_of c.args.likelihoods) c.requires.likelihoods 1 (c.loop-i.i) c.loop-i-test.true)) in
    let mismatch : ((c.args.base + c.group_place-p.result) + c.row_of_groups-row.result < length c.add_at.new.sums) × (nat_abs (get_or c.add_at.new.sums ((c.args.base + c.group_place-p.result) + c.row_of_groups-row.result) (pos 0) +ℤ read w64 c.quantize_ll-u.result) < 2 ^ 63) = rw back₂
    (subst (λ (n : ℕ). ((c.args.base + c.group_place-p.result) + n < length c.add_at.new.sums) × (nat_abs (get_or c.add_at.new.sums ((c.args.base + c.group_place-p.result) + n) (pos 0) +ℤ mismatch_at (likelihoods_of c.args.likelihoods) (c.loop-i.i)) < 2 ^ 63)) (sym (row_is))
    (mismatch-room _ _ (let a = c.args in edges_of a.edges) (likelihoods_of c.args.likelihoods) _ _ _ (ready) (c.loop-i.i) (c.group_place-p.result) c.loop-i-test.true (told).1 (told).0 (c.loop-i.sums) c.loop-i.invariant.1 c.add_at.new.sums put)) in
    mismatch

pub overflow_step-i : goal.overflow_step-i
overflow_step-i c =
    let turn : (c.loop-i.i < 8192) × (c.loop-i.i < length c.args.likelihoods.matches.now) × (c.loop-i.i < length c.args.likelihoods.mismatches.now) = let q = c.requires in
    let h = c.loop-i-test.true in
    (omega (arith, h, q.list.few), omega (arith, h, q.likelihoods.matches), omega (arith, h, q.likelihoods.mismatches)) in
    omega (arith, (turn).0)

pub loop-i-preserved : goal.loop-i-preserved
loop-i-preserved c =
    let h-is : c.modulus_of-h.result.n ≡ c.args.periods.h = modulus-n _ _ c.modulus_of-h.ensures in
    let v-is : c.modulus_of-v.result.n ≡ c.args.periods.v = modulus-n _ _ c.modulus_of-v.ensures in
    let row_is : c.row_of_groups-row.result ≡ row_length c.modulus_of-h.result.n c.modulus_of-v.result.n = c.row_of_groups-row.ensures ∙ sym (ap₂ row_length h-is v-is) in
    let ready : SumsFillReady c.modulus_of-h.result.n c.modulus_of-v.result.n (let a = c.args in edges_of a.edges) (likelihoods_of c.args.likelihoods) c.args.t c.args.base c.args.sums.now = ready-held_z _ _ _ _ (let a = c.args in edges_of a.edges) (likelihoods_of c.args.likelihoods) _ _ h-is v-is _ c.requires in
    let told : (c.group_place-p.result ≡ place_at (c.modulus_of-h.result).n (c.modulus_of-v.result).n (let a = c.args in edges_of a.edges) c.args.t c.loop-i.i) × (c.group_place-p.result < row_length (c.modulus_of-h.result).n (c.modulus_of-v.result).n) = place-held _ _ _ _ (let a = c.args in edges_of a.edges) c.args.t c.loop-i.i _ c.group_place-p.result refl refl c.edge_at-edge.ensures c.group_place-p.ensures in
    let back : read w64 c.quantize_ll-m.result ≡ match_at (likelihoods_of c.args.likelihoods) (c.loop-i.i) = read_at w64 c.quantize_ll-m.ensures.value (omega (arith, value-small (let a = c.args in edges_of a.edges) (likelihoods_of c.args.likelihoods) c.requires.likelihoods 0 (c.loop-i.i) c.loop-i-test.true)) in
    let put : c.add_at.new.sums ≡ set (c.loop-i.sums) (c.args.base + c.group_place-p.result) (get_or (c.loop-i.sums) (c.args.base + c.group_place-p.result) (pos 0) +ℤ match_at (likelihoods_of c.args.likelihoods) (c.loop-i.i)) = rw (back) at c.add_at.ensures in
    let back₂ : read w64 c.quantize_ll-u.result ≡ mismatch_at (likelihoods_of c.args.likelihoods) (c.loop-i.i) = read_at w64 c.quantize_ll-u.ensures.value (omega (arith, value-small (let a = c.args in edges_of a.edges) (likelihoods_of c.args.likelihoods) c.requires.likelihoods 1 (c.loop-i.i) c.loop-i-test.true)) in (
      omega arith,
      sums-more _ _ (let a = c.args in edges_of a.edges) (likelihoods_of c.args.likelihoods) _ _ _ (ready) (c.loop-i.i) (c.group_place-p.result) c.loop-i-test.true (told).1 (told).0 (c.loop-i.sums) c.loop-i.invariant.1 (c.add_at.new.sums) (put) _
          (subst (λ (n : ℕ). c.add_at-in-loop-i.new.sums ≡ set (c.add_at.new.sums) ((c.args.base + c.group_place-p.result) + n) (get_or (c.add_at.new.sums) ((c.args.base + c.group_place-p.result) + n) (pos 0) +ℤ mismatch_at (likelihoods_of c.args.likelihoods) (c.loop-i.i))) (row_is) (rw (back₂) at c.add_at-in-loop-i.ensures)),
    )

pub shape_of-sums : goal.shape_of-sums
shape_of-sums c = c.loop-i.invariant.1.len

pub returns : goal.returns
returns c =
    let h-is : c.modulus_of-h.result.n ≡ c.args.periods.h = modulus-n _ _ c.modulus_of-h.ensures in
    let v-is : c.modulus_of-v.result.n ≡ c.args.periods.v = modulus-n _ _ c.modulus_of-v.ensures in
    let l = c.loop-i in
    let a = c.args in
    let e : l.i ≡ length a.edges.rows.now = omega (arith, l.invariant.0, c.loop-i-test.false) in
    filled-held_z _ _ _ _ (let a = c.args in edges_of a.edges) (likelihoods_of c.args.likelihoods) a.t a.base (h-is) (v-is) _ _ e _ _ l.invariant.1
