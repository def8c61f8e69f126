use borrow.Author.Rules.{rules}
use mathlib.Core.Path.{◌≡◌, refl, subst}
use mathlib.Core.List.{List}
use Prim.Native.Nat.{ℕ, ◌+◌, ◌*◌, ◌^◌, ◌<◌}
use native.Mathlib.Omega.{arith}
use lib.Dec.{lit<}
use lib.IntN.{ℤ, pos, nat_abs, ◌+ℤ◌}
use lib.ListN.{length, get_or, set}
use mir.Syntax.{w64}
use Rattle.laws.specs.Residues.{below-3}
use Rattle.laws.specs.Signed.{read}
use Rattle.cells.specs.Credit.{entry}
use Rattle.cells.specs.RunLaws.{run-place}
use Rattle.tables.specs.Runs.{run_none, run_room, run_more}
use Rattle.sums.specs.SumParts.{takes_z, RunReadyZ, RunCellsZ}
use Rattle.sums.proofs.sums.credit_sum_run.Goals as goal

pub loop-i-init : goal.loop-i-init
loop-i-init c = (omega arith, run_none (pos 0) ◌+ℤ◌ takes_z _ _ _ _ _ _ _ c.requires)

-- one turn: class i, and its three terms
module _ (terms : List (List ℤ)) (part : List ℕ) (n at stride across : ℕ) (sums : List ℤ) (pre : RunReadyZ terms part n at stride across sums) (i : ℕ) (now : List ℤ) (test : i < n) (held : RunCellsZ terms part at stride across (i * 3) sums now) where
  small : get_or part i 0 < 8
  small = pre.places.small i test

  abbrev term_of : ℕ → ℤ
  term_of j = entry (pos 0) terms (get_or part i 0) j

  -- as it is read back
  abbrev kept : ℕ → ℤ
  kept j = read w64 (term_of j)

  -- where its cells stand
  inside : (j : ℕ) → j < 3 → at + (i * stride + j * across) < length sums
  inside j h = subst (λ (x : ℕ). x < length sums) (run-place at stride across i j h) (pre.inside (i * 3 + j) (omega (arith, test)))

  abbrev cell : ℕ
  cell = at + i * stride

  module _ (back : (j : ℕ) → j < 3 → kept j ≡ term_of j) where
    -- the first cell's room, and the run with it
    room₀ : (cell < length now) × (nat_abs (get_or now cell (pos 0) +ℤ kept 0) < 2 ^ 63)
    room₀ = run_room (pos 0) ◌+ℤ◌ takes_z _ _ _ _ _ _ _ pre i 0 (i * 3) cell (kept 0) test (lit< tt) (omega arith) (omega arith) (back 0 (lit< tt)) _ held

    more₀ : (a : List ℤ) → a ≡ set now cell (get_or now cell (pos 0) +ℤ kept 0) → RunCellsZ terms part at stride across (i * 3 + 1) sums a
    more₀ a p = run_more (pos 0) ◌+ℤ◌ takes_z _ _ _ _ _ _ _ pre i 0 (i * 3) cell (kept 0) test (lit< tt) (omega arith) (omega arith) (back 0 (lit< tt)) _ held (i * 3 + 1) refl a p

    -- the second
    module _ (a₁ : List ℤ) (p₁ : a₁ ≡ set now cell (get_or now cell (pos 0) +ℤ kept 0)) where
      abbrev cell₁ : ℕ
      cell₁ = cell + across

      room₁ : (cell₁ < length a₁) × (nat_abs (get_or a₁ cell₁ (pos 0) +ℤ kept 1) < 2 ^ 63)
      room₁ = run_room (pos 0) ◌+ℤ◌ takes_z _ _ _ _ _ _ _ pre i 1 (i * 3 + 1) cell₁ (kept 1) test (lit< tt) (omega arith) (omega arith) (back 1 (lit< tt)) _ (more₀ a₁ p₁)

      more₁ : (a : List ℤ) → a ≡ set a₁ cell₁ (get_or a₁ cell₁ (pos 0) +ℤ kept 1) → RunCellsZ terms part at stride across (i * 3 + 2) sums a
      more₁ a p = run_more (pos 0) ◌+ℤ◌ takes_z _ _ _ _ _ _ _ pre i 1 (i * 3 + 1) cell₁ (kept 1) test (lit< tt) (omega arith) (omega arith) (back 1 (lit< tt)) _ (more₀ a₁ p₁) (i * 3 + 2) (omega arith) a p

      -- the third
      module _ (a₂ : List ℤ) (p₂ : a₂ ≡ set a₁ cell₁ (get_or a₁ cell₁ (pos 0) +ℤ kept 1)) where
        abbrev cell₂ : ℕ
        cell₂ = cell + 2 * across

        room₂ : (cell₂ < length a₂) × (nat_abs (get_or a₂ cell₂ (pos 0) +ℤ kept 2) < 2 ^ 63)
        room₂ = run_room (pos 0) ◌+ℤ◌ takes_z _ _ _ _ _ _ _ pre i 2 (i * 3 + 2) cell₂ (kept 2) test (lit< tt) (omega arith) (omega arith) (back 2 (lit< tt)) _ (more₁ a₂ p₂)

        more₂ : (a : List ℤ) → a ≡ set a₂ cell₂ (get_or a₂ cell₂ (pos 0) +ℤ kept 2) → RunCellsZ terms part at stride across ((i + 1) * 3) sums a
        more₂ a p = run_more (pos 0) ◌+ℤ◌ takes_z _ _ _ _ _ _ _ pre i 2 (i * 3 + 2) cell₂ (kept 2) test (lit< tt) (omega arith) (omega arith) (back 2 (lit< tt)) _ (more₁ a₂ p₂) ((i + 1) * 3) (omega arith) a p

pub overflow_cast-pattern : goal.overflow_cast-pattern
overflow_cast-pattern c = omega (arith, small c.args.terms c.args.part.now c.args.n c.args.at c.args.stride c.args.across c.args.sums.now c.requires c.loop-i.i c.loop-i.sums c.loop-i-test.true c.loop-i.invariant.1)

pub offset_bounds-terms-pattern : goal.offset_bounds-terms-pattern
offset_bounds-terms-pattern c = omega (arith, small c.args.terms c.args.part.now c.args.n c.args.at c.args.stride c.args.across c.args.sums.now c.requires c.loop-i.i c.loop-i.sums c.loop-i-test.true c.loop-i.invariant.1)

pub bounds-terms-pattern : goal.bounds-terms-pattern
bounds-terms-pattern c = omega (arith, small c.args.terms c.args.part.now c.args.n c.args.at c.args.stride c.args.across c.args.sums.now c.requires c.loop-i.i c.loop-i.sums c.loop-i-test.true c.loop-i.invariant.1)

pub overflow_mul-k : goal.overflow_mul-k
overflow_mul-k c = omega (arith, inside c.args.terms c.args.part.now c.args.n c.args.at c.args.stride c.args.across c.args.sums.now c.requires c.loop-i.i c.loop-i.sums c.loop-i-test.true c.loop-i.invariant.1 0 (lit< tt))

pub overflow_add-k : goal.overflow_add-k
overflow_add-k c = omega (arith, inside c.args.terms c.args.part.now c.args.n c.args.at c.args.stride c.args.across c.args.sums.now c.requires c.loop-i.i c.loop-i.sums c.loop-i-test.true c.loop-i.invariant.1 0 (lit< tt))

pub add_at-requires : goal.add_at-requires
add_at-requires c =
    let backs : (j : ℕ) → j < 3 → kept c.args.terms c.args.part.now c.args.n c.args.at c.args.stride c.args.across c.args.sums.now c.requires c.loop-i.i c.loop-i.sums c.loop-i-test.true c.loop-i.invariant.1 j ≡ term_of c.args.terms c.args.part.now c.args.n c.args.at c.args.stride c.args.across c.args.sums.now c.requires c.loop-i.i c.loop-i.sums c.loop-i-test.true c.loop-i.invariant.1 j = below-3 (λ (j : ℕ). kept c.args.terms c.args.part.now c.args.n c.args.at c.args.stride c.args.across c.args.sums.now c.requires c.loop-i.i c.loop-i.sums c.loop-i-test.true c.loop-i.invariant.1 j ≡ term_of c.args.terms c.args.part.now c.args.n c.args.at c.args.stride c.args.across c.args.sums.now c.requires c.loop-i.i c.loop-i.sums c.loop-i-test.true c.loop-i.invariant.1 j) (search rules) (search rules) (search rules) in
    room₀ c.args.terms c.args.part.now c.args.n c.args.at c.args.stride c.args.across c.args.sums.now c.requires c.loop-i.i c.loop-i.sums c.loop-i-test.true c.loop-i.invariant.1 backs

pub overflow_add-k-in-loop-i : goal.overflow_add-k-in-loop-i
overflow_add-k-in-loop-i c = omega (arith, inside c.args.terms c.args.part.now c.args.n c.args.at c.args.stride c.args.across c.args.sums.now c.requires c.loop-i.i c.loop-i.sums c.loop-i-test.true c.loop-i.invariant.1 1 (lit< tt))

pub add_at-requires-in-loop-i : goal.add_at-requires-in-loop-i
add_at-requires-in-loop-i c =
    let backs : (j : ℕ) → j < 3 → kept c.args.terms c.args.part.now c.args.n c.args.at c.args.stride c.args.across c.args.sums.now c.requires c.loop-i.i c.loop-i.sums c.loop-i-test.true c.loop-i.invariant.1 j ≡ term_of c.args.terms c.args.part.now c.args.n c.args.at c.args.stride c.args.across c.args.sums.now c.requires c.loop-i.i c.loop-i.sums c.loop-i-test.true c.loop-i.invariant.1 j = below-3 (λ (j : ℕ). kept c.args.terms c.args.part.now c.args.n c.args.at c.args.stride c.args.across c.args.sums.now c.requires c.loop-i.i c.loop-i.sums c.loop-i-test.true c.loop-i.invariant.1 j ≡ term_of c.args.terms c.args.part.now c.args.n c.args.at c.args.stride c.args.across c.args.sums.now c.requires c.loop-i.i c.loop-i.sums c.loop-i-test.true c.loop-i.invariant.1 j) (search rules) (search rules) (search rules) in
    room₁ c.args.terms c.args.part.now c.args.n c.args.at c.args.stride c.args.across c.args.sums.now c.requires c.loop-i.i c.loop-i.sums c.loop-i-test.true c.loop-i.invariant.1 backs _ c.add_at.ensures

pub overflow_mul-across : goal.overflow_mul-across
overflow_mul-across c = omega (arith, inside c.args.terms c.args.part.now c.args.n c.args.at c.args.stride c.args.across c.args.sums.now c.requires c.loop-i.i c.loop-i.sums c.loop-i-test.true c.loop-i.invariant.1 2 (lit< tt))

pub overflow_add-k-in-loop-i-2 : goal.overflow_add-k-in-loop-i-2
overflow_add-k-in-loop-i-2 c = omega (arith, inside c.args.terms c.args.part.now c.args.n c.args.at c.args.stride c.args.across c.args.sums.now c.requires c.loop-i.i c.loop-i.sums c.loop-i-test.true c.loop-i.invariant.1 2 (lit< tt))

pub add_at-requires-in-loop-i-2 : goal.add_at-requires-in-loop-i-2
add_at-requires-in-loop-i-2 c =
    let backs : (j : ℕ) → j < 3 → kept c.args.terms c.args.part.now c.args.n c.args.at c.args.stride c.args.across c.args.sums.now c.requires c.loop-i.i c.loop-i.sums c.loop-i-test.true c.loop-i.invariant.1 j ≡ term_of c.args.terms c.args.part.now c.args.n c.args.at c.args.stride c.args.across c.args.sums.now c.requires c.loop-i.i c.loop-i.sums c.loop-i-test.true c.loop-i.invariant.1 j = below-3 (λ (j : ℕ). kept c.args.terms c.args.part.now c.args.n c.args.at c.args.stride c.args.across c.args.sums.now c.requires c.loop-i.i c.loop-i.sums c.loop-i-test.true c.loop-i.invariant.1 j ≡ term_of c.args.terms c.args.part.now c.args.n c.args.at c.args.stride c.args.across c.args.sums.now c.requires c.loop-i.i c.loop-i.sums c.loop-i-test.true c.loop-i.invariant.1 j) (search rules) (search rules) (search rules) in
    room₂ c.args.terms c.args.part.now c.args.n c.args.at c.args.stride c.args.across c.args.sums.now c.requires c.loop-i.i c.loop-i.sums c.loop-i-test.true c.loop-i.invariant.1 backs _ c.add_at.ensures _ c.add_at-in-loop-i.ensures

pub loop-i-preserved : goal.loop-i-preserved
loop-i-preserved c =
    let backs : (j : ℕ) → j < 3 → kept c.args.terms c.args.part.now c.args.n c.args.at c.args.stride c.args.across c.args.sums.now c.requires c.loop-i.i c.loop-i.sums c.loop-i-test.true c.loop-i.invariant.1 j ≡ term_of c.args.terms c.args.part.now c.args.n c.args.at c.args.stride c.args.across c.args.sums.now c.requires c.loop-i.i c.loop-i.sums c.loop-i-test.true c.loop-i.invariant.1 j = below-3 (λ (j : ℕ). kept c.args.terms c.args.part.now c.args.n c.args.at c.args.stride c.args.across c.args.sums.now c.requires c.loop-i.i c.loop-i.sums c.loop-i-test.true c.loop-i.invariant.1 j ≡ term_of c.args.terms c.args.part.now c.args.n c.args.at c.args.stride c.args.across c.args.sums.now c.requires c.loop-i.i c.loop-i.sums c.loop-i-test.true c.loop-i.invariant.1 j) (search rules) (search rules) (search rules) in
    (omega arith, more₂ c.args.terms c.args.part.now c.args.n c.args.at c.args.stride c.args.across c.args.sums.now c.requires c.loop-i.i c.loop-i.sums c.loop-i-test.true c.loop-i.invariant.1 backs _ c.add_at.ensures _ c.add_at-in-loop-i.ensures _ c.add_at-in-loop-i-2.ensures)

pub shape_of-sums : goal.shape_of-sums
shape_of-sums c = c.loop-i.invariant.1.len

pub returns : goal.returns
returns c =
    let l = c.loop-i in
    let a = c.args in
    let e : l.i ≡ a.n = omega arith in
    subst (λ (m : ℕ). RunCellsZ a.terms a.part.now a.at a.stride a.across (m * 3) a.sums.now l.sums) e l.invariant.1
