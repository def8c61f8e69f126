use mathlib.Core.Path.{◌≡◌, refl, subst}
use mathlib.Core.List.{List}
use Prim.Native.Nat.{ℕ, ◌+◌, ◌*◌, ◌^◌, ◌<◌}
use native.Mathlib.Omega.{arith}
use lib.Dec.{lit<}
use lib.ListN.{length, get_or, set}
use Rattle.cells.specs.Credit.{entry}
use Rattle.cells.specs.RunLaws.{run-place}
use Rattle.tables.specs.Runs.{run_room, run_more}
use Rattle.units.specs.UnitParts.{takes_u, RunCellsU}
use Rattle.units.proofs.credit_unit_run.Goals as goal

pub overflow_mul-k : goal.overflow_mul-k
overflow_mul-k c =
    let i : ℕ = c.loop-i.i in
    let inside : (j : ℕ) → j < 3 → c.args.at + (i * c.args.stride + j * c.args.across) < length c.args.units.now = λ j h. subst (λ (x : ℕ). x < length c.args.units.now) (run-place c.args.at c.args.stride c.args.across i j h) (c.requires.inside (i * 3 + j) (omega (arith, c.loop-i-test.true))) in
    omega (arith, inside 0 (lit< tt))

pub overflow_add-k : goal.overflow_add-k
overflow_add-k c =
    let i : ℕ = c.loop-i.i in
    let inside : (j : ℕ) → j < 3 → c.args.at + (i * c.args.stride + j * c.args.across) < length c.args.units.now = λ j h. subst (λ (x : ℕ). x < length c.args.units.now) (run-place c.args.at c.args.stride c.args.across i j h) (c.requires.inside (i * 3 + j) (omega (arith, c.loop-i-test.true))) in
    omega (arith, inside 0 (lit< tt))

pub add_at-requires : goal.add_at-requires
add_at-requires c =
    let i : ℕ = c.loop-i.i in
    let term_of : ℕ → ℕ = λ j. entry 0 c.args.terms (get_or c.args.part.now i 0) j in
    let cell : ℕ = c.args.at + i * c.args.stride in
    let room₀ : (cell < length c.loop-i.units) × (get_or c.loop-i.units cell 0 + term_of 0 < 2 ^ 64) = run_room 0 ◌+◌ takes_u _ _ _ _ _ _ _ c.requires i 0 (i * 3) cell (term_of 0) c.loop-i-test.true (lit< tt) (omega arith) (omega arith) refl _ c.loop-i.invariant.1 in
    room₀

pub overflow_add-k-in-loop-i : goal.overflow_add-k-in-loop-i
overflow_add-k-in-loop-i c =
    let i : ℕ = c.loop-i.i in
    let inside : (j : ℕ) → j < 3 → c.args.at + (i * c.args.stride + j * c.args.across) < length c.args.units.now = λ j h. subst (λ (x : ℕ). x < length c.args.units.now) (run-place c.args.at c.args.stride c.args.across i j h) (c.requires.inside (i * 3 + j) (omega (arith, c.loop-i-test.true))) in
    omega (arith, inside 1 (lit< tt))

pub add_at-requires-in-loop-i : goal.add_at-requires-in-loop-i
add_at-requires-in-loop-i c =
    let i : ℕ = c.loop-i.i in
    let term_of : ℕ → ℕ = λ j. entry 0 c.args.terms (get_or c.args.part.now i 0) j in
    let cell : ℕ = c.args.at + i * c.args.stride in
    let more₀ : (a : List ℕ) → a ≡ set c.loop-i.units cell (get_or c.loop-i.units cell 0 + term_of 0) → RunCellsU c.args.terms c.args.part.now c.args.at c.args.stride c.args.across (i * 3 + 1) c.args.units.now a = λ a p. run_more 0 ◌+◌ takes_u _ _ _ _ _ _ _ c.requires i 0 (i * 3) cell (term_of 0) c.loop-i-test.true (lit< tt) (omega arith) (omega arith) refl _ c.loop-i.invariant.1 (i * 3 + 1) refl a p in
    let cell₁ : (a₁ : List ℕ) (p₁ : a₁ ≡ set c.loop-i.units cell (get_or c.loop-i.units cell 0 + term_of 0)) → ℕ = λ a₁ p₁. cell + c.args.across in
    let room₁ : (a₁ : List ℕ) (p₁ : a₁ ≡ set c.loop-i.units cell (get_or c.loop-i.units cell 0 + term_of 0)) → ((cell₁ a₁ p₁) < length a₁) × (get_or a₁ (cell₁ a₁ p₁) 0 + term_of 1 < 2 ^ 64) = λ a₁ p₁. run_room 0 ◌+◌ takes_u _ _ _ _ _ _ _ c.requires i 1 (i * 3 + 1) (cell₁ a₁ p₁) (term_of 1) c.loop-i-test.true (lit< tt) (omega arith) (omega arith) refl _ (more₀ a₁ p₁) in
    room₁ _ c.add_at.ensures

pub overflow_mul-across : goal.overflow_mul-across
overflow_mul-across c =
    let i : ℕ = c.loop-i.i in
    let inside : (j : ℕ) → j < 3 → c.args.at + (i * c.args.stride + j * c.args.across) < length c.args.units.now = λ j h. subst (λ (x : ℕ). x < length c.args.units.now) (run-place c.args.at c.args.stride c.args.across i j h) (c.requires.inside (i * 3 + j) (omega (arith, c.loop-i-test.true))) in
    omega (arith, inside 2 (lit< tt))

pub overflow_add-k-in-loop-i-2 : goal.overflow_add-k-in-loop-i-2
overflow_add-k-in-loop-i-2 c =
    let i : ℕ = c.loop-i.i in
    let inside : (j : ℕ) → j < 3 → c.args.at + (i * c.args.stride + j * c.args.across) < length c.args.units.now = λ j h. subst (λ (x : ℕ). x < length c.args.units.now) (run-place c.args.at c.args.stride c.args.across i j h) (c.requires.inside (i * 3 + j) (omega (arith, c.loop-i-test.true))) in
    omega (arith, inside 2 (lit< tt))

pub add_at-requires-in-loop-i-2 : goal.add_at-requires-in-loop-i-2
add_at-requires-in-loop-i-2 c =
    let i : ℕ = c.loop-i.i in
    let term_of : ℕ → ℕ = λ j. entry 0 c.args.terms (get_or c.args.part.now i 0) j in
    let cell : ℕ = c.args.at + i * c.args.stride in
    let more₀ : (a : List ℕ) → a ≡ set c.loop-i.units cell (get_or c.loop-i.units cell 0 + term_of 0) → RunCellsU c.args.terms c.args.part.now c.args.at c.args.stride c.args.across (i * 3 + 1) c.args.units.now a = λ a p. run_more 0 ◌+◌ takes_u _ _ _ _ _ _ _ c.requires i 0 (i * 3) cell (term_of 0) c.loop-i-test.true (lit< tt) (omega arith) (omega arith) refl _ c.loop-i.invariant.1 (i * 3 + 1) refl a p in
    let cell₁ : (a₁ : List ℕ) (p₁ : a₁ ≡ set c.loop-i.units cell (get_or c.loop-i.units cell 0 + term_of 0)) → ℕ = λ a₁ p₁. cell + c.args.across in
    let more₁ : (a₁ : List ℕ) (p₁ : a₁ ≡ set c.loop-i.units cell (get_or c.loop-i.units cell 0 + term_of 0)) → (a : List ℕ) → a ≡ set a₁ (cell₁ a₁ p₁) (get_or a₁ (cell₁ a₁ p₁) 0 + term_of 1) → RunCellsU c.args.terms c.args.part.now c.args.at c.args.stride c.args.across (i * 3 + 2) c.args.units.now a = λ a₁ p₁ a p. run_more 0 ◌+◌ takes_u _ _ _ _ _ _ _ c.requires i 1 (i * 3 + 1) (cell₁ a₁ p₁) (term_of 1) c.loop-i-test.true (lit< tt) (omega arith) (omega arith) refl _ (more₀ a₁ p₁) (i * 3 + 2) (omega arith) a p in
    let cell₂ : (a₁ : List ℕ) (p₁ : a₁ ≡ set c.loop-i.units cell (get_or c.loop-i.units cell 0 + term_of 0)) (a₂ : List ℕ) (p₂ : a₂ ≡ set a₁ (cell₁ a₁ p₁) (get_or a₁ (cell₁ a₁ p₁) 0 + term_of 1)) → ℕ = λ a₁ p₁ a₂ p₂. cell + 2 * c.args.across in
    let room₂ : (a₁ : List ℕ) (p₁ : a₁ ≡ set c.loop-i.units cell (get_or c.loop-i.units cell 0 + term_of 0)) (a₂ : List ℕ) (p₂ : a₂ ≡ set a₁ (cell₁ a₁ p₁) (get_or a₁ (cell₁ a₁ p₁) 0 + term_of 1)) → ((cell₂ a₁ p₁ a₂ p₂) < length a₂) × (get_or a₂ (cell₂ a₁ p₁ a₂ p₂) 0 + term_of 2 < 2 ^ 64) = λ a₁ p₁ a₂ p₂. run_room 0 ◌+◌ takes_u _ _ _ _ _ _ _ c.requires i 2 (i * 3 + 2) (cell₂ a₁ p₁ a₂ p₂) (term_of 2) c.loop-i-test.true (lit< tt) (omega arith) (omega arith) refl _ ((more₁ a₁ p₁) a₂ p₂) in
    room₂ _ c.add_at.ensures _ c.add_at-in-loop-i.ensures

pub loop-i-preserved : goal.loop-i-preserved
loop-i-preserved c =
    let i : ℕ = c.loop-i.i in
    let term_of : ℕ → ℕ = λ j. entry 0 c.args.terms (get_or c.args.part.now i 0) j in
    let cell : ℕ = c.args.at + i * c.args.stride in
    let more₀ : (a : List ℕ) → a ≡ set c.loop-i.units cell (get_or c.loop-i.units cell 0 + term_of 0) → RunCellsU c.args.terms c.args.part.now c.args.at c.args.stride c.args.across (i * 3 + 1) c.args.units.now a = λ a p. run_more 0 ◌+◌ takes_u _ _ _ _ _ _ _ c.requires i 0 (i * 3) cell (term_of 0) c.loop-i-test.true (lit< tt) (omega arith) (omega arith) refl _ c.loop-i.invariant.1 (i * 3 + 1) refl a p in
    let cell₁ : (a₁ : List ℕ) (p₁ : a₁ ≡ set c.loop-i.units cell (get_or c.loop-i.units cell 0 + term_of 0)) → ℕ = λ a₁ p₁. cell + c.args.across in
    let more₁ : (a₁ : List ℕ) (p₁ : a₁ ≡ set c.loop-i.units cell (get_or c.loop-i.units cell 0 + term_of 0)) → (a : List ℕ) → a ≡ set a₁ (cell₁ a₁ p₁) (get_or a₁ (cell₁ a₁ p₁) 0 + term_of 1) → RunCellsU c.args.terms c.args.part.now c.args.at c.args.stride c.args.across (i * 3 + 2) c.args.units.now a = λ a₁ p₁ a p. run_more 0 ◌+◌ takes_u _ _ _ _ _ _ _ c.requires i 1 (i * 3 + 1) (cell₁ a₁ p₁) (term_of 1) c.loop-i-test.true (lit< tt) (omega arith) (omega arith) refl _ (more₀ a₁ p₁) (i * 3 + 2) (omega arith) a p in
    let cell₂ : (a₁ : List ℕ) (p₁ : a₁ ≡ set c.loop-i.units cell (get_or c.loop-i.units cell 0 + term_of 0)) (a₂ : List ℕ) (p₂ : a₂ ≡ set a₁ (cell₁ a₁ p₁) (get_or a₁ (cell₁ a₁ p₁) 0 + term_of 1)) → ℕ = λ a₁ p₁ a₂ p₂. cell + 2 * c.args.across in
    let more₂ : (a₁ : List ℕ) (p₁ : a₁ ≡ set c.loop-i.units cell (get_or c.loop-i.units cell 0 + term_of 0)) (a₂ : List ℕ) (p₂ : a₂ ≡ set a₁ (cell₁ a₁ p₁) (get_or a₁ (cell₁ a₁ p₁) 0 + term_of 1)) → (a : List ℕ) → a ≡ set a₂ (cell₂ a₁ p₁ a₂ p₂) (get_or a₂ (cell₂ a₁ p₁ a₂ p₂) 0 + term_of 2) → RunCellsU c.args.terms c.args.part.now c.args.at c.args.stride c.args.across ((i + 1) * 3) c.args.units.now a = λ a₁ p₁ a₂ p₂ a p. run_more 0 ◌+◌ takes_u _ _ _ _ _ _ _ c.requires i 2 (i * 3 + 2) (cell₂ a₁ p₁ a₂ p₂) (term_of 2) c.loop-i-test.true (lit< tt) (omega arith) (omega arith) refl _ ((more₁ a₁ p₁) a₂ p₂) ((i + 1) * 3) (omega arith) a p in
    (omega arith, more₂ _ c.add_at.ensures _ c.add_at-in-loop-i.ensures _ c.add_at-in-loop-i-2.ensures)
