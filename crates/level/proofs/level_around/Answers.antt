use Rattle.std.proofs.Common.{◌≡◌, inl, inr, ◌<◌, length, List, ℕ, true, false, not, refl, sym, ap, ◌∙◌, ℤ, w64, to_z, of_z, to_z-of_z, pos, negsuc, rules, arith, eq-eqb, ltb-false}
use lib.Signed.{lt_z}
use Rattle.laws.specs.Tests.{clash, cases}
use Rattle.laws.specs.Words.{eq_z}
use Rattle.level.specs.Level.{s_at, larger, tied_sum, level_second}
use Rattle.level.specs.LevelLaws.{larger-weak, below_top, Top}
use Rattle.level.proofs.level_around.Goals as goal

-- whole numbers none of which is above the other are one
level-alike : (x y : ℤ) → lt_z y x ≡ false → lt_z x y ≡ false → eq_z x y ≡ true
level-alike (pos a) (pos b) h g = eq-eqb a b (omega (arith, ltb-false b a h, ltb-false a b g))
level-alike (negsuc a) (negsuc b) h g = eq-eqb a b (omega (arith, ltb-false a b h, ltb-false b a g))
level-alike (pos a) (negsuc b) h g = clash refl h
level-alike (negsuc a) (pos b) h g = clash refl g

-- a cell's sum is the largest one, or the cell is below those that have it
tied-or-below : (xs : List ℤ) (k i : ℕ) → Top xs k → k < length xs → i < length xs → tied_sum xs (s_at xs k) i ≡ not (larger (s_at xs) k i)
tied-or-below xs k i top in-k in-i = elim (cases (lt_z (s_at xs i) (s_at xs k))) [
  | inl below ↦ below_top xs k k (s_at xs i) top in-k below ∙ ap not (sym below)
  | inr level ↦ level-alike (s_at xs i) (s_at xs k) (top i in-i) level ∙ ap not (sym level)
]

pub returns : goal.returns
returns c =
    let xs = c.args.sums.now in
    let cell = c.args.cell in
    let top = c.requires.2 in
    let told = c.around-told.ensures.told (pos 0) (larger (s_at xs)) (tied_sum xs (s_at xs cell)) (tied_sum xs (s_at xs cell)) (record {
      compares = λ i j r h k e. search rules;
      weak = larger-weak (length xs) (s_at xs);
      top = λ i l. top i l;
      tied = λ i l. tied-or-below xs cell i top c.requires.1 l;
      same = λ i r l yes e. let says : r ≡ true = search rules in says ∙ sym yes;
      less = λ i l no. no;
    }) in
    let mine : to_z w64 (of_z w64 (s_at xs cell)) ≡ s_at xs cell = to_z-of_z {w = w64} {z = s_at xs cell} (record { sfits = omega arith }) in
    let next : to_z w64 (of_z w64 (s_at xs c.around-told.result.second)) ≡ s_at xs c.around-told.result.second = to_z-of_z {w = w64} {z = s_at xs c.around-told.result.second} (record { sfits = omega arith }) in
    let under : to_z w64 (of_z w64 (s_at xs c.around-told.result.second)) ≡ s_at xs (level_second xs cell) = next ∙ ap (s_at xs) told.2 in
    λ j. record { cell = cell; top = mine j; tied = told.0 j; second = told.2 j; under = under j }
