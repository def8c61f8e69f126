-- A page as an array with a place handed along, and as the text that stands on it: one law for both.
use Rattle.std.proofs.Common.{◌≡◌, refl, sym, ap, ◌∙◌, subst, List, [], ◌∷◌, ℕ, zero, suc, ◌+◌, ◌-◌, ◌≤◌, ◌++◌, length, take, get_or, set, arith}
use Rattle.std.proofs.Math.Seq.{take-suc-set, take-suc}
use Rattle.std.proofs.Math.Nat.{min-le_left, min-le_right}
use Rattle.std.proofs.lemmas.List.{append-nil, append_assoc, length-set, length-take-le}
use Rattle.slices.specs.Page.{taken, put_behind}
use Rattle.slices.specs.Placed.{written}
use Rattle.slices.proofs.Behind.{takes}

-- n bytes of a text that were stored from a place on stand behind what stood before it
stored : (room t : List ℕ) (at n : ℕ) → at + n ≤ length room → n ≤ length t
    → (length (written room at t n) ≡ length room) × (take (at + n) (written room at t n) ≡ take at room ++ take n t)
unfolding written
stored room t at zero h l = (refl, ap (λ (m : ℕ). take m room) {x = at + 0} {y = at} (omega arith) ∙ sym (append-nil (take at room)))
stored room t at (suc n) h l =
    let before = stored room t at n (omega arith) (omega arith) in
    let q = written room at t n in
    let x = get_or t n 0 in
    let next : take (suc (at + n)) (set q (at + n) x) ≡ take (at + n) q ++ (x ∷ []) = take-suc-set q (at + n) x (omega (arith, before.0)) in (
      length-set q (at + n) x ∙ before.0,
      ap (λ (m : ℕ). take m (set q (at + n) x)) {x = at + suc n} {y = suc (at + n)} (omega arith) ∙ next ∙ ap (λ (p : List ℕ). p ++ (x ∷ [])) before.1
          ∙ append_assoc (take at room) (take n t) (x ∷ []) ∙ ap (λ (p : List ℕ). take at room ++ p) (sym (take-suc t n 0 (omega arith))),
    )

-- what is written byte by byte behind the text that stands on a page is what the page holds once the text was put on it
pub written-behind : (room t : List ℕ) (at : ℕ) → length room ≡ 32768 → at ≤ 32768
    → take (at + taken at (length t)) (written room at t (taken at (length t))) ≡ put_behind (take at room) t
written-behind room t at whole within =
    let k = taken at (length t) in
    let few : k ≤ length t = min-le_left (length t) (32768 - at) in
    let fits : k ≤ 32768 - at = min-le_right (length t) (32768 - at) in
    let size : length (take at room) ≡ at = length-take-le at room (omega (arith, whole, within)) in
    (stored room t at k (omega (arith, fits, whole, within)) few).1
    ∙ subst (λ (n : ℕ). take at room ++ take (taken n (length t)) t ≡ put_behind (take at room) t) size (takes (take at room) t (omega (arith, size, within)))
