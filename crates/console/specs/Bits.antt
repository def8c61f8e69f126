-- The bits of a float, where every NaN counts as one.
use Rattle.std.specs.Prelude.{◌≡◌, ℕ, List, true, false, cond, not, T, to_bits, refl, Float, codes}
use Rattle.io.specs.Digits.{last_digits}
use Rattle.std.proofs.Common.{sym, subst, ◌∙◌}
use Rattle.std.specs.Float.{binary32, nan, inf, fin}
use Rattle.std.specs.Float.Ieee.{ne, is_nan}
use Rattle.std.specs.Float.Ieee.Compare.{differs_from_itself, nan_differs}

-- the 32 bits of a float; of any NaN 7fc00000
unfoldable pub bits_of : Float → ℕ
unfolding is_nan
bits_of x = cond (is_nan x) 2143289344 (to_bits binary32 x)

-- what differs from itself is a NaN
pub bits-nan : (x : Float) → ne x x ≡ true → 2143289344 ≡ bits_of x
unfolding bits_of is_nan
bits-nan x e = rw (differs_from_itself x (subst T (sym e) tt))

-- what does not is none
pub no_nan : (x : Float) → ne x x ≡ false → T (not (is_nan x))
unfolding is_nan
no_nan nan e = subst T (sym nan_differs ∙ e) tt
no_nan (inf s) e = tt
no_nan (fin s m n) e = tt

-- and has bits
pub bits-some : (x : Float) → T (not (is_nan x)) → to_bits binary32 x ≡ bits_of x
unfolding bits_of is_nan
bits-some nan h = absurd h
bits-some (inf s) h = refl
bits-some (fin s m n) h = refl

-- what is shown of a float: its bits in eight hexadecimal digits; NaN by its name
unfoldable pub shown_bits : Float → List ℕ
shown_bits x = cond (is_nan x) (codes "NaN") (last_digits 16 8 (bits_of x))

-- what differs from itself is shown as NaN
pub shown-nan : (x : Float) → ne x x ≡ true → codes "NaN" ≡ shown_bits x
unfolding shown_bits is_nan
shown-nan x e = rw (differs_from_itself x (subst T (sym e) tt)) refl

-- what does not is shown by its bits
pub shown-some : (x : Float) → T (not (is_nan x)) → last_digits 16 8 (bits_of x) ≡ shown_bits x
unfolding shown_bits is_nan
shown-some nan h = absurd h
shown-some (inf s) h = refl
shown-some (fin s m n) h = refl
