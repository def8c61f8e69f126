-- Each way in which two found answers end, by the tests that were made before it.
use Rattle.std.specs.Prelude.{◌≡◌, Bool, true, false, cond, ℕ, ◌+◌, ◌-◌, ◌^◌, ◌≤◌, ◌<◌, ltb, leb, ℤ, pos, nat_abs, ◌-ℤ◌, Err, Ok}
use Rattle.std.proofs.Math.Path.{sym, ap}
use Rattle.std.proofs.Common.{ap₂, ◌∙◌, mod-lt, arith, lit<, eq-eqb, ne_eqb, lt-ltb, le-ltb, ltb-false}
use Rattle.std.specs.Int.{w32}
use Rattle.laws.specs.Tests.{or-false}
use Rattle.laws.specs.Whole.{abs-sub}
use Rattle.laws.specs.Signed.{read, read_at}
use Rattle.refusals.specs.Numbers as why
use Rattle.answer.specs.declared.Square.{Square}
use Rattle.refusals.specs.declared.Refusal.{Refusal}
use Rattle.answer.specs.declared.Decoded.{Decoded}
use Rattle.answer.specs.Answers.{Answer}
use Rattle.answer_checks.specs.FoundBad.{found_bad, bad_figures}
use Rattle.stereo.specs.declared.Shift.{Shift}
use Rattle.stereo.specs.declared.Camera.TheVariants.{First, Second, Pair}
use Rattle.stereo.specs.Answers.{StereoAnswer}
use Rattle.stereo.specs.Stereo.{ahead, shift_of, view_refused, transforms_differ, refused_by, off_board, OnBoard, shift_found, both_found, shift_between}

-- a square that is not off the board is on it
pub on-board : (s : Square) → off_board s ≡ false → OnBoard s
unfolding off_board
on-board s e = let a = or-false (ltb 500 s.row) (ltb 500 s.col) e in record { row = ltb-false 500 s.row a.0; col = ltb-false 500 s.col a.1 }

pub off-by-row : (s : Square) → 500 < s.row → true ≡ off_board s
unfolding off_board
off-by-row s l = sym (rw (lt-ltb 500 s.row l))

pub off-by-col : (s : Square) → s.row ≤ 500 → ltb 500 s.col ≡ off_board s
unfolding off_board
off-by-col s l = sym (rw (le-ltb 500 s.row l))

-- a shift is small enough for 32 bits, whatever it leads between
pub shift_fits : (a b : ℕ) → nat_abs (shift_of a b) < 2 ^ 31
unfolding shift_of
shift_fits a b = go (leb (ahead a b) 250) (mod-lt (b + 501 - a) (lit< tt))
  where
    go : (t : Bool) → ahead a b < 501 → nat_abs (cond t (pos (ahead a b)) (pos (ahead a b) -ℤ pos 501)) < 2 ^ 31
    go true l = omega arith
    go false l = omega (arith, abs-sub (pos (ahead a b)) (pos 501))

-- what a shift of two found answers is made of
pub found-shift : (d e : Decoded) (x y : ℤ) → x ≡ shift_of d.square.row e.square.row → y ≡ shift_of d.square.col e.square.col
    → record { rows = read w32 x; cols = read w32 y; hits = d.hits + e.hits; misses = d.edges - d.hits + (e.edges - e.hits) } ≡ shift_found d e
unfolding shift_found
found-shift d e x y p q =
    ap₂ (λ (u w : ℤ). record { rows = u; cols = w; hits = d.hits + e.hits; misses = d.edges - d.hits + (e.edges - e.hits) })
    (read_at w32 p (shift_fits d.square.row e.square.row)) (read_at w32 q (shift_fits d.square.col e.square.col))

module _ (d e : Decoded) where
  pub ends-23 : (d.square.transform ≡ e.square.transform → ⊥) → refused_by transforms_differ Pair ≡ both_found d e
  unfolding both_found
  ends-23 n = sym (rw (ne_eqb d.square.transform e.square.transform n))

  module _ (s : d.square.transform ≡ e.square.transform) where
    pub ends-9-first : off_board d.square ≡ true → refused_by why.bad_setting First ≡ both_found d e
    unfolding both_found
    ends-9-first a = sym (rw (eq-eqb d.square.transform e.square.transform s, a))

    module _ (a : off_board d.square ≡ false) where
      pub ends-9-second : off_board e.square ≡ true → refused_by why.bad_setting Second ≡ both_found d e
      unfolding both_found
      ends-9-second b = sym (rw (eq-eqb d.square.transform e.square.transform s, a, b))

      module _ (b : off_board e.square ≡ false) where
        pub ends-25-first : found_bad d ≡ true → refused_by bad_figures First ≡ both_found d e
        unfolding both_found
        ends-25-first f = sym (rw (eq-eqb d.square.transform e.square.transform s, a, b, f))

        module _ (f : found_bad d ≡ false) where
          pub ends-25-second : found_bad e ≡ true → refused_by bad_figures Second ≡ both_found d e
          unfolding both_found
          ends-25-second g = sym (rw (eq-eqb d.square.transform e.square.transform s, a, b, f, g))

          pub ends-shift : found_bad e ≡ false → (r : Shift) → r ≡ shift_found d e → Ok r ≡ both_found d e
          unfolding both_found
          ends-shift g r h = ap Ok h ∙ sym (rw (eq-eqb d.square.transform e.square.transform s, a, b, f, g))

-- ---- any two answers
module _ (a b : Answer) where
  pub first-refused : (r : Refusal) → a ≡ Err r → refused_by view_refused First ≡ shift_between a b
  first-refused r p = ap (λ (x : Answer). shift_between x b) (sym p)

  module _ (d : Decoded) (p : a ≡ Ok d) where
    pub second-refused : (r : Refusal) → b ≡ Err r → refused_by view_refused Second ≡ shift_between a b
    second-refused r q = ap₂ shift_between (sym p) (sym q)

    pub both_told : (e : Decoded) → b ≡ Ok e → (r : StereoAnswer) → r ≡ both_found d e → r ≡ shift_between a b
    both_told e q r h = h ∙ ap₂ shift_between (sym p) (sym q)
