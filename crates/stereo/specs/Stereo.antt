-- C-23: "It takes two found answers of flat boards with the same transform and gives the row and column shift from first origin to second, each the one number from -250 to 250 right modulo 501."
use Rattle.std.specs.Prelude.{◌≡◌, Bool, cond, ◌||◌, ℕ, ◌+◌, ◌-◌, ◌%◌, ◌≤◌, eqb, ltb, leb, ℤ, pos, nat_abs, ◌+ℤ◌, ◌-ℤ◌, Err, Ok}
use Rattle.laws.specs.Words.{emod}
use Rattle.refusals.specs.Numbers as why
use Rattle.answer.specs.declared.Square.{Square}
use Rattle.answer.specs.declared.Decoded.{Decoded}
use Rattle.answer.specs.Answers.{Answer}
use Rattle.answer_checks.specs.FoundBad.{found_bad, bad_figures}
use Rattle.stereo.specs.declared.Camera.{Camera}
use Rattle.stereo.specs.declared.Camera.TheVariants.{First, Second, Pair}
use Rattle.stereo.specs.declared.Shift.{Shift}
use Rattle.stereo.specs.Answers.{StereoAnswer}

-- ---- what a shift is, in the request's words: z is right from a to b
pub record Right (a b : ℕ) (z : ℤ) : Type 0 where
  pub small : nat_abs z ≤ 250
  pub leads : emod (pos a +ℤ z) 501 ≡ b % 501

-- how far b is beyond a, going forward round the board
abbrev pub ahead : ℕ → ℕ → ℕ
ahead a b = (b + 501 - a) % 501

-- the shift: that where it is at most 250, else 501 less, which goes backward. That it is right, and the only one, is `shift-right` and `shift-only`
unfoldable pub shift_of : ℕ → ℕ → ℤ
shift_of a b = cond (leb (ahead a b) 250) (pos (ahead a b)) (pos (ahead a b) -ℤ pos 501)

-- ---- the refusals
-- "22 if either answer is a refusal, naming the camera, the first if both are"
abbrev pub view_refused : ℕ
view_refused = 22

-- "then 23 for differing transforms"
abbrev pub transforms_differ : ℕ
transforms_differ = 23

-- a number, and the camera that it is about
abbrev pub refused_by : ℕ → Camera → StereoAnswer
refused_by n c = Err (n, c)

-- "9 for an origin outside 0 to 500"
unfoldable pub off_board : Square → Bool
off_board s = ltb 500 s.row || ltb 500 s.col

-- an origin on the flat board
pub record OnBoard (s : Square) : Type 0 where
  pub row : s.row ≤ 500
  pub col : s.col ≤ 500

-- ---- the answer
-- "It also totals the pair's hits and misses."
unfoldable pub shift_found : Decoded → Decoded → Shift
unfolding shift_of
shift_found d e = record {
  rows = shift_of d.square.row e.square.row;
  cols = shift_of d.square.col e.square.col;
  hits = d.hits + e.hits;
  misses = d.edges - d.hits + (e.edges - e.hits);
}

-- two found answers, the refusals in the request's order
unfoldable pub both_found : Decoded → Decoded → StereoAnswer
unfolding shift_found off_board found_bad
both_found d e =
    cond (eqb d.square.transform e.square.transform)
    (cond (off_board d.square) (refused_by why.bad_setting First)
    (cond (off_board e.square) (refused_by why.bad_setting Second)
    (cond (found_bad d) (refused_by bad_figures First)
    (cond (found_bad e) (refused_by bad_figures Second)
    (Ok (shift_found d e))))))
    (refused_by transforms_differ Pair)

-- any two answers
abbrev pub shift_between : Answer → Answer → StereoAnswer
shift_between (Err r) b = refused_by view_refused First
shift_between (Ok d) (Err r) = refused_by view_refused Second
shift_between (Ok d) (Ok e) = both_found d e
