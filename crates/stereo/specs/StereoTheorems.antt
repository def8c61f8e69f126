-- THE SHIFT IS RIGHT, and no other number is (`shift-right`, `shift-only`); swapping the cameras negates it (`shift-swapped`); along a chain of three shifts add up (`shift-chain`); hits and misses
-- are the sums of both, and together both lists' edges (`totals`). Of two answers: `given`, `given-only`, `swapped`, `chain`.
use Rattle.std.specs.Prelude.{◌≡◌, refl, Bool, true, false, ℕ, zero, suc, ◌+◌, ◌-◌, ◌*◌, ◌%◌, ◌≤◌, ◌<◌, eqb, ltb, ℤ, pos, negsuc, neg_ℤ, ◌+ℤ◌, ◌-ℤ◌, Err, Ok}
use Rattle.std.proofs.Common.{sym, ap, ap₂, subst, ◌∙◌, ⊎_elim, mod-lt, arith, nltb→le, lit<, le-leb, le-ltb, eqb-true}
use Rattle.std.proofs.Math.IntN.{+ℤ_assoc, +ℤ_comm, pos-+ℤ-pos}
use Rattle.std.proofs.lemmas.Bool.{lt-leb, eqb-false}
use Rattle.laws.specs.Tests.{by-test, compared}
use Rattle.laws.specs.Words.{emod}
use Rattle.laws.specs.RemainderLaws.{emod-shift, is-sub}
use Rattle.answer.specs.declared.Square.{Square}
use Rattle.answer.specs.declared.Decoded.{Decoded}
use Rattle.answer.specs.Answers.{Answer}
use Rattle.answer_checks.specs.FoundBad.{found_bad, FoundFits}
use Rattle.answer_checks.specs.FoundBadLaws.{found-fits, fits-found}
use Rattle.stereo.specs.declared.Camera.{Camera}
use Rattle.stereo.specs.declared.Shift.{Shift}
use Rattle.stereo.specs.Answers.{StereoAnswer}
use Rattle.stereo.specs.Stereo.{Right, ahead, shift_of, off_board, OnBoard, refused_by, shift_found, shift_between}
use Rattle.stereo.specs.StereoLaws.{on-board, ends-23, ends-9-first, ends-9-second, ends-25-first, ends-25-second, ends-shift}

-- ---- the two ways of going
forward : (a b : ℕ) → ahead a b ≤ 250 → shift_of a b ≡ pos (ahead a b)
unfolding shift_of
forward a b l = rw (le-leb (ahead a b) 250 l)

-- 501 less than d, where d is below it
back : (d : ℕ) → d ≤ 500 → pos d -ℤ pos 501 ≡ negsuc (500 - d)
back d h = by-test ℤ (λ z. z ≡ negsuc (500 - d)) (ltb d 501) (negsuc (501 - suc d)) (pos (d - 501)) (λ t. ap negsuc (omega arith)) (λ t. absurd (no (nltb→le d 501 t)))
  where
    no : 501 ≤ d → ⊥
    no l = omega arith

ahead-few : (a b : ℕ) → ahead a b ≤ 500
ahead-few a b = let l = mod-lt (b + 501 - a) (lit< {n = 501} tt) in omega arith

backward : (a b : ℕ) → 250 < ahead a b → shift_of a b ≡ negsuc (500 - ahead a b)
unfolding shift_of
backward a b l = rw (lt-leb (ahead a b) 250 l) (back (ahead a b) (ahead-few a b))

-- ---- 501 more than a shift is a natural number
module _ (z : ℤ) (l : ℕ) (e : z +ℤ pos 501 ≡ pos l) where
  -- it leads a to the remainder of a + l
  led : (a : ℕ) → emod (pos a +ℤ z) 501 ≡ (a + l) % 501
  led a = emod-shift (pos a +ℤ z) 501 1 (a + l) (lit< tt) (+ℤ_assoc (pos a) z (pos 501) ∙ ap (λ (x : ℤ). pos a +ℤ x) e ∙ pos-+ℤ-pos a l)

  itself : emod z 501 ≡ l % 501
  itself = emod-shift z 501 1 l (lit< tt) e

lift-pos : (m : ℕ) → pos m +ℤ pos 501 ≡ pos (m + 501)
lift-pos m = pos-+ℤ-pos m 501

lift-neg : (m : ℕ) → m ≤ 500 → negsuc m +ℤ pos 501 ≡ pos (500 - m)
lift-neg m h = is-sub 501 (suc m) (500 - m) (omega arith)

-- ---- THE SHIFT IS RIGHT
pub shift-right : (a b : ℕ) → a ≤ 500 → b ≤ 500 → Right a b (shift_of a b)
shift-right a b p q =
    ⊎_elim
    (λ l. rw (backward a b l) (record { small = omega arith; leads = led (negsuc (500 - ahead a b)) _ (lift-neg (500 - ahead a b) (omega arith)) a ∙ omega arith }))
    (λ l. rw (forward a b l) (record { small = l; leads = led (pos (ahead a b)) _ (lift-pos (ahead a b)) a ∙ omega arith }))
    (compared 250 (ahead a b))

-- AND NO OTHER NUMBER IS
pub shift-only : (a b : ℕ) (z : ℤ) → a ≤ 500 → b ≤ 500 → Right a b z → z ≡ shift_of a b
shift-only a b (pos m) p q r =
    let s = r.small in
    let e = sym (led (pos m) (m + 501) (lift-pos m) a) ∙ r.leads in
    let d : ahead a b ≡ m = omega arith in
    ap pos (sym d) ∙ sym (forward a b (omega arith))
shift-only a b (negsuc m) p q r =
    let s = r.small in
    let e = sym (led (negsuc m) (500 - m) (lift-neg m (omega arith)) a) ∙ r.leads in
    let d : ahead a b ≡ 500 - m = omega arith in
    let k : m ≡ 500 - ahead a b = omega arith in
    ap negsuc k ∙ sym (backward a b (omega arith))

-- SWAPPING THE CAMERAS NEGATES IT
pub shift-swapped : (a b : ℕ) → a ≤ 500 → b ≤ 500 → shift_of b a ≡ neg_ℤ (shift_of a b)
shift-swapped a b p q = go (ahead a b) refl
  where
    go : (d : ℕ) → ahead a b ≡ d → shift_of b a ≡ neg_ℤ (shift_of a b)
    go zero e =
        let k : ahead b a ≡ 0 = omega arith in
        forward b a (omega arith) ∙ ap pos k ∙ sym (ap neg_ℤ (forward a b (omega arith) ∙ ap pos e))
    go (suc d) e =
        let k : ahead b a ≡ 500 - d = omega arith in
        ⊎_elim
        (λ l. forward b a (omega arith) ∙ ap pos (omega arith) ∙ sym (ap neg_ℤ (backward a b l)))
        (λ l. backward b a (omega arith) ∙ ap negsuc (omega arith) ∙ sym (ap neg_ℤ (forward a b l ∙ ap pos e)))
        (compared 250 (ahead a b))

-- ALONG A CHAIN OF THREE, SHIFTS ADD UP
pub shift-chain : (a b c : ℕ) → a ≤ 500 → b ≤ 500 → c ≤ 500 → emod (shift_of a b +ℤ shift_of b c) 501 ≡ emod (shift_of a c) 501
shift-chain a b c p q r =
    let x = lifted a b in
    let y = lifted b c in
    let z = lifted a c in
    emod-shift (shift_of a b +ℤ shift_of b c) 501 2 (x.0 + y.0) (lit< tt) (swap (shift_of a b) (shift_of b c) (pos 501) (pos 501) ∙ ap₂ ◌+ℤ◌ x.1 y.1 ∙ pos-+ℤ-pos x.0 y.0)
    ∙ sum x.0 y.0 z.0 x.2 y.2 z.2 ∙ sym (itself (shift_of a c) z.0 z.1)
  where
    -- 501 more than a shift, and its remainder
    lifted : (a b : ℕ) → (l : ℕ) × (shift_of a b +ℤ pos 501 ≡ pos l) × (l % 501 ≡ ahead a b)
    lifted a b =
        ⊎_elim
        (λ l. (500 - (500 - ahead a b), ap (λ (x : ℤ). x +ℤ pos 501) (backward a b l) ∙ lift-neg (500 - ahead a b) (omega arith), omega (arith, ahead-few a b)))
        (λ l. (ahead a b + 501, ap (λ (x : ℤ). x +ℤ pos 501) (forward a b l) ∙ lift-pos (ahead a b), omega (arith, ahead-few a b)))
        (compared 250 (ahead a b))

    swap : (x y s t : ℤ) → (x +ℤ y) +ℤ (s +ℤ t) ≡ (x +ℤ s) +ℤ (y +ℤ t)
    swap x y s t =
        +ℤ_assoc x y (s +ℤ t) ∙ ap (λ (u : ℤ). x +ℤ u) (sym (+ℤ_assoc y s t) ∙ ap (λ (u : ℤ). u +ℤ t) (+ℤ_comm y s) ∙ +ℤ_assoc s y t) ∙ sym (+ℤ_assoc x s (y +ℤ t))

    -- forward from a to b, there is b or b one turn later
    turn : (a b : ℕ) → a ≤ 500 → b ≤ 500 → (k : ℕ) × (a + ahead a b ≡ b + 501 * k)
    turn a b p q = ⊎_elim (λ l. (1, omega arith)) (λ l. (0, omega arith)) (compared b a)

    split : (x y u v : ℕ) → x % 501 ≡ u → y % 501 ≡ v → (x + y) % 501 ≡ (u + v) % 501
    split x y u v i j = omega arith

    turns : (a b c u v w i j k : ℕ) → w < 501 → a + u ≡ b + 501 * i → b + v ≡ c + 501 * j → a + w ≡ c + 501 * k → (u + v) % 501 ≡ w
    turns a b c u v w i j k l x y z = omega arith

    sum : (x y z : ℕ) → x % 501 ≡ ahead a b → y % 501 ≡ ahead b c → z % 501 ≡ ahead a c → (x + y) % 501 ≡ z % 501
    sum x y z i j k =
        let f = turn a b p q in
        let g = turn b c q r in
        let h = turn a c p r in
        split x y (ahead a b) (ahead b c) i j ∙ turns a b c (ahead a b) (ahead b c) (ahead a c) f.0 g.0 h.0 (mod-lt (c + 501 - a) (lit< tt)) f.1 g.1 h.1 ∙ sym k

-- HITS AND MISSES ARE THE SUMS, and together the edges of both lists
pub totals : (d e : Decoded) → FoundFits d → FoundFits e
    → ((shift_found d e).hits ≡ d.hits + e.hits) × ((shift_found d e).misses ≡ d.edges - d.hits + (e.edges - e.hits)) × ((shift_found d e).hits + (shift_found d e).misses ≡ d.edges + e.edges)
unfolding shift_found
totals d e f g = (refl, refl, omega (arith, f.hits, g.hits))

-- a refusal is no shift, and two shifts are told by what they hold
refused-not : (n : ℕ) (c : Camera) (s : Shift) → refused_by n c ≡ Ok s → ⊥
refused-not n c s e = subst told e tt
  where
    told : StereoAnswer → Type 0
    told (Err (k, d)) = Unit {0}
    told (Ok r) = ⊥

between-once : {s t : Shift} → ◌≡◌ {A = StereoAnswer} (Ok s) (Ok t) → s ≡ t
between-once {s} {t} e = cc

board-on : (q : Square) → OnBoard q → off_board q ≡ false
unfolding off_board
board-on q o = rw (le-ltb 500 q.row o.row, le-ltb 500 q.col o.col) refl

-- ---- what a shift between two answers says, in words of these answers
-- both found, under one transform, on the board, each fitting itself
pub record BothFit (d e : Decoded) : Type 0 where
  pub same : d.square.transform ≡ e.square.transform
  pub first_on : OnBoard d.square
  pub second_on : OnBoard e.square
  pub first_fits : FoundFits d
  pub second_fits : FoundFits e

-- the shift leads from the first origin to the second, and totals both views
pub record Leads (d e : Decoded) (s : Shift) : Type 0 where
  pub rows : Right d.square.row e.square.row s.rows
  pub cols : Right d.square.col e.square.col s.cols
  pub hits : s.hits ≡ d.hits + e.hits
  pub misses : s.misses ≡ d.edges - d.hits + (e.edges - e.hits)
  pub edges : s.hits + s.misses ≡ d.edges + e.edges

leading : (d e : Decoded) → BothFit d e → Leads d e (shift_found d e)
unfolding shift_found
leading d e f = record {
  rows = shift-right d.square.row e.square.row f.first_on.row f.second_on.row;
  cols = shift-right d.square.col e.square.col f.first_on.col f.second_on.col;
  hits = refl;
  misses = refl;
  edges = (totals d e f.first_fits f.second_fits).2;
}

-- A SHIFT IS GIVEN EXACTLY for two answers that are found, under one transform, on the board and fit themselves; and it leads from the one to the other
pub given : (d e : Decoded) → BothFit d e → (s : Shift) × (shift_between (Ok d) (Ok e) ≡ Ok s) × Leads d e s
given d e f =
    (shift_found d e, sym (ends-shift d e f.same (board-on d.square f.first_on) (board-on e.square f.second_on) (fits-found d f.first_fits) (fits-found e f.second_fits) (shift_found d e) refl), leading d e f)

pub data Given : Answer → Answer → Shift → Type 0 where
  between : (d e : Decoded) (s : Shift) → BothFit d e → Leads d e s → Given (Ok d) (Ok e) s

pub given-only : (a b : Answer) (s : Shift) → shift_between a b ≡ Ok s → Given a b s
given-only (Err r) b s e = absurd (refused-not _ _ s e)
given-only (Ok d) (Err r) s e = absurd (refused-not _ _ s e)
given-only (Ok d) (Ok g) s e = by-same (eqb d.square.transform g.square.transform) refl
  where
    by-second : d.square.transform ≡ g.square.transform → off_board d.square ≡ false → off_board g.square ≡ false → found_bad d ≡ false → (t : Bool) → found_bad g ≡ t → Given (Ok d) (Ok g) s
    by-second p i j k true l = absurd (refused-not _ _ s (ends-25-second d g p i j k l ∙ e))
    by-second p i j k false l =
        let f : BothFit d g = record { same = p; first_on = on-board d.square i; second_on = on-board g.square j; first_fits = found-fits d k; second_fits = found-fits g l } in
        let q : shift_found d g ≡ s = between-once (ends-shift d g p i j k l (shift_found d g) refl ∙ e) in
        between d g s f (subst (Leads d g) q (leading d g f))

    by_first : d.square.transform ≡ g.square.transform → off_board d.square ≡ false → off_board g.square ≡ false → (t : Bool) → found_bad d ≡ t → Given (Ok d) (Ok g) s
    by_first p i j true k = absurd (refused-not _ _ s (ends-25-first d g p i j k ∙ e))
    by_first p i j false k = by-second p i j k (found_bad g) refl

    by-second-on : d.square.transform ≡ g.square.transform → off_board d.square ≡ false → (t : Bool) → off_board g.square ≡ t → Given (Ok d) (Ok g) s
    by-second-on p i true j = absurd (refused-not _ _ s (ends-9-second d g p i j ∙ e))
    by-second-on p i false j = by_first p i j (found_bad d) refl

    by-first-on : d.square.transform ≡ g.square.transform → (t : Bool) → off_board d.square ≡ t → Given (Ok d) (Ok g) s
    by-first-on p true i = absurd (refused-not _ _ s (ends-9-first d g p i ∙ e))
    by-first-on p false i = by-second-on p i (off_board g.square) refl

    by-same : (t : Bool) → eqb d.square.transform g.square.transform ≡ t → Given (Ok d) (Ok g) s
    by-same true p = by-first-on (eqb-true d.square.transform g.square.transform p) (off_board d.square) refl
    by-same false p = absurd (refused-not _ _ s (ends-23 d g (eqb-false d.square.transform g.square.transform p) ∙ e))

-- SWAPPED CAMERAS are given the shift negated, with the same totals
pub record Negated (s t : Shift) : Type 0 where
  pub rows : t.rows ≡ neg_ℤ s.rows
  pub cols : t.cols ≡ neg_ℤ s.cols
  pub hits : t.hits ≡ s.hits
  pub misses : t.misses ≡ s.misses

pub swapped : (a b : Answer) (s : Shift) → shift_between a b ≡ Ok s → (t : Shift) × (shift_between b a ≡ Ok t) × Negated s t
swapped a b s q = go a b (given-only a b s q)
  where
    negated : (a b : ℕ) (x y : ℤ) → a ≤ 500 → b ≤ 500 → Right a b x → Right b a y → y ≡ neg_ℤ x
    negated a b x y p q r u = shift-only b a y q p u ∙ shift-swapped a b p q ∙ ap neg_ℤ (sym (shift-only a b x p q r))

    go : (a b : Answer) → Given a b s → (t : Shift) × (shift_between b a ≡ Ok t) × Negated s t
    go a b (between d e r f l) =
        let g = given e d (record { same = sym f.same; first_on = f.second_on; second_on = f.first_on; first_fits = f.second_fits; second_fits = f.first_fits }) in
        let m = g.2 in (
          g.0,
          g.1,
          record {
            rows = negated d.square.row e.square.row r.rows g.0.rows f.first_on.row f.second_on.row l.rows m.rows;
            cols = negated d.square.col e.square.col r.cols g.0.cols f.first_on.col f.second_on.col l.cols m.cols;
            hits = omega (arith, l.hits, m.hits);
            misses = omega (arith, l.misses, m.misses);
          },
        )

-- A CHAIN OF THREE: where there are shifts from the first to the second and from the second to the third, there is one from the first to the third, and the two add up to it modulo 501
pub record AddsUp (s t u : Shift) : Type 0 where
  pub rows : emod (s.rows +ℤ t.rows) 501 ≡ emod u.rows 501
  pub cols : emod (s.cols +ℤ t.cols) 501 ≡ emod u.cols 501

pub chain : (a b c : Answer) (s t : Shift) → shift_between a b ≡ Ok s → shift_between b c ≡ Ok t → (u : Shift) × (shift_between a c ≡ Ok u) × AddsUp s t u
chain a b c s t p q = go a b c (given-only a b s p) (given-only b c t q)
  where
    sums : (a b c : ℕ) (x y z : ℤ) → a ≤ 500 → b ≤ 500 → c ≤ 500 → Right a b x → Right b c y → Right a c z → emod (x +ℤ y) 501 ≡ emod z 501
    sums a b c x y z i j k f g h =
        ap₂ (λ (u w : ℤ). emod (u +ℤ w) 501) (shift-only a b x i j f) (shift-only b c y j k g) ∙ shift-chain a b c i j k ∙ sym (ap (λ (u : ℤ). emod u 501) (shift-only a c z i k h))

    go : (a b c : Answer) → Given a b s → Given b c t → (u : Shift) × (shift_between a c ≡ Ok u) × AddsUp s t u
    go a b c (between d e r f l) (between k g v h m) =
        let w = given d g (record { same = f.same ∙ h.same; first_on = f.first_on; second_on = h.second_on; first_fits = f.first_fits; second_fits = h.second_fits }) in
        let n = w.2 in (
          w.0,
          w.1,
          record {
            rows = sums d.square.row e.square.row g.square.row r.rows v.rows w.0.rows f.first_on.row f.second_on.row h.second_on.row l.rows m.rows n.rows;
            cols = sums d.square.col e.square.col g.square.col r.cols v.cols w.0.cols f.first_on.col f.second_on.col h.second_on.col l.cols m.cols n.cols;
          },
        )

-- ---- so far the theorems of two cameras, and of three
