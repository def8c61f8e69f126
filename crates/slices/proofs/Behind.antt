-- Text put on a page, part by part.
use Rattle.std.proofs.Common.{◌≡◌, sym, ap, ◌∙◌, inl, inr, List, [], ◌∷◌, ℕ, ◌+◌, ◌-◌, ◌≤◌, ◌++◌, min, length, take, arith, take_all}
use Rattle.std.proofs.lemmas.Bool.{cases_lt}
use Rattle.std.proofs.Math.Seq.{take-append-add}
use Rattle.std.proofs.Math.Nat.{min_comm, min-le_left}
use Rattle.std.proofs.lemmas.List.{append-nil, append_assoc, take_min, take-append-le, length-take, length-take-le}
use Rattle.std.specs.List.{FoldsTo, concat}
use Rattle.std.proofs.lemmas.Slice.{take-put_mid}
use borrow.Rule.Slice.PartMut.{put_mid}
use Rattle.std.specs.Prelude.{Option, Some, None}
use Rattle.std.specs.Fmt.{WritesText}
use Rattle.slices.specs.Page.{taken, put_behind, IsWritten}

-- the fewer of all elements and n more is n elements
fewer : (k : ℕ) (t : List ℕ) → take (min (length t) k) t ≡ take k t
fewer k t = ap (λ n. take n t) (min_comm (length t) k) ∙ take_min k t

-- what finds room behind p
behind : (r : ℕ) (p t : List ℕ) → length p ≤ r → p ++ take (r - length p) t ≡ take r (p ++ t)
behind r p t h = let e : length p + (r - length p) ≡ r = omega (arith, h) in sym (take-append-add p t (r - length p)) ∙ ap (λ n. take n (p ++ t)) e

-- what does not find room is never seen
cut : (r : ℕ) (q t : List ℕ) → take r (take r q ++ t) ≡ take r (q ++ t)
cut r q t = elim (cases_lt r (length q)) [
  | inl h ↦ let l : length (take r q) ≡ r = length-take-le r q (omega (arith, h)) in
      take-append-le r (take r q) t (omega (arith, l)) ∙ take_all r (take r q) (omega (arith, l)) ∙ sym (take-append-le r q t (omega (arith, h)))
  | inr h ↦ ap (λ s. take r (s ++ t)) (take_all r q h)
]

-- what a page takes of a text is what finds room behind the text that stands on it
pub takes : (p t : List ℕ) → length p ≤ 32768 → p ++ take (taken (length p) (length t)) t ≡ put_behind p t
unfolding put_behind
takes p t h = ap (λ s. p ++ s) (fewer (32768 - length p) t) ∙ behind 32768 p t h

-- no text at all leaves a page as it is
pub nothing-behind : (p : List ℕ) → length p ≤ 32768 → p ≡ put_behind p []
unfolding put_behind
nothing-behind p h = sym (ap (take 32768) (append-nil p) ∙ take_all 32768 p h)

-- one text behind another is both
pub both-behind : (p s t : List ℕ) → put_behind (put_behind p s) t ≡ put_behind p (s ++ t)
unfolding put_behind
both-behind p s t = cut 32768 (p ++ s) t ∙ ap (take 32768) (append_assoc p s t)

-- a page holds no more than it has room for
pub short : (p t : List ℕ) → length (put_behind p t) ≤ 32768
unfolding put_behind
short p t = rw (length-take 32768 (p ++ t)) (min-le_left 32768 (length (p ++ t)))

-- what single calls put one behind another is put as one text
pub calls-behind : (ts : List (List ℕ)) (p q : List ℕ) → length p ≤ 32768 → FoldsTo (λ a t b. b ≡ put_behind a t) p ts q → q ≡ put_behind p (concat ts)
calls-behind [] p q h e = sym e ∙ nothing-behind p h
calls-behind (t ∷ ts) p q h (j, s, f) =
    calls-behind ts j q (rw s (short p t)) f ∙ ap (λ a. put_behind a (concat ts)) s ∙ both-behind p t (concat ts)

-- a page of which the first e places are text, with n bytes of a text copied behind it
pub copied : (room mid t p : List ℕ) (e n k : ℕ) → length room ≡ 32768 → e ≤ 32768 → take e room ≡ p → n ≡ taken e (length t) → mid ≡ take n t → take (e + n) (put_mid e k room mid) ≡ put_behind p t
copied room mid t p e n k full fits stands few copy =
    let long : length p ≡ e = ap length (sym stands) ∙ length-take-le e room (omega (arith, full, fits)) in
    let most : n ≤ length t = rw few (min-le_left (length t) (32768 - e)) in
    let as_long : length mid ≡ n = ap length copy ∙ length-take-le n t most in
    take-put_mid e k room mid (e + n) (omega (arith, as_long)) (omega (arith, full, fits))
    ∙ ap (λ s. s ++ mid) stands
    ∙ ap (λ s. p ++ s) (copy ∙ ap (λ m. take m t) (few ∙ ap (λ a. taken a (length t)) (sym long)))
    ∙ takes p t (omega (arith, long, fits))

-- what `write!` puts, in as many calls as it likes, is put as one text
pub written-whole : (p : List ℕ) (o : Option (List ℕ)) (q : List ℕ) → length p ≤ 32768 → WritesText (λ a t b. b ≡ put_behind a t) p o q → IsWritten p o q
written-whole p (Some t) q h w = inl (calls-behind w.parts p q h w.calls ∙ ap (λ s. put_behind p s) w.whole)
written-whole p None q h w = tt

-- a full page tells that something may be missing
pub written-full : (p : List ℕ) (o : Option (List ℕ)) (q : List ℕ) → length q ≡ 32768 → IsWritten p o q
written-full p (Some t) q e = inr e
written-full p None q e = tt

-- the text that stands on a page is no longer than the page
pub no_longer : (room p : List ℕ) (e : ℕ) → length room ≡ 32768 → e ≤ 32768 → take e room ≡ p → length p ≤ 32768
no_longer room p e full fits stands =
    let l : length p ≡ e = ap length (sym stands) ∙ length-take-le e room (omega (arith, full, fits)) in
    omega (arith, l, fits)
