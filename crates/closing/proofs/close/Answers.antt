-- `close`: what is copied one place forward, and then the freed place, are the column that closed up.
use Rattle.std.proofs.Common.{arith, ap, ◌∙◌, ◌≡◌, List, ◌∷◌, ◌++◌, ℕ, suc, ◌+◌, ◌-◌, ◌<◌, ◌≤◌, length, length-drop, get_or, set, take, drop}
use Rattle.std.proofs.Math.Path.{sym}
use Rattle.std.proofs.Math.Seq.{paste, length_paste_head, drop-cons, set-append_seam}
use Rattle.std.proofs.lemmas.List.{append_assoc}
use Rattle.closing.specs.Closed.{closed}
use Rattle.closing.proofs.close.Goals as goal

-- those behind p up to the n-th copied one place forward, and z set in the n-th place
copied-closed : {A : Type 0} (z : A) (p n : ℕ) (l : List A) → p < n → n ≤ length l → set (paste l p (drop (p + 1) l) (n - (p + 1))) (n - 1) z ≡ closed z p n l
unfolding closed
copied-closed z p n l inside room =
    let m = n - (p + 1) in
    let tail = drop (p + 1) l in
    let head = take p l ++ take m tail in
    let last = get_or l (n - 1) z in
    let next : p + 1 ≡ suc p = omega arith in
    let end : p + m ≡ n - 1 = omega arith in
    let back : suc (n - 1) ≡ n = omega arith in
    let len : length head ≡ n - 1 = length_paste_head l p tail m (omega arith) (omega (arith, length-drop (p + 1) l)) ∙ end in
    let seam : drop (p + m) l ≡ last ∷ drop n l = ap (λ k. drop k l) end ∙ drop-cons l (n - 1) z (omega arith) ∙ ap (λ k. last ∷ drop k l) back in
    ap (λ r. set (head ++ r) (n - 1) z) seam
    ∙ ap (λ k. set (head ++ (last ∷ drop n l)) k z) (sym len)
    ∙ set-append_seam head last (drop n l) z
    ∙ append_assoc (take p l) (take m tail) (z ∷ drop n l)
    ∙ ap (λ k. take p l ++ (take (n - k) (drop k l) ++ z ∷ drop n l)) next

pub returns : goal.returns
returns g c = rw (c.copy_within.ensures.after, c.BLANK.ensures) (copied-closed g.T.Blank.BLANK c.args.at c.args.n c.args.xs.now c.requires.0 c.requires.1)
