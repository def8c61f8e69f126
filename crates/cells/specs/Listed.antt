-- The list of f 0, .., f (n - 1), and a part of a list that holds them.
use Rattle.std.specs.Prelude.{◌≡◌, refl, List, [], ◌∷◌, ℕ, zero, suc, ◌+◌, ◌≤◌, ◌<◌, length, get_or, drop}
use Rattle.std.proofs.Common.{sym, ap, ◌∙◌, arith, get_or-take, get_or-drop, ext_get_or}
use Rattle.laws.specs.Part.{view, view-length}

unfoldable pub listed : {A : Type 0} → ℕ → (ℕ → A) → List A
listed zero f = []
listed (suc n) f = f 0 ∷ listed n (λ k. f (suc k))

pub length-listed : {A : Type 0} (n : ℕ) (f : ℕ → A) → length (listed n f) ≡ n
unfolding listed
length-listed zero f = refl
length-listed (suc n) f = ap suc (length-listed n (λ k. f (suc k)))

pub get_d-listed : {A : Type 0} (d : A) (n : ℕ) (f : ℕ → A) (k : ℕ) → k < n → get_or (listed n f) k d ≡ f k
unfolding listed
get_d-listed d zero f k h = absurd (omega arith)
get_d-listed d (suc n) f zero h = refl
get_d-listed d (suc n) f (suc k) h = get_d-listed d n (λ k. f (suc k)) k (omega arith)

-- the n places from `at` on hold f 0, .., f (n - 1)
pub view-listed : {A : Type 0} (d : A) (at n : ℕ) (l : List A) (f : ℕ → A) → at + n ≤ length l → ((k : ℕ) → k < n → get_or l (at + k) d ≡ f k) → view at n l ≡ listed n f
view-listed d at n l f room h =
    let m : length (view at n l) ≡ n = view-length at n l room in
    ext_get_or d (view at n l) (listed n f) (m ∙ sym (length-listed n f)) (λ k b. place k (omega (arith, m, b)))
  where
    place : (k : ℕ) → k < n → get_or (view at n l) k d ≡ get_or (listed n f) k d
    place k b = get_or-take n (drop at l) k d b ∙ get_or-drop at l k d ∙ h k b ∙ sym (get_d-listed d n f k b)
