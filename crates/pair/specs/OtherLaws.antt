-- The search for another pair than w: it misses only where no other pair passes, and finds the first one by horizontal then vertical cell position.
use Rattle.std.specs.Prelude.{◌≡◌, Bool, ◌&&◌, cond}
use Rattle.std.proofs.Math.Path.{refl}
use Rattle.std.proofs.Common.{sym, ◌∙◌, le_refl, arith}
use Rattle.std.proofs.Math.Bool.{true, false, not}
use Rattle.std.proofs.Math.Logic.{⊎_elim}
use Prim.Native.Nat.{ℕ, zero, suc, ◌≤◌, ◌<◌}
use Rattle.std.proofs.Math.Dec.{eqb}
use borrow.Author.Tests.{eqb-true, eqb-false, eq-eqb, ne_eqb}
use Rattle.laws.specs.Tests.{clash, split}
use Rattle.laws.specs.Words.{Grid}
use Rattle.laws.specs.GridLaws.{Laws}
use Rattle.pair.specs.Pair.{filled, other_in, other_pair}

-- what was found before stays
in_kept : (G : Grid) (q : ℕ → Bool) (h w a n : ℕ) → (a ≡ G.none → ⊥) → other_in G q h w a n ≡ a
unfolding other_in
in_kept G q h w a zero ne = refl
in_kept G q h w a (suc n) ne = rw (in_kept G q h w a n ne, ne_eqb a G.none ne)

-- with the horizontal cell h and the first n vertical cells: no other pair passes, or v is the first that makes one
pub data In (G : Grid) (q : ℕ → Bool) (h w n r : ℕ) : Type 0 where
  nowhere : r ≡ G.none → ((v : ℕ) → v < n → q v ≡ true → G.key h v ≡ w) → In G q h w n r
  there : (v : ℕ) → v < n → q v ≡ true → (G.key h v ≡ w → ⊥) → r ≡ G.key h v → ((u : ℕ) → u < v → q u ≡ true → G.key h u ≡ w) → In G q h w n r

-- of the first n horizontal and m vertical cells: no other pair passes, or (h, v) is the first that does
pub data Out (G : Grid) (m : ℕ) (p q : ℕ → Bool) (w n r : ℕ) : Type 0 where
  missing : r ≡ G.none → ((h v : ℕ) → h < n → v < m → p h ≡ true → q v ≡ true → G.key h v ≡ w) → Out G m p q w n r
  found : (h v : ℕ) → h < n → v < m → p h ≡ true → q v ≡ true → (G.key h v ≡ w → ⊥) → r ≡ G.key h v
      → ((g u : ℕ) → g < h → u < m → p g ≡ true → q u ≡ true → G.key g u ≡ w) → ((u : ℕ) → u < v → q u ≡ true → G.key h u ≡ w) → Out G m p q w n r

module _ (G : Grid) (hn vn : ℕ) (E : Laws G hn vn) where
  -- a pair is an origin
  key-some : (h v : ℕ) → h < hn → v < vn → G.key h v ≡ G.none → ⊥
  key-some h v p q e = omega (arith, E.under h v p q)

  in-law : (q : ℕ → Bool) (h w n : ℕ) → h < hn → n ≤ vn → In G q h w n (other_in G q h w G.none n)
  unfolding other_in
  in-law q h w zero hh hv = nowhere refl (λ v l e. absurd (omega arith))
  in-law q h w (suc n) hh hv = go (other_in G q h w G.none n) (q n) (eqb (G.key h n) w) refl refl (in-law q h w n hh (omega arith))
    where
      go : (r : ℕ) (t u : Bool) → q n ≡ t → eqb (G.key h n) w ≡ u → In G q h w n r → In G q h w (suc n) (filled G.none r (t && not u) (G.key h n))
      go r true true e d (nowhere z all) = rw (z, eq-eqb G.none G.none refl) (nowhere refl (λ v l m. ⊎_elim (λ s. rw s (eqb-true (G.key h n) w d)) (λ s. all v s m) (split v n l)))
      go r true false e d (nowhere z all) = rw (z, eq-eqb G.none G.none refl) (there n (omega arith) e (eqb-false (G.key h n) w d) refl all)
      go r false u e d (nowhere z all) = rw (z, eq-eqb G.none G.none refl) (nowhere refl (λ v l m. ⊎_elim (λ s. clash (rw s at m) e) (λ s. all v s m) (split v n l)))
      go r t u e d (there v l m ne z all) = rw (z, ne_eqb (G.key h v) G.none (key-some h v hh (omega arith))) (there v (omega arith) m ne refl all)

  pub pair-law : (p q : ℕ → Bool) (w n : ℕ) → n ≤ hn → Out G vn p q w n (other_pair G vn p q w n)
  unfolding other_pair
  pair-law p q w zero hh = missing refl (λ h v l k e d. absurd (omega arith))
  pair-law p q w (suc n) hh = go (other_pair G vn p q w n) (p n) refl (pair-law p q w n (omega arith))
    where
      row : (r : ℕ) → p n ≡ true → In G q n w vn r → ((h v : ℕ) → h < n → v < vn → p h ≡ true → q v ≡ true → G.key h v ≡ w) → Out G vn p q w (suc n) r
      row r e (nowhere z here) all = missing z (λ h v l k a b. ⊎_elim (λ s. rw s (here v k b)) (λ s. all h v s k a b) (split h n l))
      row r e (there v l k ne z here) all = found n v (omega arith) l e k ne z all here

      go : (r : ℕ) (t : Bool) → p n ≡ t → Out G vn p q w n r → Out G vn p q w (suc n) (cond t (other_in G q n w r vn) r)
      go r true e (missing z all) = rw z (row (other_in G q n w G.none vn) e (in-law q n w vn (omega arith) (le_refl vn)) all)
      go r false e (missing z all) = missing z (λ h v l k a b. ⊎_elim (λ s. clash (rw s at a) e) (λ s. all h v s k a b) (split h n l))
      go r true e (found h v l k a b ne z before here) = found h v (omega arith) k a b ne (in_kept G q n w r vn (λ x. key-some h v (omega arith) k (sym z ∙ x)) ∙ z) before here
      go r false e (found h v l k a b ne z before here) = found h v (omega arith) k a b ne z before here

  -- so it never names more than `none`
  pub other-small : (p q : ℕ → Bool) (w : ℕ) → other_pair G vn p q w hn ≤ G.none
  other-small p q w = go (other_pair G vn p q w hn) (pair-law p q w hn (le_refl hn))
    where
      go : (r : ℕ) → Out G vn p q w hn r → r ≤ G.none
      go r (missing z all) = omega arith
      go r (found h v l k a b ne z before here) = omega (arith, E.under h v l k)
