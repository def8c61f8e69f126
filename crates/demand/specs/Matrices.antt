-- Document 01: "origin and matrix must agree". The eight matrices differ, so that transforms may be compared by number.
use Rattle.std.specs.Prelude.{◌≡◌, refl, ℕ, zero, suc, ◌<◌, ℤ, pos, negsuc}
use Rattle.std.proofs.Common.{sym, ◌∙◌, arith}
use Rattle.board.specs.Transform.{mat}

-- the number of the transform with a matrix, by its four entries
abbrev number_of : ℤ → ℤ → ℤ → ℤ → ℕ
number_of (pos zero) (pos b) (pos c) d = 5
number_of (pos zero) (pos b) (negsuc c) d = 3
number_of (pos zero) (negsuc b) (pos c) d = 1
number_of (pos zero) (negsuc b) (negsuc c) d = 7
number_of (pos (suc a)) b c (pos d) = 0
number_of (pos (suc a)) b c (negsuc d) = 6
number_of (negsuc a) b c (pos d) = 4
number_of (negsuc a) b c (negsuc d) = 2

number-told : (t : ℕ) → t < 8 → number_of (mat t 0 0) (mat t 0 1) (mat t 1 0) (mat t 1 1) ≡ t
unfolding mat
number-told zero h = refl
number-told (suc zero) h = refl
number-told (suc (suc zero)) h = refl
number-told (suc (suc (suc zero))) h = refl
number-told (suc (suc (suc (suc zero)))) h = refl
number-told (suc (suc (suc (suc (suc zero))))) h = refl
number-told (suc (suc (suc (suc (suc (suc zero)))))) h = refl
number-told (suc (suc (suc (suc (suc (suc (suc zero))))))) h = refl
number-told (suc (suc (suc (suc (suc (suc (suc (suc t)))))))) h = absurd (omega arith)

-- equal matrices are those of one transform
pub matrix-tells : (t s : ℕ) → t < 8 → s < 8 → ((i j : ℕ) → mat t i j ≡ mat s i j) → t ≡ s
matrix-tells t s h k e = sym (number-told t h) ∙ (λ i. number_of (e 0 0 i) (e 0 1 i) (e 1 0 i) (e 1 1 i)) ∙ number-told s k
