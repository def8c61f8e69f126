-- The best and the second best of numbers f 0, f 1, ..: only values and the place of the best are kept.
use Rattle.std.specs.Prelude.{cond, false, ℕ, zero, suc, ◌+◌, ◌*◌, ltb}
use Rattle.board.specs.Hits.{EdgeList, Board}
use Rattle.classes.specs.declared.Three.{Three}
use Rattle.classes.specs.Classes.{residue_hits}
use Rattle.tops.specs.declared.Top.{Top}

-- number i is x: it takes the first place where it is greater than the best, which is then the second; else the second place where it is greater than that
abbrev pub pushed : Top → ℕ → ℕ → Top
pushed T i x =
    cond (ltb T.best x) (record { best = x; at = i; next = T.best })
    (cond (ltb T.next x) (record { best = T.best; at = T.at; next = x }) T)

-- of none
abbrev pub no_top : Top
no_top = record { best = 0; at = 0; next = 0 }

-- of the first n
unfoldable pub top_to : (ℕ → ℕ) → ℕ → Top
top_to f zero = no_top
top_to f (suc n) = pushed (top_to f n) n (f n)

-- three more, the classes of the long residue l
unfoldable pub pushed_three : Top → ℕ → Three → Top
pushed_three T l x = pushed (pushed (pushed T (l * 3) x.a) (l * 3 + 1) x.b) (l * 3 + 2) x.c

-- ---- the greatest of each short residue
unfoldable pub larger : ℕ → ℕ → ℕ
larger a b = cond (ltb a b) b a

-- of f 0, .., f (n - 1), and 0
unfoldable pub most : (ℕ → ℕ) → ℕ → ℕ
unfolding larger
most f zero = 0
most f (suc n) = larger (most f n) (f n)

unfoldable pub raised : Three → Three → Three
unfolding larger
raised T x = record { a = larger T.a x.a; b = larger T.b x.b; c = larger T.c x.c }

-- of the vertical side's first n long residues
unfoldable pub short_tops : Board → EdgeList → ℕ → ℕ → Three
unfolding most
short_tops B E t n = record {
  a = most (λ l. residue_hits B E t false l 0) n;
  b = most (λ l. residue_hits B E t false l 1) n;
  c = most (λ l. residue_hits B E t false l 2) n;
}
