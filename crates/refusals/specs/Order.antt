-- Which of two refusals comes first. Document 01, 'Refusal numbers': "1 to 9 come first, lowest number over all lists"; C-11: "16 orientation and 17 bit come between 4 and 5".
use Rattle.std.specs.Prelude.{cond, ℕ, ◌+◌, ltb, eqb, Err, Ok}
use Rattle.refusals.specs.Admission.{Admission}
use Rattle.refusals.specs.Numbers as why

-- the place of a number in the order of refusals: 1, 2, 3, 4, 16, 17, 5, 6, 7, 8, 9, and the others after them
unfoldable pub ranked : ℕ → ℕ
ranked n = cond (eqb n why.bad_orientation) 5 (cond (eqb n why.bad_bit) 6 (cond (ltb why.bad_coordinate n) (n + 2) n))

-- the refusal that comes first of two, and of two of one rank the first given; what is accepted gives way
unfoldable pub earlier : Admission → Admission → Admission
earlier (Ok _) b = b
earlier (Err r) (Ok _) = Err r
earlier (Err r) (Err s) = cond (ltb (ranked s.number) (ranked r.number)) (Err s) (Err r)
