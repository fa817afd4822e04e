-- Edits in the order in which they are done: those of a file from its end to its start.
use Rattle.std.specs.Prelude.{◌≡◌, ℕ, Bool, ◌&&◌, ◌||◌, nat_eq, nat_lt, if◌then◌else◌, List, [], ◌∷◌, reverse}
use Rattle.std.specs.List.{AllByRecursion}
use Rattle.edit_apply.specs.declared.edits.Edit.{Edit}

-- whether an edit begins before another one: in an earlier file, or in the same one at a lesser place
abbrev pub begins_before : Edit → Edit → Bool
begins_before e d = nat_lt e.file d.file || (nat_eq e.file d.file && nat_lt e.start d.start)

abbrev pub begin_together : Edit → Edit → Bool
begin_together e d = nat_eq e.file d.file && nat_eq e.start d.start

-- An edit among others that go from the first place to the last; it takes the place of one that begins where it does.
abbrev pub put_in : List Edit → Edit → List Edit
put_in [] e = e ∷ []
put_in (d ∷ ds) e = if begin_together e d then e ∷ ds else (if begins_before e d then e ∷ d ∷ ds else d ∷ put_in ds e)

abbrev pub put_all : List Edit → List Edit → List Edit
put_all ds [] = ds
put_all ds (e ∷ es) = put_all (put_in ds e) es

-- from the first place of the first file to the last one of the last
abbrev pub by_place : List Edit → List Edit
by_place es = put_all [] es

-- from the last place of the last file to the first one of the first
abbrev pub from_the_end : List Edit → List Edit
from_the_end es = reverse (by_place es)

-- the file and the place where an edit begins
abbrev pub place_of : Edit → ℕ × ℕ
place_of e = (e.file, e.start)

-- each edit stands under its place
abbrev pub AreKeyed : List ((ℕ × ℕ) × Edit) → Type 0
AreKeyed es = AllByRecursion (λ e. e.0 ≡ place_of e.1) es
