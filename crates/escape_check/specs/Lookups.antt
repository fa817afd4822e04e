-- Refusals for what is no longer used: an import, and a declared result.
use Rattle.std.specs.Prelude.{ℕ, ◌+◌, Bool, false, ◌&&◌, ◌||◌, not, nat_eq, nat_le, nat_lt, List, map, filter, Option, Some, None, slice_get}
use Rattle.std.specs.List.{list_any}
use Rattle.go_tree.specs.declared.object.Object.{Object}
use Rattle.go_tree.specs.declared.object.Object.TheVariants as object
use Rattle.go_tree.specs.Imports.{imports_fmt}
use Rattle.go_tree.specs.Lookups.{Asked, asked_from, is_assigned, is_import, object_asked}
use Rattle.go_tree.specs.Meanings.{meanings}
use Rattle.go_tree.specs.Units.{Unit}
use Rattle.go_scopes.specs.Resolve.{units_of}
use Rattle.param_choose.specs.Members.{Member, occurs_later, local_at}
use Rattle.param_choose.specs.Locals.{Variable}
use Rattle.param_choose.specs.Choosing.{Choice}
use Rattle.escape_check.specs.Places.{Sources, Place, file_of, window_place, place_if}
use Rattle.escape_check.specs.Names.{declaring_places}

-- the names of the package that are looked up, each with what it means
abbrev pub all_asked : Sources → List Asked
all_asked s = asked_from (meanings (units_of s.files)) 0 (units_of s.files)

-- ---- 13: a file that imports fmt has no use of it after the replacement

abbrev pub is_import_in : ℕ → Asked → Bool
is_import_in file a = nat_eq a.file file && is_import (object_asked a)

abbrev pub stands_in : {T : Type 0} → Sources → Member T → Asked → Bool
stands_in s m a = nat_eq a.file (file_of s m) && nat_le (m.first + m.from) a.it.name && nat_lt a.it.name (m.first + m.upto)

-- It stands outside all members, or in the template: the new function, which stands in the template's file, has it again.
abbrev pub stays : {T : Type 0} → Sources → Member T → List (Member T) → Asked → Bool
stays s t ms a = stands_in s t a || not (list_any (λ m. stands_in s m a) ms)

abbrev pub keeps_import : {T : Type 0} → Sources → Member T → List (Member T) → ℕ → Bool
keeps_import s t ms file = list_any (λ a. is_import_in file a && stays s t ms a) (all_asked s)

abbrev pub imports : Option Unit → Bool
imports None = false
imports (Some u) = imports_fmt u.tokens u.events

-- the window of each member in such a file
abbrev pub lost_imports : {T : Type 0} → Sources → Member T → List (Member T) → Member T → List Place
lost_imports s t ms m = place_if (imports (slice_get (units_of s.files) (file_of s m)) && not (keeps_import s t ms (file_of s m))) (window_place s m)

-- ---- 14: a declared result occurs later in a member, but only as a bare left side of `=`, `:=` or `range`

abbrev pub means_local : ℕ → ℕ → Option Object → Bool
means_local func n (Some (object.Local f k)) = nat_eq f func && nat_eq k n
means_local func n o = false

abbrev pub means_later : {T : Type 0} → Sources → Member T → ℕ → Asked → Bool
means_later s m n a = nat_eq a.file (file_of s m) && nat_le (m.first + m.upto) a.it.name && means_local m.window.func n (object_asked a)

abbrev pub is_used_later : {T : Type 0} → Sources → Member T → ℕ → Bool
is_used_later s m n = list_any (λ a. means_later s m n a && not (is_assigned a.it.role)) (all_asked s)

abbrev pub is_left_unused : {T : Type 0} → Sources → Member T → ℕ → Bool
is_left_unused s m n = occurs_later m n && not (is_used_later s m n)

-- the locals of a member that stand where those of the template do
abbrev pub locals_at : {T : Type 0} → Member T → Member T → List (Variable T) → List ℕ
locals_at t m vs = map (λ v. local_at t m v.local) vs

abbrev pub left_unused : {T : Type 0} → Sources → Member T → Choice T → Member T → List Place
left_unused s t h m = declaring_places m (filter (is_left_unused s m) (locals_at t m h.declared))
