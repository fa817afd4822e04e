-- From when on objects are known.
use Rattle.std.specs.Prelude.{ℕ, Bool, true, false, nat_lt, List, slice_get, Option, Some, None}
use Rattle.go_tree.specs.declared.object.Object.{Object}
use Rattle.go_tree.specs.declared.object.Object.TheVariants as object
use Rattle.go_exprs_rules.specs.Scopes.{Needed, in_full, at_once, loosely}
use Rattle.go_package_stages.specs.declared.marks.Mark.{Mark}

-- the stage after which an object is known that is needed so
abbrev pub known_from : Needed → Mark → ℕ
known_from loosely m = m.loosely
known_from at_once m = m.at_once
known_from in_full m = m.in_full

-- how a type needs what it names
abbrev pub type_need : Bool → Needed
type_need true = loosely
type_need false = at_once

abbrev pub mark_before : ℕ → Needed → Option Mark → Bool
mark_before k n None = false
mark_before k n (Some m) = nat_lt (known_from n m) k

-- whether what a name means is known before the stage k, where it is needed so
abbrev pub is_before : List Mark → ℕ → Needed → Option Object → Bool
is_before ms k n (Some (object.Package i)) = mark_before k n (slice_get ms i)
is_before ms k n o = true
