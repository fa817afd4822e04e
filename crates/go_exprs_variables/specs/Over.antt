-- What a node is over new parts: whether a variable is named in it, and what an element with a key stands for.
use Rattle.std.specs.Prelude.{Bool, false, ◌||◌}
use Rattle.go_types.specs.Trees.{TypeTree}
use Rattle.go_typed.specs.declared.form.Form.{Form}
use Rattle.go_typed.specs.declared.form.Form.TheVariants as form
use Rattle.go_typed.specs.Trees.{Sort, typed, Typeds, none, more, skip, sort_of}

abbrev pub any_varies : Typeds TypeTree → Bool
any_varies none = false
any_varies (more (typed f i j l ps) qs) = l.varies || any_varies qs
any_varies (skip qs) = any_varies qs

-- A variable is named in a node with parts where one is named in these; a node without parts is as it was.
abbrev pub varies_over : Bool → Typeds TypeTree → Bool
varies_over v none = v
varies_over v qs = any_varies qs

-- The element for a field stands for what its value stands for.
abbrev pub first_sort : Sort TypeTree → Typeds TypeTree → Sort TypeTree
first_sort s (more q qs) = sort_of q
first_sort s qs = s

abbrev pub sort_over : Form → Sort TypeTree → Typeds TypeTree → Sort TypeTree
sort_over (form.Keyed n) s qs = first_sort s qs
sort_over f s qs = s
