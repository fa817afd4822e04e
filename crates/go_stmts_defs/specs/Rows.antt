-- The tests of statements, said of rows of parts.
use Rattle.std.specs.Prelude.{Bool, true, false, ◌&&◌, ◌||◌, not, if◌then◌else◌, [], ◌∷◌, Option, Some, None}
use Rattle.std.specs.List.{list_any, list_all}
use Rattle.std.specs.Option.{option_map}
use Rattle.go_types.specs.Relations.{Rights}
use Rattle.go_typed.specs.declared.form.Form.{Form}
use Rattle.go_typed.specs.declared.form.Form.TheVariants as form
use Rattle.go_typed.specs.Trees.{form_of, sort_of, parts_of, list_of}
use Rattle.go_exprs_rules.specs.Settling.{Part}
use Rattle.go_exprs_rules.specs.Sorts.{Stands}
use Rattle.go_exprs_rules.specs.Tables.{Parts, is_call, on_one}
use Rattle.go_stmts_defs.specs.Targets.{through, is_variable, bare, is_panic_call}
use Rattle.go_stmts_defs.specs.Ending.{terminates, last_falls, is_default_clause, part_breaks, loop_ends}

-- the first part, if it is there
abbrev pub first_there : Parts → Option Part
first_there [] = None
first_there (x ∷ xs) = x

-- whether a node over its first part is a variable
abbrev pub varies_by_first : Rights → Form → Option Part → Bool
varies_by_first rights f None = false
varies_by_first rights f (Some x) = through rights f (sort_of x) (is_variable rights x)

-- without the parentheses, by what is inside them
abbrev pub inner_or : Part → Option Part → Part
inner_or x None = x
inner_or x (Some y) = bare y

abbrev pub is_parenthesized : Form → Bool
is_parenthesized form.Parenthesized = true
is_parenthesized f = false

-- what is called, if the node is a call
abbrev pub callee_of : Part → Option Stands
callee_of x = if is_call (form_of x) then option_map sort_of (first_there (list_of (parts_of x))) else None

abbrev pub passes : (Stands → Bool) → Option Stands → Bool
passes f None = false
passes f (Some x) = f x

-- whether a part is there and terminating
abbrev pub part_ends : Option Part → Bool
part_ends None = false
part_ends (Some x) = terminates x

-- whether the last part is
abbrev pub last_ends : Parts → Bool
last_ends [] = false
last_ends (x ∷ []) = part_ends x
last_ends (x ∷ xs) = last_ends xs

-- first? condition block else?
abbrev pub both_branches : Parts → Bool
both_branches (a ∷ c ∷ b ∷ e ∷ []) = part_ends b && part_ends e
both_branches xs = false

-- first? tag? clauses..
abbrev pub all_clauses_end : Parts → Bool
all_clauses_end (a ∷ t ∷ xs) = list_any is_default_clause xs && not (list_any part_breaks xs) && list_all part_ends xs
all_clauses_end xs = false

-- whether a node of the form over these parts is terminating
abbrev pub ends_over : Form → Parts → Bool
ends_over form.Return xs = true
ends_over form.Expression xs = on_one false is_panic_call xs
ends_over form.Block xs = last_ends xs
ends_over form.If xs = both_branches xs
ends_over form.For xs = loop_ends xs
ends_over form.Switch xs = all_clauses_end xs
ends_over (form.Case n) xs = last_ends xs || last_falls xs
ends_over form.Default xs = last_ends xs || last_falls xs
ends_over f xs = false
