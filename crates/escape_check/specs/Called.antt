-- Statements in which a call takes the place of a window, as the program walks over them.
use Rattle.std.specs.Prelude.{ℕ, Bool, true, false, ◌||◌, nat_eq, nat_lt, if◌then◌else◌, List, [], ◌∷◌, map, Option, Some, None}
use Rattle.std.specs.List.{list_any}
use Rattle.std.specs.Option.{option_map}
use Rattle.go_types.specs.Trees.{TypeTree}
use Rattle.go_typed.specs.declared.form.Form.{Form}
use Rattle.go_typed.specs.declared.form.Form.TheVariants as form
use Rattle.go_typed.specs.Trees.{Sort, Typed, more, none, first_of, form_of, list_of, parts_of, sort_of}
use Rattle.go_exprs_rules.specs.Tables.{on_one}
use Rattle.go_stmts_defs.specs.Ending.{last_falls, loop_ends, part_breaks, terminates}
use Rattle.go_stmts_defs.specs.Targets.{is_panic, is_panic_call}
use Rattle.go_stmts_defs.specs.Rows.{all_clauses_end, both_branches, first_there, last_ends}
use Rattle.extract_trees.specs.Filled.{Gap, filled}
use Rattle.escape_check.specs.declared.ends.Gap.{Gap as Found}
use Rattle.escape_check.specs.Endings.{call_statement, unchanged}

-- a call from one token up to another
abbrev pub gap_view : Found → Gap
gap_view g = record { from = g.from; upto = g.upto; statements = more (call_statement g.from g.upto) none }

-- a tree with the call in it
abbrev pub called : Found → Typed TypeTree → Typed TypeTree
called g x = filled unchanged (gap_view g ∷ []) x

-- each part with the call in it
abbrev pub all_called : Found → List (Option (Typed TypeTree)) → List (Option (Typed TypeTree))
all_called g xs = map (option_map (called g)) xs

-- The parts of a statement list that stay, from the token u on. The call is among them as a part that is left out.
abbrev pub staying : Found → ℕ → List (Option (Typed TypeTree)) → List (Option (Typed TypeTree))
staying g u [] = []
staying g u (None ∷ xs) = None ∷ staying g u xs
staying g u (Some x ∷ xs) = if nat_lt (first_of x) u then staying g u xs else (if nat_eq g.from (first_of x) then None ∷ staying g g.upto xs else Some x ∷ staying g u xs)

-- the last part, if it is there; the part o stands in front of them
abbrev pub last_or : Option (Typed TypeTree) → List (Option (Typed TypeTree)) → Option (Typed TypeTree)
last_or o [] = o
last_or o (x ∷ xs) = last_or x xs

-- ---- nodes by their forms and their parts

-- whether a node of a form over these parts has a break that leaves what is around it
abbrev pub breaks_over : Found → Form → List (Option (Typed TypeTree)) → Bool
breaks_over g form.Break xs = true
breaks_over g form.If xs = list_any part_breaks (all_called g xs)
breaks_over g form.Block xs = list_any part_breaks (all_called g (staying g 0 xs))
breaks_over g (form.Case n) xs = list_any part_breaks (all_called g (staying g 0 xs))
breaks_over g form.Default xs = list_any part_breaks (all_called g (staying g 0 xs))
breaks_over g f xs = false

-- the value of an element for a field
abbrev pub keyed_in : Form → Option (Typed TypeTree) → Option (Typed TypeTree)
keyed_in (form.Keyed n) x = x
keyed_in f x = None

abbrev pub keyed_value : Typed TypeTree → Option (Typed TypeTree)
keyed_value x = keyed_in (form_of x) (first_there (list_of (parts_of x)))

-- whether it stands for panic, by itself or, for an element, by its value
abbrev pub panic_over : Found → Sort TypeTree → Option (Typed TypeTree) → Bool
panic_over g s None = is_panic s
panic_over g s (Some x) = is_panic (sort_of (called g x))

-- whether it calls panic, by its first part
abbrev pub panic_with : Found → Form → Typed TypeTree → Bool
panic_with g form.Parenthesized x = is_panic_call (called g x)
panic_with g form.Call x = is_panic (sort_of (called g x))
panic_with g f x = false

abbrev pub panic_call_over : Found → Form → Option (Typed TypeTree) → Bool
panic_call_over g f None = false
panic_call_over g f (Some x) = panic_with g f x

-- whether it is terminating
abbrev pub ends_over : Found → Form → List (Option (Typed TypeTree)) → Bool
ends_over g form.Return xs = true
ends_over g form.Expression xs = on_one false is_panic_call (all_called g xs)
ends_over g form.Block xs = last_ends (all_called g (staying g 0 xs))
ends_over g form.If xs = both_branches (all_called g xs)
ends_over g form.For xs = loop_ends (all_called g xs)
ends_over g form.Switch xs = all_clauses_end (all_called g xs)
ends_over g (form.Case n) xs = last_ends (all_called g (staying g 0 xs)) || last_falls (all_called g (staying g 0 xs))
ends_over g form.Default xs = last_ends (all_called g (staying g 0 xs)) || last_falls (all_called g (staying g 0 xs))
ends_over g f xs = false

-- whether the first part is there and terminating
abbrev pub body_over : Found → Option (Typed TypeTree) → Bool
body_over g None = false
body_over g (Some x) = terminates (called g x)
