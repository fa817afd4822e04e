-- Statements that are copied into another function, with parameters in place of some of their holes.
use Rattle.std.specs.Prelude.{ℕ, Bool, true, false, Option, Some, None}
use Rattle.go_types.specs.Trees.{TypeTree}
use Rattle.go_typed.specs.declared.form.Form.{Form}
use Rattle.go_typed.specs.declared.form.Form.TheVariants as form
use Rattle.go_typed.specs.Trees.{Sort, Value, Constant, Label, Typed, typed, Typeds, none, more, skip}
use Rattle.clone_window.specs.Masses.{is_hole, is_inside}
use Rattle.extract_trees.specs.Numberings.{Numbering, sort_numbered, node_numbered}

-- a value of the type of a constant
abbrev pub value_of : Sort TypeTree → Sort TypeTree
value_of (Constant t v) = Value t
value_of s = s

-- the parameter that takes the place of a hole: a variable of the hole's final type
abbrev pub parameter_node : Numbering → ℕ → ℕ → ℕ → Sort TypeTree → Typed TypeTree
parameter_node c p i j s = typed (form.Local p) (c.token i) (c.token j) (record { sort = sort_numbered c (value_of s); varies = true; calls = false }) none

-- the parameter in place of a node that begins at this token; there is none where the node isn't a hole
abbrev pub parameter_at : Numbering → Bool → ℕ → Option ℕ
parameter_at c true i = c.parameter i
parameter_at c false i = None

abbrev pub copy_over : Numbering → Option ℕ → Form → ℕ → ℕ → Label TypeTree → Typeds TypeTree → Typed TypeTree
copy_over c (Some p) f i j l qs = parameter_node c p i j l.sort
copy_over c None f i j l qs = node_numbered c f i j l qs

abbrev mutual
  -- A tree, which may stand inside a constant expression, with new numbers, and parameters in place of holes that have one.
  pub copied : Numbering → Bool → Typed TypeTree → Typed TypeTree
  copied c a (typed f i j l ps) = copy_over c (parameter_at c (is_hole a f l) i) f i j l (all_copied c (is_inside a f l) ps)

  pub all_copied : Numbering → Bool → Typeds TypeTree → Typeds TypeTree
  all_copied c a none = none
  all_copied c a (more p ps) = more (copied c a p) (all_copied c a ps)
  all_copied c a (skip ps) = skip (all_copied c a ps)

-- the statements of a window
abbrev pub window_copied : Numbering → Typeds TypeTree → Typeds TypeTree
window_copied c ps = all_copied c false ps
