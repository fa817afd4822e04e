-- Variables, targets, and calls that are statements.
use Rattle.std.specs.Prelude.{Bool, true, false, ◌&&◌, ◌||◌, Option, Some}
use Rattle.go_tree.specs.declared.object.Predeclared.TheVariants as predeclared
use Rattle.go_types.specs.Trees.{TypeTree, array, slice}
use Rattle.go_types.specs.Relations.{Rights}
use Rattle.go_typed.specs.declared.form.Form.{Form}
use Rattle.go_typed.specs.declared.form.Form.TheVariants as form
use Rattle.go_typed.specs.Trees.{Typed, typed, Typeds, none, more, skip, form_of, sort_of, list_of, parts_of}
use Rattle.go_typed.specs.Trees as sort
use Rattle.go_exprs_rules.specs.Settling.{Part}
use Rattle.go_exprs_rules.specs.Sorts.{Stands, form_of_value, is_unknown}
use Rattle.go_exprs_rules.specs.Names.{is_blank}
use Rattle.go_exprs_rules.specs.Tables.{is_variable_name, is_call, on_first}

-- an element of an array is a variable where the array is, an element of a slice always
abbrev pub varies_by : Option TypeTree → Bool → Bool
varies_by (Some (slice t)) b = true
varies_by (Some (array n t)) b = b
varies_by u b = false

-- whether a node over a variable or no variable is one
abbrev pub through : Rights → Form → Stands → Bool → Bool
through rights form.Parenthesized x b = b
through rights (form.Selector n) x b = b
through rights form.Index x b = varies_by (form_of_value rights x) b
through rights f x b = false

abbrev mutual
  -- Whether it is a variable: a local or package variable, an element of a slice, or a part of an array or struct that is a
  -- variable (Go specification: Variables, Assignment statements).
  pub is_variable : Rights → Part → Bool
  is_variable rights (typed f i j l ps) = is_variable_name f l.sort || first_varies rights f ps

  pub first_varies : Rights → Form → Typeds TypeTree → Bool
  first_varies rights f none = false
  first_varies rights f (more p ps) = through rights f (sort_of p) (is_variable rights p)
  first_varies rights f (skip ps) = false

-- what may stand on the left of `=`; of what has a fault nothing is said
abbrev pub is_target : Rights → Part → Bool
is_target rights x = is_blank (sort_of x) || is_unknown (sort_of x) || is_variable rights x

-- ---- calls

abbrev mutual
  -- without its parentheses
  pub bare : Part → Part
  bare (typed form.Parenthesized i j l ps) = first_bare (typed form.Parenthesized i j l ps) ps
  bare x = x

  pub first_bare : Part → Typeds TypeTree → Part
  first_bare x none = x
  first_bare x (more p ps) = bare p
  first_bare x (skip ps) = x

abbrev pub is_panic : Stands → Bool
is_panic (sort.Builtin predeclared.Panic) = true
is_panic x = false

-- of the predeclared functions only these are called for what they do
abbrev pub acts : Stands → Bool
acts (sort.Builtin predeclared.Copy) = true
acts (sort.Builtin predeclared.Panic) = true
acts (sort.Builtin p) = false
acts x = true

abbrev pub callee_passes : (Stands → Bool) → Part → Bool
callee_passes f x = is_call (form_of x) && on_first false (λ c xs. f (sort_of c)) (list_of (parts_of x))

-- an expression that may be a statement (Go specification: Expression statements)
abbrev pub is_statement_call : Part → Bool
is_statement_call x = callee_passes acts (bare x)

abbrev pub is_panic_call : Part → Bool
is_panic_call x = callee_passes is_panic (bare x)
