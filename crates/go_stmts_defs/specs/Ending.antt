-- Terminating statements (Go specification: Terminating statements).
use Rattle.std.specs.Prelude.{Bool, true, false, ◌&&◌, ◌||◌, not, List, [], ◌∷◌, Option, Some, None}
use Rattle.std.specs.List.{list_any, list_all}
use Rattle.go_types.specs.Trees.{TypeTree}
use Rattle.go_typed.specs.declared.form.Form.{Form}
use Rattle.go_typed.specs.declared.form.Form.TheVariants as form
use Rattle.go_typed.specs.Forms.{is_default}
use Rattle.go_typed.specs.Trees.{typed, Typeds, none, more, skip, form_of, list_of}
use Rattle.go_exprs_rules.specs.Settling.{Part}
use Rattle.go_exprs_rules.specs.Tables.{Parts, on_one}
use Rattle.go_stmts_defs.specs.Targets.{is_panic_call}

-- ---- breaks

-- a `break` in one of its parts leaves what is around it
abbrev pub lets_break : Form → Bool
lets_break form.Block = true
lets_break form.If = true
lets_break (form.Case n) = true
lets_break form.Default = true
lets_break f = false

abbrev pub is_break : Form → Bool
is_break form.Break = true
is_break f = false

abbrev mutual
  -- whether there is a `break` in it that leaves the loop or switch around it
  pub breaks : Part → Bool
  breaks (typed f i j l ps) = is_break f || (lets_break f && any_breaks ps)

  pub any_breaks : Typeds TypeTree → Bool
  any_breaks none = false
  any_breaks (more p ps) = breaks p || any_breaks ps
  any_breaks (skip ps) = any_breaks ps

-- ---- by parts, and by whether they are terminating

abbrev pub last_flag : List Bool → Bool
last_flag [] = false
last_flag (b ∷ []) = b
last_flag (b ∷ bs) = last_flag bs

abbrev pub is_fallthrough : Form → Bool
is_fallthrough form.Fallthrough = true
is_fallthrough f = false

abbrev pub is_fallthrough_part : Option Part → Bool
is_fallthrough_part (Some x) = is_fallthrough (form_of x)
is_fallthrough_part None = false

abbrev pub last_falls : Parts → Bool
last_falls [] = false
last_falls (x ∷ []) = is_fallthrough_part x
last_falls (x ∷ xs) = last_falls xs

abbrev pub is_default_clause : Option Part → Bool
is_default_clause (Some x) = is_default (form_of x)
is_default_clause None = false

abbrev pub part_breaks : Option Part → Bool
part_breaks (Some x) = breaks x
part_breaks None = false

-- a loop without condition: first? condition? post? block
abbrev pub loop_ends : Parts → Bool
loop_ends (a ∷ None ∷ c ∷ b ∷ []) = not (part_breaks b)
loop_ends xs = false

-- an `if` with `else`: first? condition block else?
abbrev pub branches_end : List Bool → Bool
branches_end (a ∷ c ∷ b ∷ e ∷ []) = b && e
branches_end bs = false

-- the clauses of a switch, behind first? tag?
abbrev pub clauses_end : Parts → List Bool → Bool
clauses_end (a ∷ t ∷ xs) (b ∷ c ∷ bs) = list_any is_default_clause xs && not (list_any part_breaks xs) && list_all (λ x. x) bs
clauses_end xs bs = false

-- A node with these parts, of which these are terminating; a clause is where it ends in a terminating statement or `fallthrough`.
abbrev pub ends : Form → Parts → List Bool → Bool
ends form.Return xs bs = true
ends form.Expression xs bs = on_one false is_panic_call xs
ends form.Block xs bs = last_flag bs
ends form.If xs bs = branches_end bs
ends form.For xs bs = loop_ends xs
ends form.Switch xs bs = clauses_end xs bs
ends (form.Case n) xs bs = last_flag bs || last_falls xs
ends form.Default xs bs = last_flag bs || last_falls xs
ends f xs bs = false

abbrev mutual
  -- whether a statement is terminating
  pub terminates : Part → Bool
  terminates (typed f i j l ps) = ends f (list_of ps) (which_terminate ps)

  -- for each part whether it is there and terminating
  pub which_terminate : Typeds TypeTree → List Bool
  which_terminate none = []
  which_terminate (more p ps) = terminates p ∷ which_terminate ps
  which_terminate (skip ps) = false ∷ which_terminate ps
