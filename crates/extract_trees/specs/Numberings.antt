-- Typed trees under other numbers: of tokens, of locals, of objects of the package and of declared types.
use Rattle.std.specs.Prelude.{ℕ, Bool, false, ◌&&◌, ◌||◌, not, Option}
use Rattle.go_types.specs.Trees.{TypeTree}
use Rattle.go_types_relations.specs.Renaming.{renamed}
use Rattle.go_typed.specs.declared.form.Form.{Form}
use Rattle.go_typed.specs.declared.form.Form.TheVariants as form
use Rattle.go_typed.specs.declared.form.Referent.{Referent}
use Rattle.go_typed.specs.Trees.{Sort, Label, Typed, typed, Typeds, none, more, skip, sort_of, sort_mapped}
use Rattle.go_exprs_rules.specs.Tables.{is_call}
use Rattle.clone_window.specs.Masses.{is_constant}

-- New numbers for tokens, locals, objects of the package and declared types; and for the first token of a hole the local of the
-- parameter that takes its place, if one does.
pub record Numbering : Type 0 where
  pub token : ℕ → ℕ
  pub local : ℕ → ℕ
  pub referent : Referent → Referent
  pub type : ℕ → ℕ
  pub parameter : ℕ → Option ℕ

abbrev pub form_numbered : Numbering → Form → Form
form_numbered c (form.Local n) = form.Local (c.local n)
form_numbered c (form.New n) = form.New (c.local n)
form_numbered c (form.Declared n) = form.Declared (c.local n)
form_numbered c (form.Object r) = form.Object (c.referent r)
form_numbered c f = f

abbrev pub sort_numbered : Numbering → Sort TypeTree → Sort TypeTree
sort_numbered c s = sort_mapped (renamed c.type) s

-- ---- the label over other parts

-- whether a variable is named in some of these
abbrev pub any_varies : Typeds TypeTree → Bool
any_varies none = false
any_varies (more (typed f i j l ps) qs) = l.varies || any_varies qs
any_varies (skip qs) = any_varies qs

-- A variable is named in a node with parts where one is named in these; a node without parts is as it was.
abbrev pub varies_over : Bool → Typeds TypeTree → Bool
varies_over v none = v
varies_over v qs = any_varies qs

-- whether some of these have a call that is no constant
abbrev pub any_calls : Typeds TypeTree → Bool
any_calls none = false
any_calls (more (typed f i j l ps) qs) = l.calls || any_calls qs
any_calls (skip qs) = any_calls qs

-- A node with parts has a call that is no constant where it is one or one of these has one; a node without parts is as it was.
abbrev pub calls_over : Form → Sort TypeTree → Bool → Typeds TypeTree → Bool
calls_over f s v none = v
calls_over f s v qs = (is_call f && not (is_constant s)) || any_calls qs

abbrev pub first_sort : Sort TypeTree → Typeds TypeTree → Sort TypeTree
first_sort s (more q qs) = sort_of q
first_sort s qs = s

-- The element for a field stands for what its value stands for.
abbrev pub sort_over : Form → Sort TypeTree → Typeds TypeTree → Sort TypeTree
sort_over (form.Keyed n) s qs = first_sort s qs
sort_over f s qs = s

-- the label with the types under new numbers, over these parts
abbrev pub label_numbered : Numbering → Form → Label TypeTree → Typeds TypeTree → Label TypeTree
label_numbered c f l qs =
    let s : Sort TypeTree = sort_over f (sort_numbered c l.sort) qs in
    record { sort = s; varies = varies_over l.varies qs; calls = calls_over f s l.calls qs }

-- the node with new numbers, over these parts
abbrev pub node_numbered : Numbering → Form → ℕ → ℕ → Label TypeTree → Typeds TypeTree → Typed TypeTree
node_numbered c f i j l qs = typed (form_numbered c f) (c.token i) (c.token j) (label_numbered c f l qs) qs
