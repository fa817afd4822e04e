-- Entries, results and kinds of nodes as the program holds them.
use Rattle.std.specs.Prelude.{ℕ, ◌<◌, Bool, true, false, List, Option, Some, None, map}
use Rattle.std.specs.Option.{option_map}
use Rattle.go_grammar.specs.declared.kind.Kind.{Kind}
use Rattle.go_grammar.specs.declared.kind.Kind.TheVariants as kind
use Rattle.go_grammar.specs.declared.kind.Sort.TheVariants as declaring
use Rattle.go_types.specs.Trees.{TypeTree}
use Rattle.go_types.specs.Tables.{Table, type_of}
use Rattle.go_typed.specs.declared.form.Form.{Form}
use Rattle.go_typed.specs.declared.form.Form.TheVariants as form
use Rattle.go_exprs_rules.specs.declared.fault.TypeFault.{TypeFault}
use Rattle.go_exprs_rules.specs.Settling.{Part}
use Rattle.go_exprs_rules.specs.Tables.{Parts}
use Rattle.go_stmts_defs.specs.Frames.{Frame}
use Rattle.go_stmts_defs.specs.Laying.{form_by, layout}
use Rattle.go_stmts_defs.specs.Rules.{own_faults, built_by}

-- the local that a form of a declared name has
abbrev pub number_in : Form → Option ℕ
number_in (form.Declared n) = Some n
number_in f = None

-- of each entry its type, if it has one
abbrev pub entries_seen : Table → List (Option ℕ) → List (Option TypeTree)
entries_seen t is = map (option_map (type_of t.shapes)) is

abbrev pub KnownEntry : ℕ → Option ℕ → Type 0
KnownEntry n (Some i) = i < n
KnownEntry n None = Unit {0}

-- the results of the function itself, or else those around it
abbrev pub results_or : Option (List ℕ) → List ℕ → List ℕ
results_or (Some rs) outer = rs
results_or None outer = outer

abbrev pub is_type_specification : Kind → Bool
is_type_specification (kind.Specification declaring.Type) = true
is_type_specification k = false

-- of a node over these parts its rules that fail, and the node
abbrev pub failing_over : Frame → Kind → ℕ → ℕ → Parts → List TypeFault
failing_over s k i j xs = own_faults s k (form_by k xs) i j (layout s k i xs)

abbrev pub built_over : Frame → Kind → ℕ → ℕ → Parts → Part
built_over s k i j xs = built_by s k (form_by k xs) i j (layout s k i xs) (failing_over s k i j xs)
