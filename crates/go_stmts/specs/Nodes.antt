-- A statement over its parts.
use Rattle.std.specs.Prelude.{ℕ, if◌then◌else◌, [], List}
use Rattle.go_grammar.specs.declared.kind.Kind.{Kind}
use Rattle.go_typed.specs.declared.form.Form.{Form}
use Rattle.go_typed.specs.Trees.{Nothing}
use Rattle.go_exprs_rules.specs.declared.fault.TypeFault.{TypeFault}
use Rattle.go_exprs_rules.specs.Settling.{Part}
use Rattle.go_exprs_rules.specs.Tables.{Parts, made}
use Rattle.go_stmts_defs.specs.Frames.{Frame}
use Rattle.go_stmts_defs.specs.Rules.{judges, taking, all_given}
use Rattle.go_stmts_rules.specs.Told.{statement_failing}

-- the rules that fail, but for those of a type's right side
abbrev pub statement_faults : Frame → Kind → Form → ℕ → ℕ → Parts → List TypeFault
statement_faults s k f i j ys = if judges k ys then statement_failing s k f i j ys else []

-- the node where none fails
abbrev pub statement_node : Frame → Kind → Form → ℕ → ℕ → Parts → Part
statement_node s k f i j ys = made f i j Nothing ys (all_given (taking s k f ys) ys)
