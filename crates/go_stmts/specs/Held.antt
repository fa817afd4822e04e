-- The answer for a part without statements, and frames with the scope that the program holds.
use Rattle.std.specs.Prelude.{◌≡◌, Result}
use Rattle.go_grammar.specs.declared.kind.Kind.{Kind}
use Rattle.go_grammar.specs.Trees.{Tree, Trees}
use Rattle.go_types.specs.Tables.{Table}
use Rattle.go_exprs_rules.specs.declared.fault.TypeFault.{TypeFault}
use Rattle.go_exprs_rules.specs.Faults.{judged, reported}
use Rattle.go_exprs_rules.specs.Scopes.{Hint}
use Rattle.go_exprs_rules.specs.Settling.{Part}
use Rattle.go_exprs_rules.specs.Tables.{Parts}
use Rattle.go_exprs_types.specs.declared.scope.Scope as program
use Rattle.go_exprs_types.specs.Naming.{names, locals_seen}
use Rattle.go_stmts_defs.specs.Frames.{Frame, scope_of}
use Rattle.go_stmts_defs.specs.Reading.{holding, holdings, held_faults, all_held_faults}

-- Names mean in the frame what they mean in the scope of the program, and its locals are those of the program.
pub record HasScope (t : Table) (scope : program.Scope) (s : Frame) : Type 0 where
  pub names : scope_of s ≡ names t scope
  pub locals : s.locals ≡ locals_seen t scope.locals.now.sorts

-- the typed tree, or the reported fault
abbrev pub held_answer : Frame → Hint → Tree → Result Part TypeFault
held_answer s h t = judged (reported (held_faults s h t)) (holding s h t)

-- the same for the parts of a node behind those that are typed
abbrev pub left : Frame → Kind → Hint → Trees → Parts → Trees → Result Parts TypeFault
left s k h all xs ps = judged (reported (all_held_faults s k h all xs ps)) (holdings s k h all xs ps)
