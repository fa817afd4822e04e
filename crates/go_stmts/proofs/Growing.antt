-- A frame has the same scope when the table grows.
use Rattle.std.proofs.Common.{◌≡◌, ◌∙◌, length, sym}
use Rattle.go_types.specs.Tables.{Table, IsTable}
use Rattle.go_types_relations.specs.Extends.{Grows}
use Rattle.go_exprs_types.specs.declared.scope.Scope as program
use Rattle.go_exprs_types.specs.Naming.{KnownScope}
use Rattle.go_exprs_engine.proofs.Public.{names_stay, locals_stay}
use Rattle.go_stmts_defs.specs.Frames.{Frame}
use Rattle.go_stmts.specs.Held.{HasScope}

pub scope_stays : (old new : Table) → IsTable old → (g : Grows old new) → (scope : program.Scope) → KnownScope (length old.shapes) scope → (s : Frame) → HasScope old scope s → HasScope new scope s
scope_stays old new ok g scope known s has = record {
  names = has.names ∙ sym (names_stay old new ok g scope known);
  locals = has.locals ∙ sym (locals_stay old new ok g.extends scope.locals.now.sorts known.locals);
}
