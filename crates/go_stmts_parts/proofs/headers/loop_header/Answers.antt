use Rattle.std.proofs.Common.{rules, ◌∷◌, [], None, length}
use Rattle.go_typed.specs.Views.{AllKnown}
use Rattle.go_stmts_parts.proofs.Appending.{known_appended}
use Rattle.go_stmts_parts.proofs.headers.loop_header.Goals as goal

pub returns-in_ok-push-in_default-clause-known : goal.returns-in_ok-push-in_default-clause-known
returns-in_ok-push-in_default-clause-known c = known_appended (length c.args.types.now.shapes) c.in_ok-parts-in_default.parts.items (None ∷ []) c.push.new.self.items c.in_ok-push-in_default.ensures.items c.in_ok-parts-in_default.ensures.known tt
