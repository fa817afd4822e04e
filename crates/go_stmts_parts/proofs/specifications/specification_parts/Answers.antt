use Rattle.std.proofs.Common.{rules, ◌∷◌, [], None, length}
use Rattle.go_typed.specs.Views.{AllKnown}
use Rattle.go_stmts_parts.proofs.Appending.{known_appended}
use Rattle.go_stmts_parts.proofs.specifications.specification_parts.Goals as goal

pub returns-clause-known : goal.returns-clause-known
returns-clause-known c = known_appended (length c.args.types.now.shapes) c.push_held.new.out.items c.in_ok-behind.behind.items c.append.new.self.items c.in_ok-append.ensures.items c.in_ok-push_held.ensures.known c.in_ok-behind.ensures.known
