use Rattle.std.proofs.Common.{rules, ◌∷◌, [], None, length}
use Rattle.go_typed.specs.Views.{AllKnown}
use Rattle.go_stmts_parts.proofs.Appending.{known_appended}
use Rattle.go_stmts_parts.proofs.specifications.push_names.Goals as goal

pub returns-in_ok-append-clause-known : goal.returns-in_ok-append-clause-known
returns-in_ok-append-clause-known c = known_appended (length c.args.types.now.shapes) c.args.out.now.items c.names_of-names.result.items c.append.new.self.items c.in_ok-append.ensures.items c.requires.out c.names_of-names.ensures.known
