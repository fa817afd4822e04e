use Rattle.std.proofs.Common.{rules, ◌∷◌, [], None, length}
use Rattle.go_typed.specs.Views.{AllKnown}
use Rattle.go_stmts_parts.proofs.Appending.{known_appended}
use Rattle.go_stmts_parts.proofs.headers.for_parts.Goals as goal

pub returns-clause-known : goal.returns-clause-known
returns-clause-known c =
    let k = length c.args.types.now.shapes in
    let rest : AllKnown k c.remove-header.new.self.items = search rules in
    known_appended k c.in_ok-out.out.items c.remove-header.new.self.items c.append.new.self.items c.in_ok-append.ensures.items c.in_ok-out.ensures.known rest
