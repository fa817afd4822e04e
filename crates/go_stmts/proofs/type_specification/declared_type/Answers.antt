use Rattle.std.proofs.Common.{◌∙◌, sym}
use Rattle.go_stmts.proofs.Named.{named_by, named_none}
use Rattle.go_stmts.proofs.type_specification.declared_type.Goals as goal

pub returns-clause-named : goal.returns-clause-named
returns-clause-named c = λ x rs s has.
    named_by c.args.types.now c.args.surroundings.now c.args.state.now x rs s has c.args.token c.in-Some.number c.in_ok-of.of (sym c.local_named.ensures ∙ c.in-Some.is) (has.types c.in-Some.number c.in_ok-of.of c.in_ok-of.ensures)

pub returns-in_default-clause-named : goal.returns-in_default-clause-named
returns-in_default-clause-named c = λ x rs s has. named_none c.args.types.now c.args.surroundings.now c.args.state.now x rs s has c.args.token (sym c.local_named.ensures ∙ c.in_default.is)
