use Rattle.std.proofs.Common.{◌∙◌, ap}
use Rattle.go_exprs_rules.specs.Names.{declared_form}
use Rattle.go_exprs_rules.specs.Scopes.{Scope}
use Rattle.go_stmts.specs.Signatures.{number_in}
use Rattle.go_stmts.specs.State.{object_at, names_in}
use Rattle.go_stmts.proofs.Declared.{declares_local}
use Rattle.go_stmts.proofs.beginning.local_named.Goals as goal

pub returns : goal.returns
returns c =
    let t = c.args.types.now in
    let o = c.args.surroundings.now in
    c.number_in.ensures
    ∙ ap number_in c.name_form.ensures
    ∙ ap (λ (s : Scope). number_in (declared_form s (s.objects c.args.token))) (c.scope_of-scope.ensures.names t)
    ∙ declares_local (names_in t o c.args.locals.now) (object_at o c.args.token)
