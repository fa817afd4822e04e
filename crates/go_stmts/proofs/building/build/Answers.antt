use Rattle.std.proofs.Common.{map, ap, subst, ◌∙◌}
use Rattle.std.specs.Option.{option_map}
use Rattle.go_base.specs.Gives.{Gives}
use Rattle.go_typed.specs.Views.{seen}
use Rattle.go_exprs_rules.specs.Faults.{refusal_of}
use Rattle.go_exprs_rules.specs.Scopes.{Scope}
use Rattle.go_stmts_defs.specs.Laying.{form_by}
use Rattle.go_stmts.proofs.FrameStatements.{laid_is, statement_over}
use Rattle.go_stmts.proofs.building.build.Goals as goal

pub returns-clause-exact : goal.returns-clause-exact
returns-clause-exact c = λ s has.
    let t = c.args.types.now in
    let f = option_map (seen t) in
    let k = c.args.kind in
    let i = c.args.place.first in
    let xs = map f c.args.parts.items in
    let form_is = c.in_ok-form.ensures ∙ ap (λ ns. form_by k (map f ns)) c.deref.ensures.value in
    let parts_are = c.in_ok-parts.ensures.parts s i has.locals ∙ laid_is s k i xs c.requires.kind in
    subst (Gives (seen t) refusal_of c.statement.result) (statement_over s k c.requires.kind c.in_ok-form.form i c.args.place.last xs (map f c.in_ok-parts.parts.items) form_is parts_are)
    (c.statement.ensures.exact s (record { rights = ap (λ (z : Scope). z.rights) has.names; locals = has.locals; tag = has.tag; results = has.results }))
