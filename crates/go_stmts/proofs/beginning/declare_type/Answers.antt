use Rattle.std.proofs.Common.{◌∙◌, sym, subst}
use Rattle.go_stmts_defs.specs.Reading.{with_type}
use Rattle.go_stmts.specs.State.{Shows}
use Rattle.go_stmts.proofs.Showing.{shows_type}
use Rattle.go_stmts.proofs.beginning.declare_type.Goals as goal

pub returns-clause-frame : goal.returns-clause-frame
returns-clause-frame c = λ x rs s has.
    let t = c.args.types.now in
    let o = c.args.surroundings.now in
    let k = c.args.state.now in
    let ls = c.declare_local.new.locals in
    subst (λ m. Shows t o (record k { locals = ls }) x rs (with_type m s)) (sym c.in-Some.is ∙ c.local_named.ensures)
    (shows_type t o k x rs s has ls c.declare_local.ensures.iota c.in-Some.number c.in_ok-of.of c.in_ok-of.ensures c.declare_local.ensures.locals)
