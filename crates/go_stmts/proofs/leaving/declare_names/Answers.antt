use Rattle.std.proofs.Common.{◌∙◌, ap, sym, subst}
use Rattle.go_stmts_defs.specs.Reading.{declares_all}
use Rattle.go_stmts.specs.State.{Shows}
use Rattle.go_stmts.proofs.Showing.{shows_declared}
use Rattle.go_stmts.proofs.leaving.declare_names.Goals as goal

pub returns-clause-frame : goal.returns-clause-frame
returns-clause-frame c = λ o x rs s has.
    let t = c.args.types.now in
    let ls = c.declare_all.new.locals in
    subst (Shows t o (record (c.args.state.now) { locals = ls }) x rs) (sym (ap (λ xs. declares_all xs s) (sym c.parts_of.ensures.parts) ∙ c.in_ok-declare_all.ensures.locals s has.locals))
    (shows_declared t o c.args.state.now x rs s has ls c.in_ok-declare_all.ensures.iota)
