use Rattle.std.proofs.Common.{◌≡◌, Some, ap, sym, ◌∙◌}
use Rattle.std.specs.Prelude.{slice_get}
use Rattle.std.specs.Option.{option_map}
use Rattle.go_package.proofs.FilesRead.{origins_step}
use Rattle.go_package.proofs.origins.origins.Goals as goal

pub loop-number-preserved : goal.loop-number-preserved
loop-number-preserved c =
    let there : slice_get c.args.uses.now.locals c.loop-number.number ≡ Some c.in-Some.locals.now = sym c.locals.ensures ∙ ap (option_map (λ ds. ds.now)) c.in-Some.is in
    origins_step c.args.uses.now.locals c.loop-number.number c.in-Some.locals.now there c.loop-number.origins.items c.push_locals.new.origins.items _ c.loop-number.func c.in_ok-func.func c.in_ok-func.ensures
    c.in_ok-push_locals.ensures c.loop-number.invariant
