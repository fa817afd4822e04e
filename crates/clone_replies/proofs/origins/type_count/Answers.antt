use Rattle.std.proofs.Common.{◌≡◌, ◌∙◌, Some, ap, sym, slice_get, arith}
use Rattle.std.proofs.lemmas.List.{length-append}
use Rattle.std.specs.Option.{option_map}
use Rattle.go_package_defs.specs.Checked.{package_origins, function_origins}
use Rattle.clone_replies.proofs.NumberPlaces.{types_among, in-package, in-functions, types-step}
use Rattle.clone_replies.proofs.origins.type_count.Goals as goal

pub loop-number-init : goal.loop-number-init
loop-number-init c =
    let u = c.args.uses.now in
    let own : c.types_among-count.result ≡ types_among u.package_level = c.types_among-count.ensures ∙ ap types_among c.package_objects.ensures.objects in
    omega (arith, length-append (package_origins 0 u.package_level) (function_origins 0 u.locals), in-package 0 u.package_level, in-functions 0 u.locals, own)

pub loop-number-preserved : goal.loop-number-preserved
loop-number-preserved c =
    let dss = c.args.uses.now.locals in
    let there : slice_get dss c.loop-number.number ≡ Some c.in-Some.locals.now = sym c.locals.ensures ∙ ap (option_map (λ ds. ds.now)) c.in-Some.is in
    types-step dss c.loop-number.number c.in-Some.locals.now _ c.loop-number.count c.in_ok-count.count there c.loop-number.invariant c.in_ok-count.ensures
