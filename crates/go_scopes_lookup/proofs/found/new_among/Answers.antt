use Rattle.std.proofs.Common.{◌≡◌, arith, rules, map}
use Rattle.std.proofs.lemmas.Grind.{common_steps}
use Rattle.go_tree.specs.Declarations.{is_new}
use Rattle.go_scopes_lookup.specs.Views.{found_view}
use Rattle.go_scopes_lookup.proofs.found.new_among.Goals as goal

pub loop-left-preserved-in_ok-push : goal.loop-left-preserved-in_ok-push
loop-left-preserved-in_ok-push c =
    let new : c.is_new.result ≡ is_new (map found_view c.args.all.now) (found_view c.d-item.result) = c.is_new.ensures (map found_view c.args.all.now) c.in_ok-variables.ensures in
    first_of (search (rules, new), grind (arith, common_steps, new))

pub loop-left-preserved : goal.loop-left-preserved
loop-left-preserved c =
    let new : c.is_new.result ≡ is_new (map found_view c.args.all.now) (found_view c.d-item.result) = c.is_new.ensures (map found_view c.args.all.now) c.in_ok-variables.ensures in
    first_of (search (rules, new), grind (arith, common_steps, new))
