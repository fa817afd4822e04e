use Rattle.std.proofs.Common.{◌≡◌, ◌&&◌, not, nat_eq, arith, rules, map}
use Rattle.std.proofs.lemmas.Grind.{common_steps}
use Rattle.go_tree.specs.Redeclared.{is_by_define, has_new}
use Rattle.go_scopes_lookup.specs.Views.{found_view}
use Rattle.go_scopes.proofs.redeclared.none_new.Goals as goal

pub loop-all-preserved : goal.loop-all-preserved
loop-all-preserved c =
    let lacks : c.lacks_new-fails.result ≡ (is_by_define c.d-item.result.declaration.now.manner && nat_eq c.d-item.result.declaration.now.column 0 && not (has_new (found_view c.d-item.result) (map found_view c.args.declared.now))) = c.lacks_new-fails.ensures (map found_view c.args.declared.now) c.in_ok-statements.ensures in
    first_of (search (rules, lacks), grind (arith, common_steps, lacks))
