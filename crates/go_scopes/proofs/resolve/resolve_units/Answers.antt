use Rattle.std.proofs.Common.{◌≡◌, None, map, rules, arith}
use Rattle.std.proofs.lemmas.Grind.{common_steps}
use Rattle.go_tree.specs.Declarations.{declarations}
use Rattle.go_tree.specs.Failures.{least}
use Rattle.go_tree.specs.Faults.{clause_faults}
use Rattle.go_scopes_lookup.specs.Views.{units_view, found_view}
use Rattle.go_scopes_lookup.proofs.Public.{known_complete}
use Rattle.go_scopes.proofs.resolve.resolve_units.Goals as goal

pub uses_of-requires : goal.uses_of-requires
uses_of-requires c =
    let us = units_view c.args.units.now in
    let clauses : least (clause_faults us) ≡ None = first_of (search rules, grind (arith, common_steps)) in
    let declared : map found_view c.deref-8.result.now ≡ declarations us = first_of (search rules, grind (arith, common_steps)) in
    known_complete us (map (λ v. v.items) c.in_ok-looked_up.looked_up.objects.items) (map found_view c.deref-8.result.now) c.requires.orderly c.requires.counted c.requires.inside clauses c.in_ok-looked_up.ensures.objects declared
