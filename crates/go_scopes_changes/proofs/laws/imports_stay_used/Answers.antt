use Rattle.go_scopes_changes.proofs.Lookups.{uses_stay}
use Rattle.go_scopes_changes.proofs.Used.{imports_used}
use Rattle.go_scopes_changes.proofs.laws.imports_stay_used.Goals as goal

pub returns : goal.returns
returns c = λ old new h i k j e keeps f.
    imports_used old new (c.names_outside_of_functions_stay.ensures old new h k e) keeps c.carried_trees_tell_the_same.ensures h k e
    (λ n. c.imports_are_used_by_functions.ensures old h i n) (λ n. c.imports_are_used_by_functions.ensures new k j n)
    (uses_stay old new h k e (c.names_outside_of_functions_stay.ensures old new h k e) c.carried_trees_tell_the_same.ensures) f
