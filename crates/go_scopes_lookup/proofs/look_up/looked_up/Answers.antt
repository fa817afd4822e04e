use Rattle.std.proofs.Common.{◌≡◌, ◌∙◌, sym, subst}
use Rattle.go_scopes_events.specs.Scopes.{locals_of, AreSwept, AreNested}
use Rattle.go_scopes_events.proofs.Public.{locals_good}
use Rattle.go_tree.specs.Meanings.{meanings}
use Rattle.go_scopes_lookup.specs.Views.{units_view}
use Rattle.go_scopes_lookup.specs.Sorted.{all_of}
use Rattle.go_scopes_lookup.proofs.look_up.looked_up.Goals as goal

pub looked_up_in_files-requires-clause-locals : goal.looked_up_in_files-requires-clause-locals
looked_up_in_files-requires-clause-locals c n =
    let us = units_view c.args.units.now in
    let all : all_of c.in_ok-sorted.sorted ≡ meanings us = c.in_ok-sorted.ensures.all ∙ c.in_ok-meanings.ensures ∙ c.requires.entries in
    subst (λ ms. AreSwept 0 (locals_of n ms) × AreNested (locals_of n ms)) (sym all) (locals_good us c.requires.orderly n)
