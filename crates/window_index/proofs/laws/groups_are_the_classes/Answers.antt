use Rattle.std.proofs.Common.{List, subst}
use Rattle.std.specs.Prelude.{nat_eq}
use Rattle.std.specs.List.Sorted.{IsPermutation}
use Rattle.go_typed.specs.declared.window.Window.{Window}
use Rattle.clone_window.specs.Bodies.{bodies_of, same_in}
use Rattle.clone_window.specs.Fields.{field_text}
use Rattle.clone_classes.specs.Choices.{place_of}
use Rattle.clone_classes.specs.Listing.{windows_of_all}
use Rattle.clone_classes.proofs.Public.{within, numbers}
use Rattle.window_index.proofs.Classified.{classified}
use Rattle.window_index.proofs.Flattened.{held-flat}
use Rattle.window_index.proofs.laws.groups_are_the_classes.Goals as goal

pub returns : goal.returns
returns c = λ number p bounds buckets groups classes law fits all order are listed.
    let bodies = bodies_of p.functions in
    let windows = windows_of_all bounds 0 bodies in
    classified (place_of bodies) number (same_in p) windows buckets (within nat_eq numbers (field_text p.types) bodies) law fits
    (subst (λ (ws : List Window). IsPermutation windows ws) (held-flat buckets) all) order groups classes are listed
