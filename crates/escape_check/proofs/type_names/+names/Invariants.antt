use Rattle.std.proofs.Common.{◌≡◌, ◌<◌, ◌+◌, ◌*◌, Bool, drop, map}
use Rattle.std.specs.Prelude.{◌||◌}
use Rattle.std.specs.List.{AllByRecursion, list_any}
use Rattle.escape_check.specs.Collecting.{KnowsNames, names_collected, names_of_types}
use Rattle.escape_check.specs.Types.{TypeName}
use Rattle.escape_check.proofs.type_names.+names.Given as goal

abbrev pub decreases-push_fields : goal.decreases-push_fields
decreases-push_fields l = 8 * l.bound + 4

abbrev pub decreases-push_types : goal.decreases-push_types
decreases-push_types l = 8 * l.bound + 4

abbrev pub decreases-push_shape : goal.decreases-push_shape
decreases-push_shape l = 8 * l.of + 6

abbrev pub decreases-push_type : goal.decreases-push_type
decreases-push_type l = 8 * l.of + 7

abbrev pub invariant-push_types-loop-of : goal.invariant-push_types-loop-of
invariant-push_types-loop-of l =
    AllByRecursion (λ t. t < l.bound) (drop l.of-index l.types)
    × KnowsNames l.checked l.collected
    × ((test : TypeName → Bool) → (list_any test (names_collected l.collected) || list_any test (names_of_types l.checked (drop l.of-index l.types)))
    ≡ (list_any test (names_collected l.fn.collected) || list_any test (names_of_types l.checked l.types)))

abbrev pub invariant-push_fields-loop-field : goal.invariant-push_fields-loop-field
invariant-push_fields-loop-field l =
    AllByRecursion (λ f. f.ty < l.bound) (drop l.field-index l.fields)
    × KnowsNames l.checked l.collected
    × ((test : TypeName → Bool) → (list_any test (names_collected l.collected) || list_any test (names_of_types l.checked (map (λ f. f.ty) (drop l.field-index l.fields))))
    ≡ (list_any test (names_collected l.fn.collected) || list_any test (names_of_types l.checked (map (λ f. f.ty) l.fields))))
