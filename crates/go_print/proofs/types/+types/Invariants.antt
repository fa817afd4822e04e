use Rattle.std.proofs.Common.{◌≡◌, ◌++◌, ◌<◌, map, codes, drop, ◌+◌, ◌*◌}
use Rattle.std.specs.List.{AllByRecursion}
use Rattle.go_print.specs.Texts.{marked}
use Rattle.go_print.specs.Printed.{printed, printed_field}
use Rattle.go_print.proofs.types.+types.Given as goal

abbrev pub decreases-push_field : goal.decreases-push_field
decreases-push_field l = 8 * l.field.now.ty + 8

abbrev pub decreases-push_further_fields : goal.decreases-push_further_fields
decreases-push_further_fields l = 8 * l.bound + 4

abbrev pub decreases-push_list : goal.decreases-push_list
decreases-push_list l = 8 * l.bound + 4

abbrev pub decreases-push_marked : goal.decreases-push_marked
decreases-push_marked l = 8 * l.bound + 3

abbrev pub decreases-push_results : goal.decreases-push_results
decreases-push_results l = 8 * l.bound + 5

abbrev pub decreases-push_struct : goal.decreases-push_struct
decreases-push_struct l = 8 * l.bound + 6

abbrev pub decreases-push_function : goal.decreases-push_function
decreases-push_function l = 8 * l.bound + 6

abbrev pub decreases-push_type : goal.decreases-push_type
decreases-push_type l = 8 * l.of + 7

abbrev pub invariant-push_further_fields-loop-field : goal.invariant-push_further_fields-loop-field
invariant-push_further_fields-loop-field l =
    AllByRecursion (λ f. f.ty < l.bound) (drop l.field-index l.fields)
    × (l.out.items ++ marked (codes "; ") (map (printed_field l.checked) (drop l.field-index l.fields))
    ≡ l.fn.out.items ++ marked (codes "; ") (map (printed_field l.checked) l.fields))

abbrev pub invariant-push_marked-loop-of : goal.invariant-push_marked-loop-of
invariant-push_marked-loop-of l =
    AllByRecursion (λ t. t < l.bound) (drop l.of-index l.types)
    × (l.out.items ++ marked l.mark (map (printed l.checked) (drop l.of-index l.types))
    ≡ l.fn.out.items ++ marked l.mark (map (printed l.checked) l.types))
