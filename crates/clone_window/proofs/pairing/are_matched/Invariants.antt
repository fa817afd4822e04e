use Rattle.std.proofs.Common.{◌≡◌, drop, map}
use Rattle.std.specs.Prelude.{nat_eq}
use Rattle.std.specs.List.{list_all, zip}
use Rattle.go_typed.specs.Views.{sort_view}
use Rattle.clone_window.specs.Sameness.{is_matched}
use Rattle.clone_window.proofs.pairing.are_matched.Given as goal

abbrev pub invariant-loop-index : goal.invariant-loop-index
invariant-loop-index l =
    list_all (is_matched nat_eq (map sort_view l.here) (map sort_view l.there)) (zip l.left l.right)
    ≡ list_all (is_matched nat_eq (map sort_view l.here) (map sort_view l.there)) (drop l.index (zip l.left l.right))
