use Rattle.std.proofs.Common.{◌≡◌, drop}
use Rattle.go_typed.specs.Packages.{refers_to}
use Rattle.go_typed.specs.Trees.{forms_among}
use Rattle.go_typed_parts.specs.Shown.{counts_view}
use Rattle.go_typed.specs.Views.{views}
use Rattle.go_typed_parts.proofs.known.+objects.Given as goal

abbrev pub invariant-have_known_objects-loop-part : goal.invariant-have_known_objects-loop-part
invariant-have_known_objects-loop-part l = forms_among (refers_to (counts_view l.counts)) (views l.parts) ≡ forms_among (refers_to (counts_view l.counts)) (views (drop l.part-index l.parts))
