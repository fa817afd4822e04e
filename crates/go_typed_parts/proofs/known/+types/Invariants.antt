use Rattle.std.proofs.Common.{◌≡◌, drop}
use Rattle.go_typed.specs.Packages.{is_below}
use Rattle.go_typed.specs.Trees.{every_part}
use Rattle.go_typed.specs.Views.{views}
use Rattle.go_typed_parts.proofs.known.+types.Given as goal

abbrev pub invariant-have_known_types-loop-part : goal.invariant-have_known_types-loop-part
invariant-have_known_types-loop-part l = every_part (is_below l.count) (views l.parts) ≡ every_part (is_below l.count) (views (drop l.part-index l.parts))
