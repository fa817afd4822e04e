use Rattle.std.proofs.Common.{◌≡◌, drop}
use Rattle.std.specs.Prelude.{slice_get}
use Rattle.go_tree.specs.Views.{views}
use Rattle.go_package_defs.specs.Declarations.{trees_of}
use Rattle.go_declarations.proofs.judging.present_at.Given as goal

abbrev pub invariant-loop-part : goal.invariant-loop-part
invariant-loop-part l = slice_get (trees_of (views (drop l.part-index l.parts))) l.left ≡ slice_get (trees_of (views l.parts)) l.number
