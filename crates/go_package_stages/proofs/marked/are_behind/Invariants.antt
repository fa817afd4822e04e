use Rattle.std.proofs.Common.{◌≡◌, ℕ, ◌<◌, Some}
use Rattle.std.specs.Prelude.{slice_get}
use Rattle.go_declarations.specs.Views.{seen_all}
use Rattle.go_needs.specs.Tells.{TellsNeeds}
use Rattle.go_package_defs.specs.Knowledge.{Outline, outlines, is_type}
use Rattle.go_package_defs.specs.Sources.{Package}
use Rattle.go_package_stages.specs.Marked.{IsMarkedAs}
use Rattle.go_package_stages.proofs.marked.are_behind.Given as goal

abbrev pub invariant-loop-number : goal.invariant-loop-number
invariant-loop-number l =
    (p : Package) (n : ℕ) (o : Outline) → n < l.number → TellsNeeds l.needs p (seen_all l.specifications) → slice_get (outlines p (seen_all l.specifications)) n ≡ Some o → IsMarkedAs l.trial n o (is_type o.specification.entity)
