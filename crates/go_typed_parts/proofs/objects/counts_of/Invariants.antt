use Rattle.std.proofs.Common.{◌≡◌, drop}
use Rattle.go_typed.specs.Packages.{counts_from, no_counts}
use Rattle.go_typed_parts.specs.Shown.{counts_view, AreAtMost}
use Rattle.go_typed_parts.proofs.objects.counts_of.Given as goal

abbrev pub invariant-loop-object : goal.invariant-loop-object
invariant-loop-object l =
    (counts_from no_counts l.objects ≡ counts_from (counts_view l.counts) (drop l.object-index l.objects)) × AreAtMost l.object-index l.counts
