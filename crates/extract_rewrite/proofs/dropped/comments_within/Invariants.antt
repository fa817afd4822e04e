use Rattle.std.proofs.Common.{◌≡◌, take}
use Rattle.std.specs.Prelude.{sum_by}
use Rattle.go_scopes_lookup.specs.Views.{place_of}
use Rattle.escape_check.specs.Places.{sources_in}
use Rattle.extract_rewrite.specs.Counts.{comments_in}
use Rattle.extract_rewrite.proofs.dropped.comments_within.Given as goal

abbrev pub invariant-loop-span : goal.invariant-loop-span
invariant-loop-span l = l.total ≡ sum_by (λ x. comments_in (sources_in l.checked) (place_of x)) (take l.span-index l.spans)
