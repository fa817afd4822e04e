use Rattle.std.proofs.Common.{◌≡◌, ◌++◌, map, drop}
use Rattle.go_scopes_lookup.specs.Views.{place_of}
use Rattle.extract_rewrite.specs.Shown.{found_bytes}
use Rattle.extract_rewrite.proofs.dropped.window_spans.Given as goal

abbrev pub invariant-loop-member : goal.invariant-loop-member
invariant-loop-member l = map (found_bytes l.checked) l.members ≡ map place_of l.spans.items ++ map (found_bytes l.checked) (drop l.member-index l.members)
