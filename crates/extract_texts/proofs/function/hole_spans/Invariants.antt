use Rattle.std.proofs.Common.{◌≡◌, ◌++◌, map, drop}
use Rattle.go_scopes_lookup.specs.Views.{place_of}
use Rattle.escape_check.specs.Places.{sources_in}
use Rattle.escape_check.specs.Shown.{member_view}
use Rattle.extract_texts.specs.Shown.{numbers_shown, places_at}
use Rattle.extract_texts.proofs.function.hole_spans.Given as goal

abbrev pub invariant-loop-parameter : goal.invariant-loop-parameter
invariant-loop-parameter l =
    map place_of l.spans.items ++ places_at (sources_in l.checked) (member_view l.member) (numbers_shown (drop l.parameter-index l.parameters))
    ≡ places_at (sources_in l.checked) (member_view l.member) (numbers_shown l.parameters)
