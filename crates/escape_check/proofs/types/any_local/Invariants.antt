use Rattle.std.proofs.Common.{◌≡◌, drop, map}
use Rattle.std.specs.List.{list_any}
use Rattle.escape_check.specs.Places.{sources_in}
use Rattle.escape_check.specs.Types.{is_local_type}
use Rattle.escape_check.specs.Written.{type_name_view}
use Rattle.escape_check.proofs.types.any_local.Given as goal

abbrev pub invariant-loop-name : goal.invariant-loop-name
invariant-loop-name l = list_any (is_local_type (sources_in l.checked)) (map type_name_view l.names) ≡ list_any (is_local_type (sources_in l.checked)) (map type_name_view (drop l.name-index l.names))
