use Rattle.std.proofs.Common.{◌≡◌, map, take, drop}
use Rattle.escape_check.specs.Places.{sources_in}
use Rattle.escape_check.specs.Shown.{member_view}
use Rattle.escape_check.specs.Statements.{overlap_from, overlap_refused}
use Rattle.escape_check.specs.Tokens.{Covered}
use Rattle.escape_check.proofs.overlap.first_overlap.Given as goal

abbrev pub invariant-loop-number : goal.invariant-loop-number
invariant-loop-number l = record {
  found : overlap_refused (sources_in l.checked) (map member_view l.members) ≡ overlap_from (sources_in l.checked) l.number (map member_view (take l.number l.members)) (map member_view (drop l.number l.members));
  taken : Covered l.taken (map member_view (take l.number l.members));
}
