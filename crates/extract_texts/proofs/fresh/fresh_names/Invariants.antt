use Rattle.std.proofs.Common.{◌≡◌, ◌-◌, ◌≤◌, ◌++◌, length}
use Rattle.escape_check.specs.Places.{sources_in}
use Rattle.extract_texts.specs.Fresh.{fresh_names, is_used, unused_from}
use Rattle.extract_texts.proofs.fresh.fresh_names.Given as goal

abbrev pub invariant-loop-number : goal.invariant-loop-number
invariant-loop-number l = record {
  few : length l.names.items ≤ l.count;
  names : l.names.items ++ unused_from (is_used (sources_in l.checked) l.name) l.number (l.count - length l.names.items) (l.room - l.number)
      ≡ fresh_names (sources_in l.checked) l.name l.count;
}
