use Rattle.std.proofs.Common.{◌≡◌, ℕ, ◌<◌, ◌^◌, ◌||◌, drop, map}
use Rattle.std.specs.List.{list_any}
use Rattle.escape_check.specs.Stretches.{covers, means_other}
use Rattle.escape_check.specs.Written.{type_name_view}
use Rattle.escape_check.proofs.hidden_names.stretches_of.Given as goal

abbrev pub invariant-loop-name : goal.invariant-loop-name
invariant-loop-name l =
    (t : ℕ) → t < 2 ^ 32 → (list_any (covers t) l.stretches.items || list_any (means_other l.checked l.file t) (map type_name_view (drop l.name-index l.names)))
    ≡ list_any (means_other l.checked l.file t) (map type_name_view l.names)
