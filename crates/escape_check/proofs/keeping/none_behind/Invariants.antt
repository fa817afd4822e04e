use Rattle.std.proofs.Common.{◌≡◌, drop}
use Rattle.std.specs.List.{list_all}
use Rattle.escape_check.specs.Keeping.{begins_by}
use Rattle.escape_check.proofs.keeping.none_behind.Given as goal

abbrev pub invariant-loop-part : goal.invariant-loop-part
invariant-loop-part l = list_all (begins_by l.token) (drop l.part-index l.parts) ≡ list_all (begins_by l.token) l.parts
