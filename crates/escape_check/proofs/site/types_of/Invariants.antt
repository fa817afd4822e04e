use Rattle.std.proofs.Common.{◌≡◌, ◌++◌, drop}
use Rattle.escape_check.specs.Shown.{member_view}
use Rattle.escape_check.specs.Types.{local_types}
use Rattle.escape_check.proofs.site.types_of.Given as goal

abbrev pub invariant-loop-local : goal.invariant-loop-local
invariant-loop-local l = l.types.items ++ local_types (member_view l.member) (drop l.local-index l.locals) ≡ local_types (member_view l.member) l.locals
