use Rattle.std.proofs.Common.{take}
use Rattle.escape_check.specs.Keeping.{KeepEnds}
use Rattle.escape_check.proofs.keeping.ends_of.Given as goal

abbrev pub invariant-loop-func : goal.invariant-loop-func
invariant-loop-func l = KeepEnds l.types (take l.func-index l.functions) l.ends.items
