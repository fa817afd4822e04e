use Rattle.std.proofs.Common.{◌≡◌, ◌++◌, drop}
use Rattle.go_types.specs.Keys.{name_key}
use Rattle.go_types.proofs.keys.push_name.Given as goal

abbrev pub invariant-loop-byte : goal.invariant-loop-byte
invariant-loop-byte l = l.key.items ++ drop l.byte-index l.name ≡ l.fn.key.items ++ name_key l.name
