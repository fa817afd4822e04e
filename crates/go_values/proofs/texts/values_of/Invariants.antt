use Rattle.std.proofs.Common.{◌≡◌, take}
use Rattle.go_meaning.specs.Operations.{bytes_as_values}
use Rattle.go_values.specs.Views.{views}
use Rattle.go_values.proofs.texts.values_of.Given as goal

abbrev pub invariant-loop-byte : goal.invariant-loop-byte
invariant-loop-byte l = views l.values.items ≡ bytes_as_values (take l.byte-index l.bytes)
