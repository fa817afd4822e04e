use Rattle.std.proofs.Common.{◌≡◌, map, take}
use Rattle.go_meaning.specs.Values.{byte_of}
use Rattle.go_values.specs.Views.{views}
use Rattle.go_eval_operations.proofs.texts.text_of_bytes.Given as goal

abbrev pub invariant-loop-value : goal.invariant-loop-value
invariant-loop-value l = l.bytes.items ≡ map byte_of (views (take l.value-index l.contents))
