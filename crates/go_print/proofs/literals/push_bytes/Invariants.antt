use Rattle.std.proofs.Common.{◌≡◌, ◌++◌, drop}
use Rattle.go_print.specs.Literals.{bytes_text}
use Rattle.go_print.proofs.literals.push_bytes.Given as goal

abbrev pub invariant-loop-byte : goal.invariant-loop-byte
invariant-loop-byte l = l.out.items ++ bytes_text (drop l.byte-index l.bytes) ≡ l.fn.out.items ++ bytes_text l.bytes
