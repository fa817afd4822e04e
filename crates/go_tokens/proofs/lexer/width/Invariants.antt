use Rattle.std.proofs.Common.{◌≡◌, take}
use Rattle.go_tokens.specs.Lexing.{width}
use Rattle.go_tokens.proofs.lexer.width.Given as goal

abbrev pub invariant-loop-c : goal.invariant-loop-c
invariant-loop-c l = l.bytes ≡ width (take l.c-index l.text)
