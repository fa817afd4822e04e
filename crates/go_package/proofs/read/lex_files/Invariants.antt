use Rattle.std.proofs.Common.{◌≡◌}
use Rattle.go_package.proofs.Files.{NoneBefore, LexedSoFar}
use Rattle.go_package.proofs.read.lex_files.Given as goal

abbrev pub invariant-loop-text : goal.invariant-loop-text
invariant-loop-text l = record {
  number : l.number ≡ l.text-index;
  encoding : NoneBefore l.texts l.text-index;
  lexed : LexedSoFar l.texts l.text-index l.files.items l.later;
}
