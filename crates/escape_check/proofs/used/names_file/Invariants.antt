use Rattle.std.proofs.Common.{◌≡◌, drop}
use Rattle.std.specs.List.{list_any}
use Rattle.escape_check.specs.Names.{is_identifier_token, names_file}
use Rattle.escape_check.proofs.used.names_file.Given as goal

abbrev pub invariant-loop-number : goal.invariant-loop-number
invariant-loop-number l = names_file l.name l.file ≡ list_any (is_identifier_token l.file l.name) (drop l.number l.tokens.tokens)
