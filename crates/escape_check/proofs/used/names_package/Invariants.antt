use Rattle.std.proofs.Common.{◌≡◌, drop}
use Rattle.std.specs.List.{list_any}
use Rattle.escape_check.specs.Names.{names_file}
use Rattle.escape_check.proofs.used.names_package.Given as goal

abbrev pub invariant-loop-file : goal.invariant-loop-file
invariant-loop-file l = list_any (names_file l.name) l.checked.files ≡ list_any (names_file l.name) (drop l.file-index l.checked.files)
