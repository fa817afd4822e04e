use Rattle.std.proofs.Common.{◌≡◌, ◌++◌, drop, map}
use Rattle.go_package_defs.specs.Answer.{specifications}
use Rattle.go_package_defs.specs.Sources.{source_of}
use Rattle.go_declarations.specs.Views.{seen_all}
use Rattle.go_declarations.proofs.reading.specifications.Given as goal

abbrev pub invariant-loop-number : goal.invariant-loop-number
invariant-loop-number l = seen_all l.found.items ++ specifications l.number (map source_of (drop l.number l.files)) ≡ specifications 0 (map source_of l.files)
