use Rattle.std.proofs.Common.{◌≡◌, ◌++◌, drop}
use Rattle.go_tree.specs.Views.{views}
use Rattle.go_package_defs.specs.Declarations.{declarations}
use Rattle.go_declarations.specs.Views.{seen_all}
use Rattle.go_declarations.proofs.reading.push_file.Given as goal

abbrev pub invariant-loop-part : goal.invariant-loop-part
invariant-loop-part l = seen_all l.found.items ++ declarations l.file (views (drop l.part-index l.parts)) ≡ seen_all l.initial.found.items ++ declarations l.file (views l.parts)
