use Rattle.std.proofs.Common.{◌≡◌, ◌++◌, drop}
use Rattle.go_package_defs.specs.Checked.{names_of}
use Rattle.go_package.proofs.assembly.names_of.Given as goal

abbrev pub invariant-loop-text : goal.invariant-loop-text
invariant-loop-text l = l.names.items ++ names_of (drop l.text-index l.texts) ≡ names_of l.texts
