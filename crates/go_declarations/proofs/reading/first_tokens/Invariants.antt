use Rattle.std.proofs.Common.{◌≡◌, ◌++◌, drop}
use Rattle.go_tree.specs.Views.{views}
use Rattle.go_package_defs.specs.Declarations.{first_tokens}
use Rattle.go_declarations.proofs.reading.first_tokens.Given as goal

abbrev pub invariant-loop-part : goal.invariant-loop-part
invariant-loop-part l = l.tokens.items ++ first_tokens (views (drop l.part-index l.parts)) ≡ first_tokens (views l.parts)
