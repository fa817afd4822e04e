use Rattle.std.proofs.Common.{◌≡◌, drop}
use Rattle.go_grammar.specs.Grammar as grammar
use Rattle.go_tree.specs.Views.{views}
use Rattle.go_tree.proofs.agree.are_names.Given as goal

abbrev pub invariant-loop-part : goal.invariant-loop-part
invariant-loop-part l = grammar.are_names (views l.parts) ≡ grammar.are_names (views (drop l.part-index l.parts))
