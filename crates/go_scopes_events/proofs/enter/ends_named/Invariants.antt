use Rattle.std.proofs.Common.{◌≡◌, drop, false}
use Rattle.go_grammar.specs.Grammar as grammar
use Rattle.go_tree.specs.Views.{views}
use Rattle.go_scopes_events.proofs.enter.ends_named.Given as goal

abbrev pub invariant-loop-part : goal.invariant-loop-part
invariant-loop-part l = grammar.ends_from false (views l.parts) ≡ grammar.ends_from l.named (views (drop l.part-index l.parts))
