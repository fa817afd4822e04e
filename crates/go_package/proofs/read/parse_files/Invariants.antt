use Rattle.go_package.specs.Reading.{Upto, IsParsed}
use Rattle.go_package.proofs.read.parse_files.Given as goal

abbrev pub invariant-loop-tokens : goal.invariant-loop-tokens
invariant-loop-tokens l = Upto IsParsed l.files l.tokens-index l.trees.items
