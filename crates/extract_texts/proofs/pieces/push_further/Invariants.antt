use Rattle.std.proofs.Common.{◌≡◌, ◌++◌, codes, drop}
use Rattle.go_print.specs.Texts.{marked}
use Rattle.extract_texts.proofs.pieces.push_further.Given as goal

abbrev pub invariant-loop-text : goal.invariant-loop-text
invariant-loop-text l = l.out.items ++ marked (codes ", ") (drop l.text-index l.texts) ≡ l.fn.out.items ++ marked (codes ", ") l.texts
