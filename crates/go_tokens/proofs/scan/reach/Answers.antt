use Rattle.std.proofs.Common.{sym, ◌∙◌, ap, arith}
use Rattle.std.proofs.lemmas.List.{get_or_read}
use Rattle.go_tokens.specs.Pieces.{goes}
use Rattle.go_tokens.proofs.First.{after_more}
use Rattle.go_tokens.proofs.scan.reach.Goals as goal

pub loop-i-preserved : goal.loop-i-preserved
loop-i-preserved c = after_more c.args.begin c.args.text.now c.loop-i.i c.loop-i.mode c.in-Some.next (omega arith) c.loop-i.invariant (ap (goes c.loop-i.mode) (sym (get_or_read c.args.text.now c.loop-i.i c.index-text-i.result (omega arith) c.index-text-i.is 0)) ∙ sym c.goes.ensures ∙ c.in-Some.is)
