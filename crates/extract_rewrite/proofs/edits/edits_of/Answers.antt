use Rattle.std.proofs.Common.{◌∙◌, sym, ap}
use Rattle.extract_rewrite.specs.Order.{from_the_end}
use Rattle.extract_rewrite.proofs.Seen.{edits_seen}
use Rattle.extract_rewrite.proofs.edits.edits_of.Goals as goal

pub returns : goal.returns
returns c = c.in_ok-ordered.ensures ∙ ap from_the_end c.in_ok-edits.ensures ∙ sym (edits_seen c.args.checked.now c.args.name.now c.args.template.now c.args.others.now c.requires.template c.requires.others)
