use Rattle.std.proofs.Common.{◌∙◌, length, ap}
use Rattle.extract_rewrite.proofs.Seen.{results_seen}
use Rattle.extract_rewrite.proofs.extracted.results.Goals as goal

pub returns : goal.returns
returns c =
    results_seen c.args.checked.now c.args.template.now c.requires c.in_ok-assigned.assigned c.in_ok-declared.declared c.in_ok-results.results
    (c.in_ok-assigned.ensures ∙ ap length c.deref.ensures.value) (c.in_ok-declared.ensures ∙ ap length c.deref-2.ensures.value) c.in_ok-results.ensures
