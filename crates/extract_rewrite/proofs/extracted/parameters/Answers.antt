use Rattle.std.proofs.Common.{◌∙◌, length, ap}
use Rattle.extract_rewrite.proofs.Seen.{parameters_seen}
use Rattle.extract_rewrite.proofs.extracted.parameters.Goals as goal

pub returns : goal.returns
returns c =
    parameters_seen c.args.checked.now c.args.template.now c.requires c.in_ok-free.free c.in_ok-holes.holes c.in_ok-parameters.parameters
    (c.in_ok-free.ensures ∙ ap length c.deref.ensures.value) (c.in_ok-holes.ensures ∙ ap length c.deref-2.ensures.value) c.in_ok-parameters.ensures
