use Rattle.extract_texts.specs.Shown.{template_locals}
use Rattle.extract_texts.proofs.call.local_for.Goals as goal

pub returns : goal.returns
returns c = c.local_at.ensures (template_locals c.args.template.now) c.requires
