use Rattle.extract_holes_checked.proofs.laws.named_templates_have_holes.Goals as goal

pub returns : goal.returns
returns c p w ws t h small named q e = c.templates_have_holes.ensures p w ws t h small (c.named_packages_are_known.ensures p h named) (c.named_packages_call_no_constant.ensures p h named) q e
