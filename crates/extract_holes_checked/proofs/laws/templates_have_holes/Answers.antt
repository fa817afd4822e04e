use Rattle.extract_holes_checked.proofs.Checked.{templates_have_holes}
use Rattle.extract_holes_checked.proofs.laws.templates_have_holes.Goals as goal

pub returns : goal.returns
returns c = templates_have_holes c.windows_stand.ensures c.holes_of_windows_stand.ensures c.holes_that_stand_lie_apart.ensures c.template_holes_have_sites.ensures
