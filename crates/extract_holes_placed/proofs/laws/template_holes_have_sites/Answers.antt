use Rattle.extract_holes_placed.proofs.Placed.{template_holes}
use Rattle.extract_holes_placed.proofs.laws.template_holes_have_sites.Goals as goal

pub returns : goal.returns
returns g c w ws t f r s there is e h = template_holes c w ws t f r s there is e h
