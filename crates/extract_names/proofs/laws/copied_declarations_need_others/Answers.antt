use Rattle.extract_names.proofs.CopyCycles.{none_needs_itself}
use Rattle.extract_names.proofs.laws.copied_declarations_need_others.Goals as goal

pub returns : goal.returns
returns c a new outer d copy e = none_needs_itself a new outer d copy c.declarations_bound_rounds.ensures e
