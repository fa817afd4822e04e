use Rattle.extract_names.proofs.CopyMembers.{members_once}
use Rattle.extract_names.proofs.laws.copied_members_stand_once.Goals as goal

pub returns : goal.returns
returns c a new outer d copy e = members_once a new outer d copy e
