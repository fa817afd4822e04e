use Rattle.extract_names.proofs.CopyMembers.{lists_mean_the_same}
use Rattle.extract_names.proofs.laws.copied_lists_hide_no_names.Goals as goal

pub returns : goal.returns
returns c a new outer d copy e = lists_mean_the_same a new outer d copy e
