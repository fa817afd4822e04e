use Rattle.go_heads.proofs.Lookups.{lookups_kept}
use Rattle.go_heads.proofs.laws.names_keep_their_objects.Goals as goal

pub returns : goal.returns
returns c old new h k e = lookups_kept c.heads_tell_names.ensures old new h k e
