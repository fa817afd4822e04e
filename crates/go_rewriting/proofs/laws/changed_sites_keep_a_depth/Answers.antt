use Rattle.go_rewriting.proofs.Depths.{sites_depth}
use Rattle.go_rewriting.proofs.laws.changed_sites_keep_a_depth.Goals as goal

pub returns : goal.returns
returns c = sites_depth
