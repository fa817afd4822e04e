use Rattle.go_tree.specs.Contexts.{file_context}
use Rattle.extract_names.specs.Gaps.{moved_by}
use Rattle.extract_names.proofs.Asked.{outside_stay}
use Rattle.extract_names.proofs.laws.names_stay_in_the_profile.Goals as goal

pub returns : goal.returns
returns c a new outer gaps site free e = outside_stay a new outer gaps site (c.replaced_runs_tell.ensures (moved_by gaps) (file_context 0) a.tree site.patch site.replaces) free e
