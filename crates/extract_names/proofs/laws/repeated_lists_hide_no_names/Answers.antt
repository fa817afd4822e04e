use Rattle.go_tree.specs.Contexts.{file_context}
use Rattle.extract_names.specs.Gaps.{moved_by}
use Rattle.extract_names.proofs.Repeated.{lists_mean_the_same}
use Rattle.extract_names.proofs.laws.repeated_lists_hide_no_names.Goals as goal

pub returns : goal.returns
returns c a new outer gaps site e = lists_mean_the_same a new outer gaps site (c.replaced_runs_tell.ensures (moved_by gaps) (file_context 0) a.tree site.patch site.replaces) e
