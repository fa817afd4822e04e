use Rattle.go_tree.specs.Contexts.{file_context}
use Rattle.extract_names.specs.Gaps.{moved_by}
use Rattle.extract_names.proofs.Calm.{defaults_once}
use Rattle.extract_names.proofs.laws.switches_have_one_default.Goals as goal

pub returns : goal.returns
returns c a new outer gaps site e = defaults_once a new outer gaps site (c.replaced_runs_tell.ensures (moved_by gaps) (file_context 0) a.tree site.patch site.replaces) e
