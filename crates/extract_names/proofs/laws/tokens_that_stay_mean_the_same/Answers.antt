use Rattle.go_tree.specs.Contexts.{file_context}
use Rattle.extract_names.specs.Gaps.{moved_by}
use Rattle.extract_names.proofs.Kept.{kept}
use Rattle.extract_names.proofs.laws.tokens_that_stay_mean_the_same.Goals as goal

pub returns : goal.returns
returns c a new outer gaps site free t st = kept a new outer gaps site (c.replaced_runs_tell.ensures (moved_by gaps) (file_context 0) a.tree site.patch site.replaces) free t st
