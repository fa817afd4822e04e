use Rattle.go_tree.specs.Contexts.{file_context}
use Rattle.extract_names.specs.Gaps.{moved_by}
use Rattle.extract_names.proofs.Said.{said}
use Rattle.extract_names.proofs.laws.new_names_mean_what_they_have_to.Goals as goal

pub returns : goal.returns
returns c a new outer gaps site free g k i lt o e n = said a new outer gaps site (c.replaced_runs_tell.ensures (moved_by gaps) (file_context 0) a.tree site.patch site.replaces) free g k i lt o e n
