use Rattle.go_tree.specs.Contexts.{file_context}
use Rattle.extract_names.specs.Gaps.{moved_by}
use Rattle.extract_names.proofs.SiteCycles.{none_needs_itself}
use Rattle.extract_names.proofs.laws.declarations_need_others.Goals as goal

pub returns : goal.returns
returns c a new outer gaps site free e =
    none_needs_itself a new outer gaps site (c.replaced_runs_tell.ensures (moved_by gaps) (file_context 0) a.tree site.patch site.replaces) free c.declarations_bound_rounds.ensures e
