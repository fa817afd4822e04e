-- What the proofs of other crates use of this crate's proofs. Declares nothing.
pub use Rattle.go_eval_plans.proofs.Lists.{at_none, at_some}
pub use Rattle.go_eval_plans.proofs.Nodes.{by_plan, known_below, known_entry, known_parts}
pub use Rattle.go_eval_plans.proofs.Placing.{is_undecided, one_is, one_left, part_place, reads_by, reads_local, rest_views, writes_by}
pub use Rattle.go_eval_plans.proofs.Reaching.{index_left, passed, reached_element, reached_field}
pub use Rattle.go_eval_plans.proofs.Seen.{opened, plan_once}
pub use Rattle.go_eval_plans.proofs.Sizes.{size_entry, size_node, smaller}
pub use Rattle.go_eval_plans.proofs.Steps.{on_left}
