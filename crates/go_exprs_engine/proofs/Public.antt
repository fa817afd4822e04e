-- What the proofs of other crates use of this crate's proofs. Declares nothing.
pub use Rattle.go_exprs_engine.proofs.Answers.{instead, judged_err, judged_ok, none_least, reported_append, reported_one}
pub use Rattle.go_exprs_engine.proofs.Nodes.{drop_step, held_itself, held_parts, known_append, known_at, known_set, list_row, parts_seen, refilled, row_seen, seen_made, seen_out}
pub use Rattle.go_exprs_engine.proofs.Stays.{basics_stay, hint_known, hint_stays, locals_stay, longer, names_stay, node_known, node_stays, parts_known, parts_stay, scope_known, sort_known, sort_more, sort_same, sort_stays, sorts_stay}
pub use Rattle.go_exprs_engine.proofs.Steps.{read_at}
