-- What the proofs of other crates use of this crate's proofs. Declares nothing.
pub use Rattle.go_exprs_elsewhere.proofs.Nodes.{all_held_kept, behind_kept, first_cut_kept, first_kept, held_kept, judged_kept, made_kept, one_kept, two_kept}
pub use Rattle.go_exprs_elsewhere.proofs.Operators.{operation_kept}
pub use Rattle.go_exprs_elsewhere.proofs.Parts.{both, call_moved, count_kept, either, either_of, every, fails, list_kept, optional, parameter_moved, parts, present_kept, some_kept, sort_kept, variable_moved}
pub use Rattle.go_exprs_elsewhere.proofs.Settling.{at_part_kept, at_part_unless, given_kept, unassignable_kept, undefaulted_kept}
pub use Rattle.go_exprs_elsewhere.proofs.Spelling.{all_spelled}
pub use Rattle.go_exprs_elsewhere.proofs.TypeNodes.{entries_kept, parts_in_kept, type_kept}
pub use Rattle.go_exprs_elsewhere.proofs.Typing.{typed_elsewhere}
