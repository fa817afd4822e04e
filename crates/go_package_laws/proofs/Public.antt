-- What the proofs of other crates use of this crate's proofs. Declares nothing.
pub use Rattle.go_package_laws.proofs.Agreeing.{underlying_within}
pub use Rattle.go_package_laws.proofs.Judged.{judged_so, limit_faults, right_same}
pub use Rattle.go_package_laws.proofs.Needs.{as_many_rights, each_more, maybe_more, needs_more, object_same, right_entry, right_there, stands_more, within_more}
pub use Rattle.go_package_laws.proofs.Parts.{ListPlaced, Placed, at_it, both, either, unassignable_at, undefaulted_at}
pub use Rattle.go_package_laws.proofs.Rounds.{at_next, next_length}
pub use Rattle.go_package_laws.proofs.Stages.{are_found}
pub use Rattle.go_package_laws.proofs.Typing.{typed_so}
pub use Rattle.go_package_laws.proofs.Typings.{faults_at_nodes, typing_placed}
pub use Rattle.go_package_laws.proofs.Values.{branch, part_type_within, predeclared_within, sort_within, value_within}
