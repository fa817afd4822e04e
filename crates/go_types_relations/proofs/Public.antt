-- What the proofs of other crates use of this crate's proofs. Declares nothing.
pub use Rattle.go_types_relations.proofs.Booleans.{fails, holds, same_truth}
pub use Rattle.go_types_relations.proofs.Calls.{defined_or_open, open_told, shape_tree}
pub use Rattle.go_types_relations.proofs.Counting.{told_scalars}
pub use Rattle.go_types_relations.proofs.Extending.{declared_extends, defined_extends, extends_both, extends_self, grows_both, grows_self, tree_stays}
pub use Rattle.go_types_relations.proofs.Interning.{declared_rights}
pub use Rattle.go_types_relations.proofs.Renaming.{assignable_renamed, comparability_renamed, identical_renamed, scalars_renamed, underlying_renamed}
pub use Rattle.go_types_relations.proofs.Rounds.{asked_holds, nothing_entry, round_entry}
pub use Rattle.go_types_relations.proofs.Underlyings.{told_underlying, underlying_told}
pub use Rattle.go_types_relations.proofs.Zeros.{counted_told, zero_counted, zero_of_underlying}
