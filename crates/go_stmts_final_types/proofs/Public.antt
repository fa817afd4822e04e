-- What the proofs of other crates use of this crate's proofs. Declares nothing.
pub use Rattle.go_stmts_final_types.proofs.Declared.{Given, Single, is_single, clear_given, clear_single, constant_is, unassigned_type}
pub use Rattle.go_stmts_final_types.proofs.Expressions.{typing_known}
pub use Rattle.go_stmts_final_types.proofs.Facts.{Clear, Fact, Fits, reads, type_named}
pub use Rattle.go_stmts_final_types.proofs.Families.{assignable_families}
pub use Rattle.go_stmts_final_types.proofs.Placed.{MeansGood, node_known}
pub use Rattle.go_stmts_final_types.proofs.Known.{known_sort}
