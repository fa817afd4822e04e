-- What the proofs of other crates use of this crate's proofs. Declares nothing.
pub use Rattle.go_exprs_types.proofs.EntryTypes.{entries_from, part_known}
