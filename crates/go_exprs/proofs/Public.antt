-- What the proofs of other crates use of this crate's proofs. Declares nothing.
pub use Rattle.go_exprs.proofs.Final.{AllDerive, parts_derive}
pub use Rattle.go_exprs.proofs.Literals.{file_reads}
