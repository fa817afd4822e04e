-- What the proofs of other crates use of this crate's proofs. Declares nothing.
pub use Rattle.go_renumbering.proofs.Shifted.{behind_more}
