-- What the proofs of other crates use of this crate's proofs. Declares nothing.
pub use Rattle.go_declarations.proofs.Surveys.{part_known, part_stays}
