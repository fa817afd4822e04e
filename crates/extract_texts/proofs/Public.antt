-- What the proofs of other crates use of this crate's proofs. Declares nothing.
pub use Rattle.extract_texts.proofs.Places.{places_told}
pub use Rattle.extract_texts.proofs.Seen.{chosen-there, member-there, template-there}
