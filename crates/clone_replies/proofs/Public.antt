-- What the proofs of other crates use of this crate's proofs. Declares nothing.
pub use Rattle.clone_replies.proofs.Read.{OfFiles, same-sources}
