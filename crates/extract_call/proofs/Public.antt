-- What the proofs of other crates use of this crate's proofs. Declares nothing.
pub use Rattle.extract_call.proofs.Tails.{Returning, tail_follows, tail_follows_back}
