-- What the proofs of other crates use of this crate's proofs. Declares nothing.
pub use Rattle.go_meaning_numbers.proofs.Sides.{forward, backward, mirrored}
pub use Rattle.go_meaning_numbers.proofs.Renumbered.{start_moved}
