-- What the proofs of other crates use of this crate's proofs. Declares nothing.
pub use Rattle.go_package_added.proofs.Inserted.{beyond_first, beyond_suc, beyond_zero}
pub use Rattle.go_package_added.proofs.Rounds.{behind_it, in_front}
