-- What the proofs of other crates use of this crate's proofs. Declares nothing.
pub use Rattle.go_scopes.proofs.RepeatedLists.{hides_alike, hides_both, uses_both}
