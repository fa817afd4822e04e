-- What the proofs of other crates use of this crate's proofs. Declares nothing.
pub use Rattle.go_base.proofs.Gives.{gives_stop, meets_map, unless_map}
