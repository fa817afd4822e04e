-- What the proofs of other crates use of this crate's proofs. Declares nothing.
pub use Rattle.go_scopes_bodies.proofs.EnoughRounds.{BoundRounds, NoneItself, cycles_none, enough_rounds, none_cycles}
