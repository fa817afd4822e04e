-- What the proofs of other crates use of this crate's proofs. Declares nothing.
pub use Rattle.go_scopes_cycles.proofs.AllNeeded.{AllKnown, all_same, drop_read, each_known, itself, known_all, needs_none, needs_some, or_last, there_all}
pub use Rattle.go_scopes_cycles.proofs.Ranked.{place_sound}
