-- What the proofs of other crates use of this crate's proofs. Declares nothing.
pub use Rattle.go_stmts_elsewhere.proofs.Placing.{placed_here, placed_other, placed_room}
