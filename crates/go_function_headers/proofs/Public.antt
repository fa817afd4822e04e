-- What the proofs of other crates use of this crate's proofs. Declares nothing.
pub use Rattle.go_function_headers.proofs.Levels.{carries_depth, carry_depth, function_low}
