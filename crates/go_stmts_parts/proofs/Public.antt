-- What the proofs of other crates use of this crate's proofs. Declares nothing.
pub use Rattle.go_stmts_parts.proofs.Arrays.{limits_told}
pub use Rattle.go_stmts_parts.proofs.Loops.{last_known}
