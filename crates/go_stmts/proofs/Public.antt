-- What the proofs of other crates use of this crate's proofs. Declares nothing.
pub use Rattle.go_stmts.proofs.Known.{all_more, function_stays}
