-- What the proofs of other crates use of this crate's proofs. Declares nothing.
pub use Rattle.go_exprs_calls.proofs.Counts.{list_more}
pub use Rattle.go_exprs_calls.proofs.Lists.{back_known, length-mapped, length-shown, mapped_step}
pub use Rattle.go_exprs_calls.proofs.Steps.{fault_step, known_step, shown_step}
