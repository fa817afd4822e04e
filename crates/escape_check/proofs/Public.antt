-- What the proofs of other crates use of this crate's proofs. Declares nothing.
pub use Rattle.escape_check.proofs.AtSites.{one_text}
pub use Rattle.escape_check.proofs.KnownTypes.{handed_known, variables_known}
pub use Rattle.escape_check.proofs.Steps.{text_is}
