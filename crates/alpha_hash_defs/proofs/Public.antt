-- What the proofs of other crates use of this crate's proofs. Declares nothing.
pub use Rattle.alpha_hash_defs.proofs.Functions.{own-windows}
pub use Rattle.alpha_hash_defs.proofs.Texts.{name-is}
pub use Rattle.alpha_hash_defs.proofs.Windows.{hash-lawful, lawful-alone}
