-- What the proofs of other crates use of this crate's proofs. Declares nothing.
pub use Rattle.edit_apply.proofs.Applied.{by_number, edited_number}
