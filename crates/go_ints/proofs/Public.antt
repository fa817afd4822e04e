-- What the proofs of other crates use of this crate's proofs. Declares nothing.
pub use Rattle.go_ints.proofs.KindLaws.{wrapped_word}
pub use Rattle.go_ints.proofs.Words.{and_word, complement_fits, complement_word, narrow, or_word, product_word, shifted_fits, shifted_out, shifted_word, xor_word}
pub use Rattle.go_ints.proofs.Wrapped.{congruent-add, congruent-sub, congruent_same, congruent_wrapped, wrapped_congruent, wrapped_in_range}
