-- What the proofs of other crates use of this crate's proofs. Declares nothing.
pub use Rattle.go_rewriting.proofs.Kept.{Stay, derives_kept, first_carry, last_carry, soft_same, words_kept}
pub use Rattle.go_rewriting.proofs.Mild.{part_mild, text_elsewhere}
pub use Rattle.go_rewriting.proofs.Order.{derives_ordered, goes_ordered, row_order, spells_ordered, tree_order}
