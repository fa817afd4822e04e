-- What the proofs of other crates use of this crate's proofs. Declares nothing.
pub use Rattle.go_tree.proofs.Heights.{height, height-part, heights}
pub use Rattle.go_tree.proofs.Rows.{count-views}
pub use Rattle.go_tree.proofs.Tiles.{derives_tiles}
