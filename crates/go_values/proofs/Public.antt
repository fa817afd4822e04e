-- What the proofs of other crates use of this crate's proofs. Declares nothing.
pub use Rattle.go_values.proofs.Appending.{if_weaker, views_append}
pub use Rattle.go_values.proofs.Copying.{view_text}
pub use Rattle.go_values.proofs.Rows.{one_more, views_push}
pub use Rattle.go_values.proofs.Views.{view_nil, view_whole, nth_within}
