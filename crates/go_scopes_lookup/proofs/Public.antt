-- What the proofs of other crates use of this crate's proofs. Declares nothing.
pub use Rattle.go_scopes_lookup.proofs.Owned.{uses_own}
pub use Rattle.go_scopes_lookup.proofs.Places.{known_complete}
pub use Rattle.go_scopes_lookup.proofs.Sorting.{not_local}
pub use Rattle.go_scopes_lookup.proofs.Stacks.{one_text}
pub use Rattle.go_scopes_lookup.proofs.Tables.{drop-back}
pub use Rattle.go_scopes_lookup.proofs.Told.{get_some}
