-- What the proofs of other crates use of this crate's proofs. Declares nothing.
pub use Rattle.go_heads_added.proofs.Derived.{clause_behind}
pub use Rattle.go_heads_added.proofs.Closing.{both_count, both_ways, two_more, with_more}
pub use Rattle.go_heads_added.proofs.Named.{clauses_named, have_names}
