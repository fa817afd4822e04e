-- What the proofs of other crates use of this crate's proofs. Declares nothing.
pub use Rattle.go_exprs_rules.proofs.Firsts.{decided, earlier_assoc, keeps, least_append, takes}
pub use Rattle.go_exprs_rules.proofs.Parts.{drop_step, earlier_none, known_at, known_behind, seen_out}
