-- What the proofs of other crates use of this crate's proofs. Declares nothing.
pub use Rattle.go_stmts_scopes.proofs.Derivations.{shaped_brackets, derived_simple}
pub use Rattle.go_stmts_scopes.proofs.Shapes.{statement_scoped, function_scoped, chain}
pub use Rattle.go_stmts_scopes.proofs.Simple.{more_shape, closed_shape, define_read, post_read, first_read}
pub use Rattle.go_stmts_scopes.proofs.Typed.{typing_runs}
pub use Rattle.go_stmts_scopes.proofs.TypedStatements.{reading_simple}
