-- What the proofs of other crates use of this crate's proofs. Declares nothing.
pub use Rattle.go_stmts_tokens.proofs.Trees.{HasNames, OuterRule, has_inner, inner_within, is_outer, outer_rule}
