-- What the proofs of other crates use of this crate's proofs. Declares nothing.
pub use Rattle.go_tokens.proofs.Encodings.{one_text}
pub use Rattle.go_tokens.proofs.Examples.{lexes_by_test}
pub use Rattle.go_tokens.proofs.Lists.{both, same_text-true, true_false}
pub use Rattle.go_tokens.proofs.Ordered.{piece_some, placed, tokens_ordered}
pub use Rattle.go_tokens.proofs.Places.{OldRange, edited, old_range}
pub use Rattle.go_tokens.proofs.Replace.{all_both, cut_first, cut_front, cut_second, items_append, items_blanks, items_range, line_ends_append, line_ends_blanks, line_ends_old, line_ends_token, no_semicolon, old_blanks, token_items}
pub use Rattle.go_tokens.proofs.Seams.{and_both, not_false}
pub use Rattle.go_tokens.proofs.SoFar.{join_two}
pub use Rattle.go_tokens.proofs.Spelled.{rune_token, spelling, text_token}
pub use Rattle.go_tokens.proofs.Texts.{assembled_lexing, read_all}
pub use Rattle.go_tokens.proofs.Unique.{one_cut}
pub use Rattle.go_tokens.proofs.Widths.{width-append, width-nil}
