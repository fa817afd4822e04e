-- What the proofs of other crates use of this crate's proofs. Declares nothing.
pub use Rattle.go_grammar.proofs.Check.{first_word}
pub use Rattle.go_grammar.proofs.Ranges.{between_end, between_order, close_order, derives_grows, derives_order, gap_order, goes_order, lies_within, spells_end, spells_order, word_grows, words_order}
pub use Rattle.go_grammar.proofs.Rows.{all, and_both, categories, categories_at, every, every_at, kinds, kinds_at, same_category, same_category-is}
pub use Rattle.go_grammar.proofs.Sound.{next_between, read_stands, spell_stands, words_stand}
pub use Rattle.go_grammar.proofs.Starts.{begins_at, first_word_at}
pub use Rattle.go_grammar.proofs.Steps.{grow_on, read_on, tends_one, tends_step}
pub use Rattle.go_grammar.proofs.Unique.{file_found, one_file, unique}
pub use Rattle.go_grammar.proofs.Words.{at-is_word}
