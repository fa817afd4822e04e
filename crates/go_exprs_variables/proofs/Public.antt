-- What the proofs of other crates use of this crate's proofs. Declares nothing.
pub use Rattle.go_exprs_variables.proofs.Agreeing.{form_unkeyed, given_agrees, is_keyed_kind, leaf_agrees, typing_agrees}
pub use Rattle.go_exprs_variables.proofs.Assembly.{Become, assembled, has_taken, is_some_row, keeps_type, left_out, no_more, one, taken_once}
pub use Rattle.go_exprs_variables.proofs.Away.{AllClear, Clear, begun_nothing, clear_away}
pub use Rattle.go_exprs_variables.proofs.Begun.{begun_by, not_wanted, there as stands_there, typed_operand, unless_none, wanted_is}
pub use Rattle.go_exprs_variables.proofs.Comparisons.{Compared, compared, compared_is, comparison, sooner, there}
pub use Rattle.go_exprs_variables.proofs.Defaults.{default_comparable, default_suits}
pub use Rattle.go_exprs_variables.proofs.Expressing.{unheld}
pub use Rattle.go_exprs_variables.proofs.Given.{no_place, passed, passes, unassignable_kept}
pub use Rattle.go_exprs_variables.proofs.Holes.{all_of, found_nothing, nothing_found, of_all}
pub use Rattle.go_exprs_variables.proofs.Identical.{assignable_itself}
pub use Rattle.go_exprs_variables.proofs.Identities.{tree_self}
pub use Rattle.go_exprs_variables.proofs.Indexes.{family_kept, text_kept, whole_kept}
pub use Rattle.go_exprs_variables.proofs.Induction.{new_part, news}
pub use Rattle.go_exprs_variables.proofs.Law.{expressions_are_typed}
pub use Rattle.go_exprs_variables.proofs.Lists.{All, all_new, each, length_new, news_each, present_each}
pub use Rattle.go_exprs_variables.proofs.Meeting.{Meets, Seen, both_of, common_meets, meet, meets, seen, sooner as meets_sooner, there as meets_there, unchanged}
pub use Rattle.go_exprs_variables.proofs.Named.{expression_operand, is_operand}
pub use Rattle.go_exprs_variables.proofs.NodeSteps.{rule_of}
pub use Rattle.go_exprs_variables.proofs.Operands.{Defaulting, Fitting, Ready, calls_kept, closed_default, closed_so, default_operand, keys_kept, open_default, open_so, operand, quiet_is, settled_sort, varies_given}
pub use Rattle.go_exprs_variables.proofs.Parts.{both_none, held, holds, neither, none_of_both, of_neither}
pub use Rattle.go_exprs_variables.proofs.Ready.{operand_facts, split_operand, valued_expresses}
pub use Rattle.go_exprs_variables.proofs.Same.{faults_kept, same_tree, typed_same}
pub use Rattle.go_exprs_variables.proofs.Standing.{behind, clear_leaf, clear_settled, still_free, typing_clear, typings_are}
pub use Rattle.go_exprs_variables.proofs.Trees.{Agrees, AllAgree, KeyAgrees, commutes, is_key, plain_sort}
pub use Rattle.go_exprs_variables.proofs.Waits.{known_sort, placed_kind}
