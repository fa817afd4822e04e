-- What the proofs of other crates use of this crate's proofs. Declares nothing.
pub use Rattle.go_meaning.proofs.Bound.{bound_does_not_show}
pub use Rattle.go_meaning.proofs.Growing.{AllGrow, AllGrown, Grown, Grows, act_grown, applied_grows, assigned_rest_grows, at_grown, blank_grown, cell_grown, choose_grows, chosen_grown, clause_grows, doing_grown, each_grows, element_found_grows, element_grown, element_stored_grows, end_grows, enter_grows, field_grown, finds_grow, give_grows, go_down_grows, go_on_grows, go_round_grows, in_order_grows, index_found_grows, iterated_grows, leave_grows, local_grown, looped_grows, match_rest_grows, name_grown, operate_grows, operated_last_grows, operated_rest_grows, over_grows, plain_grown, read_grows, selected_grows, spend_grows, stored_grows, stores_grow, take_grown, then_grows, undecided_grows, values_grow, variable_grown, write_grows}
pub use Rattle.go_meaning.proofs.Trees.{bounded_grows, called_grows, meanings_grown}
