-- What the proofs of other crates use of this crate's proofs. Declares nothing.
pub use Rattle.go_eval_machine.proofs.Again.{laid_value}
pub use Rattle.go_eval_machine.proofs.Begins.{as_many, out_itself}
pub use Rattle.go_eval_machine.proofs.Between.{above_is, begins_both, between_is, take_twice}
pub use Rattle.go_eval_machine.proofs.Gathering.{drop_over, drop_short, drop_taken}
pub use Rattle.go_eval_machine.proofs.Going.{goes_given, goes_kept, goes_laid, goes_on, goes_pushed, goes_same, goes_spent, goes_undecided, goes_unspent, goes_worlded, kept_state, pushed_state}
pub use Rattle.go_eval_machine.proofs.GoingAssignments.{goes_behind, goes_stored, goes_written, kept_itself, kept_on}
pub use Rattle.go_eval_machine.proofs.Looping.{same_before}
pub use Rattle.go_eval_machine.proofs.Performing.{operation_gives}
pub use Rattle.go_eval_machine.proofs.Rests.{Same, SameOut, back, begins_body, begins_each_drop, begins_round, begins_then, front, gives_nothing, same_refl, same_sym, then_before, then_both}
pub use Rattle.go_eval_machine.proofs.Stepping.{drop_at, drop_past}
pub use Rattle.go_eval_machine.proofs.Storing.{then_left, then_to}
pub use Rattle.go_eval_machine.proofs.Tasks.{fit_below, one_on_top}
pub use Rattle.go_eval_machine.proofs.Values.{nth_drop, view_truth}
