-- What the proofs of other crates use of this crate's proofs. Declares nothing.
pub use Rattle.go_meaning_simulation.proofs.Following.{Frames, Exits, after, values_in, ending_with, tolled, Meets, Follows}
pub use Rattle.go_meaning_simulation.proofs.Rooms.{Room, no_frames, exits}
pub use Rattle.go_meaning_simulation.proofs.Rows.{go_on_twice, go_on_same, go_on_gives, values_joined, in_order_joined}
pub use Rattle.go_meaning_simulation.proofs.Programs.{Base, Mate, Mates, neither, both, Claim, FunctionsMatch, WindowsFollow, Setting, chain_step, bounded_follow, program_follows}
pub use Rattle.go_meaning_simulation.proofs.Flip.{flip_links, flip_statement, flip_chain, flip_all, flip_room}
pub use Rattle.go_meaning_simulation.proofs.Runs.{toll_at_most, run_meets}
pub use Rattle.go_meaning_simulation.proofs.Locals.{set_here, set_there, Same, same_by, agree_set, body_room, window_room, empty_agree, calls_begin}
pub use Rattle.go_meaning_simulation.proofs.Matched.{runs_same}
pub use Rattle.go_meaning_simulation.proofs.Equal.{equal, equal_mirror, goes_both, AllIn, both_alike}
pub use Rattle.go_meaning_simulation.proofs.Sight.{sight, plan_sight, parameter_seen}
