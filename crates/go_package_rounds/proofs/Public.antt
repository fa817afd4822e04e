-- What the proofs of other crates use of this crate's proofs. Declares nothing.
pub use Rattle.go_package_rounds.proofs.Judged.{same_summary, seen_at}
pub use Rattle.go_package_rounds.proofs.Listed.{element, first_length, outlines_length}
pub use Rattle.go_package_rounds.proofs.RightSides.{held_are, held_at, known_at}
pub use Rattle.go_package_rounds.proofs.Settled.{next_same, same_at}
pub use Rattle.go_package_rounds.proofs.Standings.{head_same, sound_tests, tail_same}
pub use Rattle.go_package_rounds.proofs.Stays.{all_more, all_stay, fits_more, named_more, right_more, right_stays, stand_more, standings_more}
