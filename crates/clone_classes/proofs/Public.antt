-- What the proofs of other crates use of this crate's proofs. Declares nothing.
pub use Rattle.clone_classes.proofs.Grouping.{functions-step, number-is, some-kept}
pub use Rattle.clone_classes.proofs.Groups.{members-are-same, members-are-windows, no-window-in-two, same-stand-together}
pub use Rattle.clone_classes.proofs.Sameness.{numbers, within}
