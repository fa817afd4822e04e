-- What the proofs of other crates use of this crate's proofs. Declares nothing.
pub use Rattle.go_function_holes.proofs.Below.{Below, IsPart, Operand, deeper, deeper-path, holes-here, itself}
pub use Rattle.go_function_holes.proofs.ExpressionKinds.{expression-kind, judges_values, operand-takes}
pub use Rattle.go_function_holes.proofs.Expressions.{by-form, shaped-kind}
pub use Rattle.go_function_holes.proofs.Found.{At, all-at, all-both, among-found, holes-found}
pub use Rattle.go_function_holes.proofs.Holed.{AllHoles, AllSound, EachSound, Here, Holes, OfHole, PartHoles, PartSound, Sound, all-weaker, both, differ, each-row, either, given-holes, here-weaker, holes-weaker, is_whole, retyped-constant, sound, ungiven}
pub use Rattle.go_function_holes.proofs.Operands.{typed-part, typed-unheld}
pub use Rattle.go_function_holes.proofs.Typed.{IsOpen, TypedPart, back-faultless, behind-asked, behind-more, behind-skip, behind-there, cut-known, front-faultless, open-free, rules-next, rules_behind, shaped-more, shaped-skip, sound-known, type-cut}
